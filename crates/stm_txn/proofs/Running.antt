-- A branch that no operation refuses.
use Rattle.std.proofs.Common.{◌≡◌, ℕ, ◌+◌, Bool, true, false, cond, List, [], ◌∷◌, ◌++◌, Option, Some, None, refl, sym, ◌∙◌, ap, arith}
use Rattle.std.specs.Prelude.{nat_eq, ◌||◌, ◌&&◌, is_some, IsSome}
use Rattle.std.specs.FinMap as finmap
use Rattle.std.proofs.lemmas.Bool.{le-leb, ltb-false, Decides.nat_tests}
use Rattle.stm_history.specs.declared.change.Change.{Change}
use Rattle.stm_history.specs.declared.change.Change.TheVariants.{Put as PutChange, Del as DelChange}
use Rattle.std.specs.List.{list_any}
use Rattle.stm_history.specs.declared.key_state.KeyState.{KeyState}
use Rattle.stm_history.specs.History.{History, now, key_now, key_of, change_of, after_change, HasDistinctKeys}
use Rattle.stm_keys.specs.Keys.{DeletePresent}
use Rattle.stm_outcome.specs.Operations.{clash}
use Rattle.stm_outcome.specs.Checks.{has_clash}
use Rattle.stm_outcome.proofs.Branching.{neither, all_fit, HasDistinctKeys-push, puts_fit, dels_fit, first_deletion, nothing_before}
use Rattle.stm_outcome.specs.declared.txn.Op.{Op}
use Rattle.stm_outcome.specs.declared.txn.Op.TheVariants.{Get, Put, Del}
use Rattle.stm_outcome.specs.declared.refusal.Refusal.TheVariants.{LeaseNotFound}
use Rattle.stm_outcome.specs.Branches.{deletion_of, is_readable, are_readable, op_refusal, branch_refusal}
use Rattle.stm_outcome.specs.LookUps.{copy, with_copied, changes_copied}
use Rattle.stm_leases.specs.Live.{Live}
use Rattle.stm_txn.specs.Leasing.{attached_by, with_attach, attached_of, AttachedToLive}
use Rattle.stm_outcome.specs.Terms.{Terms}
use Rattle.stm_txn.specs.Standing.{Standing, terms_of}
use Rattle.stm_outcome.proofs.Widening.{both_none, reached_case}

one_readable : (terms : Terms) (op : Op) → op_refusal terms op ≡ None → is_readable (now terms.history) op ≡ true
one_readable terms op none = grind (arith, nat_tests, le-leb, ltb-false, reached_case)

pub all_readable : (terms : Terms) (ops : List Op) → branch_refusal terms ops ≡ None → are_readable (now terms.history) ops ≡ true
all_readable terms [] none = refl
all_readable terms (op ∷ ops) none =
    let parts : (op_refusal terms op ≡ None) × (branch_refusal terms ops ≡ None) = both_none (op_refusal terms op) (branch_refusal terms ops) none in
    ap (λ b. b && are_readable (now terms.history) ops) (one_readable terms op parts.0) ∙ all_readable terms ops parts.1

-- one more change at the end attaches its key after the others
with_attach-append : (key : List ℕ) (to : Option ℕ) (xs ys : List (List ℕ × ℕ)) → with_attach key to xs ++ ys ≡ with_attach key to (xs ++ ys)
with_attach-append key to xs ys = grind (arith, nat_tests)

attached_of-push : (cs : List Change) (c : Change) → attached_of (cs ++ c ∷ []) ≡ attached_of cs ++ with_attach (key_of c) (attached_by c) []
attached_of-push [] c = refl
attached_of-push (d ∷ ds) c = grind (arith, nat_tests, with_attach-append, attached_of-push ds c)

live-append : (live : Live) (xs ys : List (List ℕ × ℕ)) → AttachedToLive live xs → AttachedToLive live ys → AttachedToLive live (xs ++ ys)
live-append live [] ys on_xs on_ys = on_ys
live-append live (x ∷ xs) ys on_xs on_ys = (on_xs.0, live-append live xs ys on_xs.1 on_ys)

named_case : (live : Live) (key : List ℕ) (lease : ℕ) (zero_lease : Bool) →
    cond (zero_lease || finmap.contains_key live lease) None (Some LeaseNotFound) ≡ None →
    AttachedToLive live (with_attach key (cond zero_lease None (Some lease)) [])
named_case live key lease zero_lease none = grind (arith, nat_tests)

live_push : (live : Live) (cs : List Change) (c : Change) → AttachedToLive live (attached_of cs) → AttachedToLive live (with_attach (key_of c) (attached_by c) []) →
    AttachedToLive live (attached_of (cs ++ c ∷ []))
live_push live cs c before one = grind (arith, nat_tests, attached_of-push, live-append)

-- what a branch attaches, it attaches to live leases
live_after : (s : Standing) (done : List Change) (ops : List Op) → branch_refusal (terms_of s) ops ≡ None → AttachedToLive s.live (attached_of done) →
    AttachedToLive s.live (attached_of (changes_copied s.history done ops))
live_after s done [] none before = before
live_after s done (Get key rev ∷ ops) none before =
    live_after s done ops (both_none (op_refusal (terms_of s) (Get key rev)) (branch_refusal (terms_of s) ops) none).1 before
live_after s done (Put key value lease ∷ ops) none before =
    let parts : (op_refusal (terms_of s) (Put key value lease) ≡ None) × (branch_refusal (terms_of s) ops ≡ None) =
    both_none (op_refusal (terms_of s) (Put key value lease)) (branch_refusal (terms_of s) ops) none in
    live_after s (done ++ PutChange key value lease ∷ []) ops parts.1
    (live_push s.live done (PutChange key value lease) before (named_case s.live key lease (nat_eq lease 0) parts.0))
live_after s done (Del key ∷ ops) none before =
    elim (copy s.history done key) as (λ o. AttachedToLive s.live (attached_of (changes_copied s.history (with_copied done (deletion_of key o)) ops))) [
      | None ↦ live_after s done ops none before
      | Some state ↦ live_after s (done ++ DelChange key ∷ []) ops none (live_push s.live done (DelChange key) before tt)
    ]

pub attaches_live : (s : Standing) (ops : List Op) → branch_refusal (terms_of s) ops ≡ None →
    AttachedToLive s.live (attached_of (changes_copied s.history [] ops))
attaches_live s ops none = live_after s [] ops none tt

-- nothing is used up below the highest revision, or without changes
pub none_used : (b : Bool) → (b && false) ≡ false
none_used b = grind (arith, nat_tests)

pub all_used : (b : Bool) → (b && true) ≡ b
all_used b = grind (arith, nat_tests)

-- A branch deletes only what is present, where it changes no key twice.
pub DeletePresent-push : (h : History) (cs : List Change) (c : Change) → DeletePresent h cs → DeletePresent h (c ∷ []) → DeletePresent h (cs ++ c ∷ [])
DeletePresent-push h [] c before one = one
DeletePresent-push h (PutChange key value lease ∷ ds) c before one = DeletePresent-push h ds c before one
DeletePresent-push h (DelChange key ∷ ds) c before one = (before.0, DeletePresent-push h ds c before.1 one)

present_before : (n : ℕ) (o : Option Change) (before : Option KeyState) (s : KeyState) → o ≡ None → after_change n o before ≡ Some s → IsSome before
present_before n o before s none is = ap (λ (k : Option KeyState). is_some k) (sym (ap (λ p. after_change n p before) none) ∙ is)

present_on : (h : History) (changes : List Change) (ops : List Op) → DeletePresent h changes → HasDistinctKeys changes → all_fit changes ops
    → has_clash ops ≡ false →
    DeletePresent h (changes_copied h changes ops)
present_on h changes [] present distinct fit apart = present
present_on h changes (Get key rev ∷ ops) present distinct fit apart =
    present_on h changes ops present distinct fit.1 (neither (list_any (clash (Get key rev)) ops) (has_clash ops) apart).1
present_on h changes (Put key value lease ∷ ops) present distinct fit apart =
    let split : (list_any (clash (Put key value lease)) ops ≡ false) × (has_clash ops ≡ false) =
    neither (list_any (clash (Put key value lease)) ops) (has_clash ops) apart in
    let c : Change = PutChange key value lease in
    present_on h (changes ++ c ∷ []) ops (DeletePresent-push h changes c present tt) (HasDistinctKeys-push changes c distinct fit.0)
    (puts_fit changes key value lease ops fit.1 split.0) split.1
present_on h changes (Del key ∷ ops) present distinct fit apart =
    let split : (list_any (clash (Del key)) ops ≡ false) × (has_clash ops ≡ false) = neither (list_any (clash (Del key)) ops) (has_clash ops) apart in
    elim (copy h changes key) as (λ s. copy h changes key ≡ s → DeletePresent h (changes_copied h (with_copied changes (deletion_of key s)) ops)) [
      | None ↦ λ is. present_on h changes ops present distinct fit.1 split.1
      | Some s ↦ λ is.
          let first : change_of key changes ≡ None = first_deletion (now h + 1) (change_of key changes) (key_now h key) (Some s) s fit.0 is refl in
          present_on h (changes ++ DelChange key ∷ []) ops
          (DeletePresent-push h changes (DelChange key) present (present_before (now h + 1) (change_of key changes) (key_now h key) s first is, tt))
          (HasDistinctKeys-push changes (DelChange key) distinct first) (dels_fit changes key ops fit.1 split.0) split.1
    ] refl

pub deletes_present : (h : History) (ops : List Op) → has_clash ops ≡ false → DeletePresent h (changes_copied h [] ops)
deletes_present h ops apart = present_on h [] ops tt tt (nothing_before ops) apart
