-- The changes of a branch: when there are any, that they are about distinct keys, and that they are the effect of its writes.
use Rattle.std.proofs.Common.{◌≡◌, ℕ, ◌+◌, Bool, true, false, cond, List, [], ◌∷◌, ◌++◌, map, Option, Some, None, refl, sym, ◌∙◌, ap, append_assoc, arith}
use Rattle.std.specs.Prelude.{bytes_eq, is_some, ◌||◌, filter}
use Rattle.std.specs.List.{list_any}
use Rattle.std.proofs.lemmas.List.{append-nil}
use Rattle.std.proofs.lemmas.Slice.Eq.{bytes_eq-Decides}
use Rattle.std.proofs.lemmas.Bool.Decides.{nat_tests}
use Rattle.stm_history.specs.declared.change.Change.{Change}
use Rattle.stm_history.specs.declared.change.Change.TheVariants.{Put as PutChange, Del as DelChange}
use Rattle.stm_history.specs.declared.key_state.KeyState.{KeyState}
use Rattle.stm_history.specs.History.{History, now, key_now, key_of, change_of, after_change, HasDistinctKeys}
use Rattle.stm_outcome.specs.declared.txn.Op.{Op}
use Rattle.stm_outcome.specs.declared.txn.Op.TheVariants.{Get, Put, Del}
use Rattle.stm_outcome.specs.Operations.{clash}
use Rattle.stm_outcome.specs.Checks.{has_clash}
use Rattle.stm_outcome.specs.Branches.{deletion_of, has_changes}
use Rattle.stm_outcome.specs.LookUps.{copy, change_copied, with_copied, changes_copied}
use Rattle.stm_outcome.specs.Effect.{op_of, changes_something}

-- a branch that has changed something has done so to its end
pub stays_changed : (h : History) (c : Change) (cs : List Change) (ops : List Op) → has_changes (changes_copied h (c ∷ cs) ops) ≡ true
stays_changed h c cs [] = refl
stays_changed h c cs (op ∷ ops) =
    elim (change_copied h (c ∷ cs) op) as (λ m. has_changes (changes_copied h (with_copied (c ∷ cs) m) ops) ≡ true) [
      | None ↦ stays_changed h c cs ops
      | Some d ↦ stays_changed h c (cs ++ d ∷ []) ops
    ]

pub changed_at_first : (h : History) (op : Op) (ops : List Op) → is_some (change_copied h [] op) ≡ true → has_changes (changes_copied h [] (op ∷ ops)) ≡ true
changed_at_first h op ops made = grind (arith, nat_tests, stays_changed)

-- one of two changes of a key, the earlier one where there is one
abbrev pub earlier : Option Change → Option Change → Option Change
earlier None later = later
earlier (Some c) later = Some c

abbrev pub alone : List ℕ → Change → Option Change
alone key c = cond (bytes_eq (key_of c) key) (Some c) None

earlier_case : (b : Bool) (c : Change) (d later : Option Change) → cond b (Some c) (earlier d later) ≡ earlier (cond b (Some c) d) later
earlier_case b c d later = grind (arith, nat_tests)

pub change_of-push : (key : List ℕ) (changes : List Change) (c : Change) → change_of key (changes ++ c ∷ []) ≡ earlier (change_of key changes) (alone key c)
change_of-push key [] c = refl
change_of-push key (d ∷ ds) c = grind (arith, nat_tests, earlier_case, change_of-push key ds c)

-- equal bytes, from either side
pub same_text : (a b : List ℕ) → bytes_eq a b ≡ true → a ≡ b
same_text a b equal = (bytes_eq-Decides a b).0 equal

pub equal_text : (a b : List ℕ) → a ≡ b → bytes_eq a b ≡ true
equal_text a b same = (bytes_eq-Decides a b).1 same

-- a key that no change is about is another than the key of each
pub apart_case : (b : Bool) (c : Change) (d : Option Change) → cond b (Some c) d ≡ None → (b ≡ false) × (d ≡ None)
apart_case b c d none = grind (arith, nat_tests)

pub apart_back : (a b : List ℕ) → bytes_eq a b ≡ false → bytes_eq b a ≡ false
apart_back a b apart = grind (arith, nat_tests, equal_text, same_text)

pub HasDistinctKeys-push : (changes : List Change) (c : Change) → HasDistinctKeys changes → change_of (key_of c) changes ≡ None →
    HasDistinctKeys (changes ++ c ∷ [])
HasDistinctKeys-push [] c distinct absent = (refl, tt)
HasDistinctKeys-push (d ∷ ds) c distinct absent =
    let split : (bytes_eq (key_of d) (key_of c) ≡ false) × (change_of (key_of c) ds ≡ None) =
    apart_case (bytes_eq (key_of d) (key_of c)) d (change_of (key_of c) ds) absent in (
      change_of-push (key_of d) ds c
          ∙ ap (λ o. earlier o (alone (key_of d) c)) distinct.0
          ∙ ap (λ b. cond b (Some c) None) (apart_back (key_of d) (key_of c) split.0),
      HasDistinctKeys-push ds c distinct.1 split.1,
    )

-- An operation fits changes before it: a put's key has none, and a deletion's key was not put.
abbrev pub deleted_only : Option Change → Type 0
deleted_only None = Unit {0}
deleted_only (Some c) = is_deletion c
  where
    is_deletion : Change → Type 0
    is_deletion (PutChange key value lease) = ⊥
    is_deletion (DelChange key) = Unit {0}

abbrev pub fits : List Change → Op → Type 0
fits changes (Get key rev) = Unit {0}
fits changes (Put key value lease) = change_of key changes ≡ None
fits changes (Del key) = deleted_only (change_of key changes)

abbrev pub all_fit : List Change → List Op → Type 0
all_fit changes [] = Unit {0}
all_fit changes (op ∷ ops) = fits changes op × all_fit changes ops

pub earlier-none : (o : Option Change) → earlier o None ≡ o
earlier-none o = grind (arith, nat_tests)

beside : (changes : List Change) (key : List ℕ) (c : Change) → bytes_eq (key_of c) key ≡ false → change_of key (changes ++ c ∷ []) ≡ change_of key changes
beside changes key c apart = grind (arith, nat_tests, earlier-none, change_of-push)

put_fits : (changes : List Change) (key value : List ℕ) (lease : ℕ) (later : Op) → fits changes later → clash (Put key value lease) later ≡ false →
    fits (changes ++ PutChange key value lease ∷ []) later
put_fits changes key value lease later before apart = grind (arith, nat_tests, beside)

del_fits : (changes : List Change) (key : List ℕ) (later : Op) → fits changes later → clash (Del key) later ≡ false → fits (changes ++ DelChange key ∷ []) later
del_fits changes key later before apart = grind (arith, nat_tests, beside, change_of-push)

pub neither : (a b : Bool) → (a || b) ≡ false → (a ≡ false) × (b ≡ false)
neither a b h = grind (arith, nat_tests)

pub puts_fit : (changes : List Change) (key value : List ℕ) (lease : ℕ) (ops : List Op) → all_fit changes ops
    → list_any (clash (Put key value lease)) ops ≡ false →
    all_fit (changes ++ PutChange key value lease ∷ []) ops
puts_fit changes key value lease [] before apart = tt
puts_fit changes key value lease (op ∷ ops) before apart =
    let split : (clash (Put key value lease) op ≡ false) × (list_any (clash (Put key value lease)) ops ≡ false) =
    neither (clash (Put key value lease) op) (list_any (clash (Put key value lease)) ops) apart in
    (put_fits changes key value lease op before.0 split.0, puts_fit changes key value lease ops before.1 split.1)

pub dels_fit : (changes : List Change) (key : List ℕ) (ops : List Op) → all_fit changes ops → list_any (clash (Del key)) ops ≡ false →
    all_fit (changes ++ DelChange key ∷ []) ops
dels_fit changes key [] before apart = tt
dels_fit changes key (op ∷ ops) before apart =
    let split : (clash (Del key) op ≡ false) × (list_any (clash (Del key)) ops ≡ false) = neither (clash (Del key) op) (list_any (clash (Del key)) ops) apart in
    (del_fits changes key op before.0 split.0, dels_fit changes key ops before.1 split.1)

-- a deletion of a key that the copy has is the key's first change
pub first_deletion : (n : ℕ) (o : Option Change) (before s : Option KeyState) (k : KeyState) → deleted_only o → after_change n o before ≡ s → s ≡ Some k
    → o ≡ None
first_deletion n o before s k only is some = grind (arith, nat_tests)

distinct_on : (h : History) (changes : List Change) (ops : List Op) → HasDistinctKeys changes → all_fit changes ops → has_clash ops ≡ false →
    HasDistinctKeys (changes_copied h changes ops)
distinct_on h changes [] distinct fit apart = distinct
distinct_on h changes (Get key rev ∷ ops) distinct fit apart =
    distinct_on h changes ops distinct fit.1 (neither (list_any (clash (Get key rev)) ops) (has_clash ops) apart).1
distinct_on h changes (Put key value lease ∷ ops) distinct fit apart =
    let split : (list_any (clash (Put key value lease)) ops ≡ false)
    × (has_clash ops ≡ false) = neither (list_any (clash (Put key value lease)) ops) (has_clash ops) apart in
    distinct_on h (changes ++ PutChange key value lease ∷ []) ops (HasDistinctKeys-push changes (PutChange key value lease) distinct fit.0)
    (puts_fit changes key value lease ops fit.1 split.0) split.1
distinct_on h changes (Del key ∷ ops) distinct fit apart =
    let split : (list_any (clash (Del key)) ops ≡ false) × (has_clash ops ≡ false) = neither (list_any (clash (Del key)) ops) (has_clash ops) apart in
    elim (copy h changes key) as (λ s. copy h changes key ≡ s → HasDistinctKeys (changes_copied h (with_copied changes (deletion_of key s)) ops)) [
      | None ↦ λ is. distinct_on h changes ops distinct fit.1 split.1
      | Some s ↦ λ is. distinct_on h (changes ++ DelChange key ∷ []) ops
          (HasDistinctKeys-push changes (DelChange key) distinct (first_deletion (now h + 1) (change_of key changes) (key_now h key) (Some s) s fit.0 is refl))
          (dels_fit changes key ops fit.1 split.0) split.1
    ] refl

-- nothing was changed before a branch
pub nothing_before : (ops : List Op) → all_fit [] ops
nothing_before [] = tt
nothing_before (Get key rev ∷ ops) = (tt, nothing_before ops)
nothing_before (Put key value lease ∷ ops) = (refl, nothing_before ops)
nothing_before (Del key ∷ ops) = (tt, nothing_before ops)

-- a branch without clashes changes no key twice
pub changes_are_distinct : (h : History) (ops : List Op) → has_clash ops ≡ false → HasDistinctKeys (changes_copied h [] ops)
changes_are_distinct h ops apart = distinct_on h [] ops tt (nothing_before ops) apart

-- none of these writes is about a key that was changed before
abbrev pub all_absent : List Change → List Change → Type 0
all_absent done [] = Unit {0}
all_absent done (w ∷ ws) = (change_of (key_of w) done ≡ None) × all_absent done ws

pub absent_push : (done : List Change) (c : Change) (ws : List Change) → change_of (key_of c) ws ≡ None → all_absent done ws → all_absent (done ++ c ∷ []) ws
absent_push done c [] apart before = tt
absent_push done c (w ∷ ws) apart before =
    let split : (bytes_eq (key_of w) (key_of c) ≡ false) × (change_of (key_of c) ws ≡ None) =
    apart_case (bytes_eq (key_of w) (key_of c)) w (change_of (key_of c) ws) apart in
    (beside done (key_of w) c (apart_back (key_of w) (key_of c) split.0) ∙ before.0, absent_push done c ws split.1 before.1)

effect_on : (h : History) (done ws : List Change) → HasDistinctKeys ws → all_absent done ws →
    changes_copied h done (map op_of ws) ≡ done ++ filter (changes_something (key_now h)) ws
effect_on h done [] distinct absent = sym (append-nil done)
effect_on h done (PutChange key value lease ∷ ws) distinct absent =
    effect_on h (done ++ PutChange key value lease ∷ []) ws distinct.1 (absent_push done (PutChange key value lease) ws distinct.0 absent.1)
    ∙ append_assoc done (PutChange key value lease ∷ []) (filter (changes_something (key_now h)) ws)
effect_on h done (DelChange key ∷ ws) distinct absent =
    ap (λ o. changes_copied h (with_copied done (deletion_of key (after_change (now h + 1) o (key_now h key)))) (map op_of ws)) absent.0
    ∙ elim (key_now h key) as (λ s. changes_copied h (with_copied done (deletion_of key s)) (map op_of ws)
    ≡ done ++ cond (is_some s) (DelChange key ∷ filter (changes_something (key_now h)) ws) (filter (changes_something (key_now h)) ws)) [
      | None ↦ effect_on h done ws distinct.1 absent.1
      | Some s ↦ effect_on h (done ++ DelChange key ∷ []) ws distinct.1 (absent_push done (DelChange key) ws distinct.0 absent.1)
          ∙ append_assoc done (DelChange key ∷ []) (filter (changes_something (key_now h)) ws)
    ]

pub effect_copied : (h : History) (ws : List Change) → HasDistinctKeys ws → changes_copied h [] (map op_of ws) ≡ filter (changes_something (key_now h)) ws
effect_copied h ws distinct = effect_on h [] ws distinct (nothing_done ws)
  where
    nothing_done : (ws : List Change) → all_absent [] ws
    nothing_done [] = tt
    nothing_done (w ∷ ws) = (refl, nothing_done ws)
