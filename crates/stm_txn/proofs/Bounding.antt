-- The leases that states name are numbers that fit.
use Rattle.std.proofs.Common.{◌≡◌, ℕ, ◌≤◌, Bool, true, cond, List, [], ◌∷◌, ◌++◌, Option, Some, None, refl, arith}
use Rattle.std.specs.Prelude.{nat_eq, nat_le, ◌&&◌, ◌||◌, is_some, IfSome}
use Rattle.std.specs.FinMap as finmap
use Rattle.std.proofs.lemmas.Bool.{cases_lt, leb-true, eqb-true, Decides.nat_tests}
use Rattle.stm_history.specs.declared.change.Change.{Change}
use Rattle.stm_history.specs.declared.change.Change.TheVariants.{Put as PutChange, Del as DelChange}
use Rattle.stm_history.specs.declared.key_state.KeyState.{KeyState}
use Rattle.stm_history.specs.declared.revisions.TheConstants.{HIGHEST_NUMBER}
use Rattle.stm_history.specs.Opening.{Opening}
use Rattle.stm_history.specs.Cut.{revisions_above, cut}
use Rattle.stm_history.specs.History.{History, key_at, key_after, change_of, after_change, revisions_up_to}
use Rattle.stm_history.proofs.HistoryLaws.{one_more}
use Rattle.stm_history.proofs.CutLaws.{cut_off, cut_at_the_opening, opened_by_cut}
use Rattle.stm_leases.specs.declared.bounds.TheConstants.{HIGHEST_ID}
use Rattle.stm_leases.specs.LeaseLog.{Term}
use Rattle.stm_leases.specs.Live.{Live, is_live_in, AreInRange}
use Rattle.stm_outcome.specs.declared.txn.Op.{Op}
use Rattle.stm_outcome.specs.declared.txn.Op.TheVariants.{Get, Put, Del}
use Rattle.stm_outcome.specs.declared.refusal.Refusal.TheVariants.{LeaseNotFound}
use Rattle.stm_outcome.specs.Branches.{op_refusal, branch_refusal, deletion_of}
use Rattle.stm_outcome.specs.LookUps.{copy, with_copied}
use Rattle.stm_txn.specs.Leasing.{attached_of, AttachedToLive, with_attach}
use Rattle.stm_txn.specs.Standing.{Standing, terms_of}
use Rattle.stm_outcome.specs.Numbers.{LeaseFits, ChangeFits, ChangesFit, RevisionsFit, OpeningFits, LeasesFit}
use Rattle.stm_outcome.proofs.Widening.{both_none}

pub both : (a b : Bool) → (a && b) ≡ true → (a ≡ true) × (b ≡ true)
both a b is = grind (arith, nat_tests)

-- the id of a live lease fits
live_case : (live : Live) (id : ℕ) (o : Option Term) → AreInRange live → finmap.get live id ≡ o → is_some o ≡ true → id ≤ HIGHEST_NUMBER
live_case live id None fits is found = cc
live_case live id (Some term) fits is found =
    let parts : (nat_le 1 id ≡ true) × (nat_le id HIGHEST_ID ≡ true) = both (nat_le 1 id) (nat_le id HIGHEST_ID) (fits id term is).0 in
    leb-true id HIGHEST_ID parts.1

pub live_fits : (live : Live) (id : ℕ) → AreInRange live → is_live_in live id ≡ true → id ≤ HIGHEST_NUMBER
live_fits live id fits found = live_case live id (finmap.get live id) fits refl found

-- a change that attaches its key to a live lease, or to none
named_fits : (live : Live) (key : List ℕ) (lease : ℕ) (zero_lease : Bool) (rest : List (List ℕ × ℕ)) → AreInRange live → nat_eq lease 0 ≡ zero_lease →
    AttachedToLive live (with_attach key (cond zero_lease None (Some lease)) rest) → (lease ≤ HIGHEST_NUMBER) × AttachedToLive live rest
named_fits live key lease zero_lease rest fits is attach = grind (arith, nat_tests, eqb-true, live_fits)

pub attached_fit : (live : Live) (cs : List Change) → AreInRange live → AttachedToLive live (attached_of cs) → ChangesFit cs
attached_fit live [] fits attach = tt
attached_fit live (PutChange key value lease ∷ cs) fits attach =
    let parts : (lease ≤ HIGHEST_NUMBER) × AttachedToLive live (attached_of cs) = named_fits live key lease (nat_eq lease 0) (attached_of cs) fits refl attach in
    (parts.0, attached_fit live cs fits parts.1)
attached_fit live (DelChange key ∷ cs) fits attach = (tt, attached_fit live cs fits attach)

pub fits-push : (cs : List Change) (c : Change) → ChangesFit cs → ChangeFits c → ChangesFit (cs ++ c ∷ [])
fits-push [] c before one = (one, tt)
fits-push (d ∷ ds) c before one = (before.0, fits-push ds c before.1 one)

-- the put of a branch that no operation refuses
put_case : (live : Live) (lease : ℕ) (zero_lease : Bool) → AreInRange live → nat_eq lease 0 ≡ zero_lease →
    cond (zero_lease || is_live_in live lease) None (Some LeaseNotFound) ≡ None → lease ≤ HIGHEST_NUMBER
put_case live lease zero_lease fits is none = grind (arith, nat_tests, eqb-true, live_fits)

-- the leases that a branch names
abbrev pub NamesFit : List Op → Type 0
NamesFit [] = Unit {0}
NamesFit (Get key rev ∷ ops) = NamesFit ops
NamesFit (Put key value lease ∷ ops) = (lease ≤ HIGHEST_NUMBER) × NamesFit ops
NamesFit (Del key ∷ ops) = NamesFit ops

pub names_fit : (s : Standing) (ops : List Op) → AreInRange s.live → branch_refusal (terms_of s) ops ≡ None → NamesFit ops
names_fit s [] fits none = tt
names_fit s (Get key rev ∷ ops) fits none =
    names_fit s ops fits (both_none (op_refusal (terms_of s) (Get key rev)) (branch_refusal (terms_of s) ops) none).1
names_fit s (Put key value lease ∷ ops) fits none =
    let parts : (op_refusal (terms_of s) (Put key value lease) ≡ None) × (branch_refusal (terms_of s) ops ≡ None) =
    both_none (op_refusal (terms_of s) (Put key value lease)) (branch_refusal (terms_of s) ops) none in
    (put_case s.live lease (nat_eq lease 0) fits refl parts.0, names_fit s ops fits parts.1)
names_fit s (Del key ∷ ops) fits none =
    names_fit s ops fits (both_none (op_refusal (terms_of s) (Del key)) (branch_refusal (terms_of s) ops) none).1

-- the change of a key among these
found_fits : (key : List ℕ) (cs : List Change) → ChangesFit cs → IfSome (change_of key cs) ChangeFits
found_fits key [] fits = tt
found_fits key (c ∷ cs) fits = grind (arith, nat_tests, found_fits key cs fits.1)

-- what a change, or none, makes of a key
after_fits : (number : ℕ) (o : Option Change) (s : Option KeyState) → IfSome o ChangeFits → IfSome s LeaseFits → IfSome (after_change number o s) LeaseFits
after_fits number o s change fits = grind (arith, nat_tests)

-- what a key is after revisions
after_all_fits : (opening : Opening) (key : List ℕ) (revisions : List (List Change)) → OpeningFits opening → RevisionsFit revisions → IfSome (key_after opening key revisions) LeaseFits
after_all_fits opening key [] opened fits = opened key
after_all_fits opening key (changes ∷ older) opened fits =
    grind (arith, nat_tests, one_more, after_fits, found_fits, after_all_fits opening key older opened fits.1)

up_to_fits : (opening : Opening) (r : ℕ) (revisions : List (List Change)) → RevisionsFit revisions → RevisionsFit (revisions_up_to opening r revisions)
up_to_fits opening r [] fits = tt
up_to_fits opening r (changes ∷ older) fits = grind (arith, nat_tests, up_to_fits opening r older fits.1)

pub lease_at_fits : (h : History) (key : List ℕ) (r : ℕ) → LeasesFit h → IfSome (key_at h key r) LeaseFits
lease_at_fits h key r fits = after_all_fits h.opening key (revisions_up_to h.opening r h.revisions) fits.0 (up_to_fits h.opening r h.revisions fits.1)

-- they fit once the oldest revisions are dropped
above_fits : (opening : Opening) (number : ℕ) (revisions : List (List Change)) → RevisionsFit revisions → RevisionsFit (revisions_above opening number revisions)
above_fits opening number [] fits = tt
above_fits opening number (changes ∷ older) fits = grind (arith, nat_tests, above_fits opening number older fits.1)

pub cut_fits : (h : History) (number : ℕ) → LeasesFit h → LeasesFit (cut number h)
cut_fits h number fits = grind (arith, nat_tests, cases_lt, cut_off, opened_by_cut, lease_at_fits, above_fits, cut_at_the_opening)

pub lease_copied_fits : (h : History) (changes : List Change) (key : List ℕ) → LeasesFit h → ChangesFit changes →
    IfSome (copy h changes key) LeaseFits
lease_copied_fits h changes key fits change = grind (arith, nat_tests, after_fits, found_fits, after_all_fits)

-- a deletion, or none, names no lease
pub deleted_fits : (changes : List Change) (key : List ℕ) (s : Option KeyState) → ChangesFit changes → ChangesFit (with_copied changes (deletion_of key s))
deleted_fits changes key s fits = grind (arith, nat_tests, fits-push)
