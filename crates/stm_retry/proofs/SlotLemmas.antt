-- Places that were emptied and filled again.
use Rattle.std.proofs.Common.{◌≡◌, ℕ, ◌-◌, zero, suc, List, [], ◌∷◌, Option, Some, None, Bool, cond, sym, ap, arith}
use Rattle.std.proofs.lemmas.List.{set-set}
use Rattle.std.specs.Prelude.{slice_get, slice_set, IfNone}
use Rattle.std.proofs.lemmas.Bool.Decides.{nat_tests}
use Rattle.stm_world.specs.World.{Runner, Slot, Over, Live, live_in, runner_at, with_slot}
use Rattle.stm_retry.specs.RunnerView.{RunnerView, slot_of}

-- what stands at a place, put there again
pub put_same : (slots : List Slot) (i : ℕ) (s : Slot) → slice_get slots i ≡ Some s → slice_set slots i s ≡ slots
put_same [] i s there = absurd (cc)
put_same (x ∷ slots) zero s there = let same : x ≡ s = cc in ap (λ (y : Slot). y ∷ slots) (sym same)
put_same (x ∷ slots) (suc i) s there = ap (λ (l : List Slot). x ∷ l) (put_same slots i s there)

found_by : (b : Bool) (o : Option Slot) (r : Runner) → cond b None (live_in o) ≡ Some r → o ≡ Some (Live r)
found_by b o r found = grind (arith, nat_tests)

-- a runner that was taken from its place and put back
pub put_back : (id : ℕ) (slots : List Slot) (r : Runner) → runner_at id slots ≡ Some r → with_slot id (Live r) (with_slot id Over slots) ≡ slots
put_back id slots r found = grind (arith, nat_tests, set-set, put_same, found_by)

-- what is put at an emptied place
pub put_there : (id : ℕ) (slots : List Slot) (s : Slot) → with_slot id s (with_slot id Over slots) ≡ with_slot id s slots
put_there id slots s = set-set slots (id - 1) Over s

-- where no runner stood, all places are as they were
pub taken_none : (id : ℕ) (slots after : List Slot) (o : Option RunnerView) → slice_get slots (id - 1) ≡ Some (slot_of o) →
    after ≡ with_slot id Over slots → IfNone o (after ≡ slots)
taken_none id slots after o there left = grind (arith, nat_tests, put_same)
