-- The numbers of states fit.
use Rattle.std.proofs.Common.{ℕ, ◌+◌, ◌<◌, ◌≤◌, List, length, map, Option, IfSome, subst, arith}
use Rattle.std.proofs.lemmas.List.{length-map}
use Rattle.std.proofs.lemmas.Bool.Decides.{nat_tests}
use Rattle.stm_history.specs.declared.key_state.KeyState.{KeyState}
use Rattle.stm_history.specs.declared.revisions.TheConstants.{HIGHEST_REVISION}
use Rattle.stm_history.specs.History.{History, now, key_at, key_now, version_of}
use Rattle.stm_history.specs.Laws.{AreSmallIn}
use Rattle.stm_history.specs.Opening.{Opening}
use Rattle.stm_history.proofs.HistoryLaws.{numbers_stay_small, last_revision_is_now}
use Rattle.stm_keys.specs.declared.event.Event.{Event}
use Rattle.stm_keys.specs.Events.{change_of_event}
use Rattle.stm_keys.specs.Chains.{Chain}
use Rattle.stm_keys.specs.Keys.{HasSmallNumbers, IsKept, changes_of, key_read}

small_case : (h : History) (o : Option KeyState) → now h ≤ HIGHEST_REVISION →
    IfSome o (AreSmallIn h) → IfSome o HasSmallNumbers
small_case h o bounded small = grind (arith, nat_tests)

-- the counter of the fields fits
pub now_fits : (opening : Opening) (recorded : List (List Event)) (chains : List ℕ → Option Chain) → IsKept opening recorded chains
    → opening.number + length (changes_of recorded) ≤ HIGHEST_REVISION
now_fits opening recorded chains kept = omega (arith, kept.bounded, length-map recorded (map change_of_event))

pub at_small : (h : History) (key : List ℕ) (r : ℕ) → now h ≤ HIGHEST_REVISION → IfSome (key_at h key r) HasSmallNumbers
at_small h key r bounded = small_case h (key_at h key r) bounded (numbers_stay_small h key r)

pub now_small : (h : History) (key : List ℕ) → now h ≤ HIGHEST_REVISION → IfSome (key_now h key) HasSmallNumbers
now_small h key bounded =
    subst (λ (o : Option KeyState). IfSome o HasSmallNumbers) (last_revision_is_now h key (now h) (omega arith)) (at_small h key (now h) bounded)

pub read_small : (h : History) (key : List ℕ) (r : ℕ) → now h ≤ HIGHEST_REVISION → IfSome (key_read h key r) HasSmallNumbers
read_small h key r bounded = grind (arith, nat_tests, now_small, at_small)

-- there is room for one more version
pub next_version : (o : Option KeyState) → IfSome o HasSmallNumbers → version_of o + 1 < 18446744073709551616
next_version o small = grind (arith, nat_tests)
