-- Places whose worlds agree, where the others bring the same, which keeps to the same keys: the schedules from the one are those from the other.
use Rattle.std.specs.Prelude.{◌≡◌, ℕ, Bool, true, List}
use Rattle.std.specs.List.{list_all}
use Rattle.stm_program.specs.Syntax.{ProgramTree}
use Rattle.stm_schedules.specs.declared.moves.Move.{Move}
use Rattle.stm_schedules.specs.Places.{Place, moves, moved}
use Rattle.stm_schedules.specs.Schedules.{place_after, IsSchedule, IsLongest}
use Rattle.stm_schedules.specs.Keeping.{end_alone, keeps, AllKeep, AllKeepUpTo, IsFirstBad, goes_on}
use Rattle.stm_schedules.specs.Outcomes.{Ends, ends_moved, ends_after, state_shown}
use Rattle.stm_narrow.specs.Touching.{KeepsTo}
use Rattle.stm_narrow.specs.Foreign.{event_keeps_to}
use Rattle.stm_narrow.specs.Agree.{Agree}

pub record PlacesAgree (touched : List ℕ → Bool) (leased : ℕ → Bool) (since : ℕ) (p q : Place) : Type 0 where
  pub worlds : Agree touched leased since p.world q.world
  pub others : p.others ≡ q.others
  pub within : list_all (event_keeps_to touched leased) p.others ≡ true

-- what a search from the one place finds holds of the other
pub record AreSearchedAlike (touched : List ℕ → Bool) (leased : ℕ → Bool) (since : ℕ) (p q : Place) : Type 0 where
  pub turned : PlacesAgree touched leased since q p
  -- the same moves can be made, which lead to places that agree, and the same is known of the ends
  pub moves : moves p ≡ moves q
  pub moved : (m : Move) → PlacesAgree touched leased since (moved m p) (moved m q)
  pub ends : (m : Move) (known : Ends) → ends_moved m p known ≡ ends_moved m q known
  -- and so along schedules
  pub after : (schedule : List Move) → PlacesAgree touched leased since (place_after schedule p) (place_after schedule q)
  pub ends_after : (schedule : List Move) (known : Ends) → ends_after schedule p known ≡ ends_after schedule q known
  pub schedules : (schedule : List Move) → IsSchedule schedule p → IsSchedule schedule q
  pub goes_on : (n : ℕ) → goes_on n p ≡ goes_on n q
  pub longest : (n : ℕ) → IsLongest n p → IsLongest n q
  -- a rule that keeps to the same keys ends the same, and is kept by the same schedules
  pub rule_ends : (rule : ProgramTree) → KeepsTo touched leased rule → end_alone rule p.world ≡ end_alone rule q.world
  pub all_keep : (rule : ProgramTree) → KeepsTo touched leased rule → AllKeep (keeps rule) p → AllKeep (keeps rule) q
  pub all_keep_up_to : (rule : ProgramTree) (n : ℕ) → KeepsTo touched leased rule → AllKeepUpTo (keeps rule) n p → AllKeepUpTo (keeps rule) n q
  pub first_bad : (rule : ProgramTree) (schedule : List Move) → KeepsTo touched leased rule → IsFirstBad (keeps rule) p schedule
      → IsFirstBad (keeps rule) q schedule

-- ---- laws

abbrev pub AgreeingPlacesAreSame : Type 0
AgreeingPlacesAreSame =
    (touched : List ℕ → Bool) (leased : ℕ → Bool) (since : ℕ) (p q : Place) → PlacesAgree touched leased since p q
    → AreSearchedAlike touched leased since p q

-- Two schedules that leave the same to be shown from the one place do so from the other: other keys than those that the programs keep to stay as they were.
abbrev pub SchedulesShowAlike : Type 0
SchedulesShowAlike =
    (touched : List ℕ → Bool) (leased : ℕ → Bool) (since : ℕ) (p q : Place) → PlacesAgree touched leased since p q → (one other : List Move)
    → state_shown (place_after one p).world.standing.history ≡ state_shown (place_after other p).world.standing.history
    → state_shown (place_after one q).world.standing.history ≡ state_shown (place_after other q).world.standing.history
