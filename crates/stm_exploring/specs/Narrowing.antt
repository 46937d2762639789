-- A place that stands for another one in a search: the same is found of rules from both.
--
-- It has a small world: the keys and leases that programs, rules and the others' transactions name, as they are where the schedules begin, and the same
-- runners.
use Rattle.std.specs.Prelude.{◌≡◌, ℕ, Bool, true, ◌&&◌, List, [], filter}
use Rattle.std.specs.BTreeSet.{contains}
use Rattle.std.specs.List.{AllByRecursion, list_all}
use Rattle.std.specs.Ordering.{nat_cmp}
use Rattle.std.specs.Cmp.Lexicographic.{slice_cmp}
use Rattle.stm_history.specs.History.{now, key_now}
use Rattle.stm_leases.specs.Live.{is_live_in}
use Rattle.stm_program.specs.Syntax.{ProgramTree}
use Rattle.stm_named_keys.specs.Named.{looked_up}
use Rattle.stm_named_keys.specs.Written.{written}
use Rattle.stm_txn.specs.Standing.{Standing}
use Rattle.stm_events.specs.declared.event.WorldEvent.{WorldEvent}
use Rattle.stm_world.specs.World.{World, world_after}
use Rattle.stm_world.specs.Sound.{IsSound}
use Rattle.stm_schedules.specs.Outcomes.{Ends}
use Rattle.stm_schedules.specs.Places.{Place}
use Rattle.stm_schedules.specs.Scenarios.{is_start}
use Rattle.stm_narrow.specs.AgreeingPlaces.{PlacesAgree}
use Rattle.stm_narrow.specs.Foreign.{event_keeps_to}
use Rattle.stm_narrow.specs.Touching.{KeepsTo, is_touched, is_written}
use Rattle.stm_serial.specs.Serial.{IsComparing}
use Rattle.stm_explore.specs.declared.finding.Outcomes.{Outcomes}
use Rattle.stm_explore.specs.declared.orders.SerialAnswer.{SerialAnswer}
use Rattle.stm_explore.specs.declared.waits.Wait.{Wait}
use Rattle.stm_explore.specs.Orders.{IsSerialAnswer}
use Rattle.stm_exploring.specs.declared.rules.Rule.{Rule}
use Rattle.stm_exploring.specs.declared.rules.RuleAnswer.{RuleAnswer}
use Rattle.stm_exploring.specs.declared.touched.Touched.{Touched}
use Rattle.stm_exploring.specs.Judging.{AreFoundFrom}
use Rattle.stm_exploring.specs.Questions.{AreGathered}
use Rattle.stm_exploring.specs.Replaying.{answer_there, outcomes_there}

-- ---- keys and leases

abbrev pub is_key_of : Touched → List ℕ → Bool
is_key_of t key = contains (slice_cmp nat_cmp) t.keys key

abbrev pub is_lease_of : Touched → ℕ → Bool
is_lease_of t id = contains nat_cmp t.leases id

-- a program names nothing else, and no key that is not spelled whole
abbrev pub keeps_to : Touched → ProgramTree → Bool
keeps_to t p = list_all (is_touched (is_key_of t)) (looked_up p) && list_all (is_written (is_key_of t) (is_lease_of t)) (written p)

-- an event of the others names nothing else
abbrev pub brings_within : Touched → WorldEvent → Bool
brings_within t e = event_keeps_to (is_key_of t) (is_lease_of t) e

-- the others, programs and rules name nothing else
abbrev pub name_alone : Touched → List WorldEvent → List ProgramTree → List ProgramTree → Bool
name_alone t others programs rules =
    list_all (brings_within t) others && list_all (keeps_to t) programs && list_all (keeps_to t) rules

-- two stores show the same of these
pub record ShowTheSame (t : Touched) (r s : Standing) : Type 0 where
  pub reached : now r.history ≡ now s.history
  pub keys : (key : List ℕ) → is_key_of t key ≡ true → key_now r.history key ≡ key_now s.history key
  pub live : (id : ℕ) → is_lease_of t id ≡ true → is_live_in r.live id ≡ is_live_in s.live id
  pub limit : r.limit ≡ s.limit

-- ---- worlds

-- nobody has run in it
pub record IsNew (w : World) : Type 0 where
  pub sound : IsSound w
  pub runners : w.runners ≡ []

-- a world with the runners that these events start, which shows the same as a store
pub record IsSmall (t : Touched) (setup : List WorldEvent) (s : Standing) (w : World) : Type 0 where
  pub start : World
  pub is_new : IsNew start
  pub world : w ≡ world_after (filter is_start setup) start
  pub shows : ShowTheSame t w.standing s

-- these events were run in a world without runners
pub record HasRun (setup : List WorldEvent) (w : World) : Type 0 where
  pub start : World
  pub runners : start.runners ≡ []
  pub world : w ≡ world_after setup start

-- ---- places

-- the worlds agree on what these rules keep to, and the first one is sound
pub record Narrows (rules : List ProgramTree) (p q : Place) : Type 0 where
  pub touched : List ℕ → Bool
  pub leased : ℕ → Bool
  pub since : ℕ
  pub agree : PlacesAgree touched leased since p q
  pub within : AllByRecursion (KeepsTo touched leased) rules
  pub sound : IsSound p.world

-- The runners are the same, serial runs are enough from the one where they are from the other, and what is found of these rules from the one is so from the
-- other; so is what is found of outcomes, once its schedules are made there.
pub record StandsFor (rules : List Rule) (p q : Place) : Type 0 where
  pub runners : p.world.runners ≡ q.world.runners
  pub comparing : IsComparing q → IsComparing p
  pub found : (waits : List Wait) (ends : Ends) (answers : List RuleAnswer) → AreFoundFrom waits rules p ends answers → AreFoundFrom waits rules q ends answers
  pub outcomes : (ends : Ends) (found : Outcomes) → AreGathered p ends found → AreGathered q ends (outcomes_there q ends found)
  pub serial : (ends : Ends) (answer : SerialAnswer) → IsSerialAnswer p ends answer → IsSerialAnswer q ends (answer_there q ends answer)
