-- What whole schedules come to: the state, and how each runner ended.
--
-- The ends of runners are reported by the world's replies alone, so they are gathered from these.
use Rattle.std.specs.Prelude.{◌≡◌, ◌↔◌, ◌≤◌, ℕ, zero, suc, ◌-◌, List, [], ◌∷◌, ◌++◌, map, length, Option, None, Some, Result, Ok, Err, slice_set, Contains}
use Rattle.std.specs.List.{filter_map, flat_map}
use Rattle.stm_history.specs.History.{History, key_now, value_of}
use Rattle.stm_txn.specs.PresentKeys.{keys_present}
use Rattle.stm_txn.specs.Standing.{Setup}
use Rattle.stm_events.specs.declared.event.WorldEvent.{WorldEvent}
use Rattle.stm_events.specs.declared.reply.Reply.{Reply}
use Rattle.stm_events.specs.declared.reply.Reply.TheVariants as reply
use Rattle.stm_events.specs.declared.refusal.Denied.{Denied}
use Rattle.stm_world.specs.World.{World, Slot, Over, Live, opened, replies_to}
use Rattle.stm_schedules.specs.declared.moves.Move.{Move}
use Rattle.stm_schedules.specs.declared.outcome.KeyValue.{KeyValue}
use Rattle.stm_schedules.specs.declared.outcome.Outcome.{Outcome}
use Rattle.stm_schedules.specs.declared.outcome.RunnerEnd.{RunnerEnd}
use Rattle.stm_schedules.specs.declared.outcome.RunnerEnd.TheVariants.{Committed, GaveUp, Aborted, Faulted, Ended}
use Rattle.stm_schedules.specs.Places.{Place, moves, event_of, moved}
use Rattle.stm_schedules.specs.Schedules.{place_after, IsWhole, IsLongest, events_along}
use Rattle.stm_schedules.specs.Scenarios.{up_to_last_start, begun}

-- ---- how runners end

-- what is known of the runners' ends, by the runners' numbers: nothing of one whose run goes on
abbrev pub Ends : Type 0
Ends = List (Option RunnerEnd)

abbrev pub with_end : ℕ → RunnerEnd → Ends → Ends
with_end id end ends = slice_set ends (id - 1) (Some end)

-- what is known after a reply: a runner is begun, a runner has ended, or nothing more
abbrev pub after_reply : Reply → Ends → Ends
after_reply (reply.Started id) ends = ends ++ None ∷ []
after_reply (reply.Committed id revision attempts output trace answers) ends = with_end id (Committed output) ends
after_reply (reply.GaveUp id attempts key seen current) ends = with_end id (GaveUp key) ends
after_reply (reply.Aborted id text) ends = with_end id (Aborted text) ends
after_reply (reply.Faulted id fault) ends = with_end id (Faulted fault) ends
after_reply (reply.Ended id cause) ends = with_end id (Ended cause) ends
after_reply other ends = ends

-- nothing more is known after a refusal
abbrev pub after_reported : Result Reply Denied → Ends → Ends
after_reported (Ok reported) ends = after_reply reported ends
after_reported (Err refusal) ends = ends

abbrev pub after_replies : List (Result Reply Denied) → Ends → Ends
after_replies [] ends = ends
after_replies (reported ∷ more) ends = after_replies more (after_reported reported ends)

-- what is known of the ends where the schedules of a scenario begin
abbrev pub ends_begun : Setup → List WorldEvent → Ends
ends_begun start events = after_replies (replies_to (up_to_last_start events) (opened start)) []

-- what is known of them after one more move
abbrev pub ends_moved : Move → Place → Ends → Ends
ends_moved m p ends = after_replies (replies_to (event_of m p.others) p.world) ends

-- what is known of them after a schedule
abbrev pub ends_after : List Move → Place → Ends → Ends
ends_after schedule p ends = after_replies (replies_to (events_along schedule p.others) p.world) ends

-- ---- outcomes

-- the keys that are present, ascending by bytes, each with its value
abbrev pub state_shown : History → List KeyValue
state_shown h = map (λ key. record { key = key; value = value_of (key_now h key) }) (keys_present h)

-- the ends that are known, by the runners' numbers
abbrev pub known_ends : Ends → List RunnerEnd
known_ends ends = filter_map (λ (end : Option RunnerEnd). end) ends

-- what is shown of a world and of the runners' ends
abbrev pub shown : World → Ends → Outcome
shown w ends = record { state = state_shown w.standing.history; ends = known_ends ends }

-- what a schedule comes to
abbrev pub outcome_after : List Move → Place → Ends → Outcome
outcome_after schedule p ends = shown (place_after schedule p).world (ends_after schedule p ends)

-- a whole schedule that comes to this
pub record Comes (schedule : List Move) (p : Place) (ends : Ends) (it : Outcome) : Type 0 where
  pub is_whole : IsWhole schedule p
  pub to : outcome_after schedule p ends ≡ it

-- some whole schedule comes to this
abbrev pub IsOutcome : Place → Ends → Outcome → Type 0
IsOutcome p ends it = (schedule : List Move) × Comes schedule p ends it

-- some whole schedule of up to n moves comes to this
abbrev pub IsOutcomeWithin : ℕ → Place → Ends → Outcome → Type 0
IsOutcomeWithin n p ends it = (schedule : List Move) × Comes schedule p ends it × (length schedule ≤ n)

-- ---- the same, computed

-- the outcome at a place where these moves can be made: there is one where there are none
abbrev pub outcome_if_whole : List Move → World → Ends → List Outcome
outcome_if_whole [] w ends = shown w ends ∷ []
outcome_if_whole (m ∷ ms) w ends = []

-- what whole schedules of exactly n moves come to, in the order of the schedules
abbrev pub outcomes_at : ℕ → Place → Ends → List Outcome
outcomes_at zero p ends = outcome_if_whole (moves p) p.world ends
outcomes_at (suc n) p ends = flat_map (λ m. outcomes_at n (moved m p) (ends_moved m p ends)) (moves p)

-- what whole schedules of up to n moves come to, in the order in which schedules are looked at
abbrev pub outcomes_up_to : ℕ → Place → Ends → List Outcome
outcomes_up_to zero p ends = outcomes_at zero p ends
outcomes_up_to (suc n) p ends = outcomes_up_to n p ends ++ outcomes_at (suc n) p ends

-- ---- when all ends are known

-- nothing is known of the end of a runner whose run goes on, and an end of one that has ended
abbrev pub IsKnown : Slot → Option RunnerEnd → Type 0
IsKnown Over (Some end) = Unit {0}
IsKnown Over None = ⊥
IsKnown (Live r) None = Unit {0}
IsKnown (Live r) (Some end) = ⊥

-- so it is of each of these runners
abbrev pub AreKnown : List Slot → Ends → Type 0
AreKnown [] [] = Unit {0}
AreKnown [] (end ∷ ends) = ⊥
AreKnown (slot ∷ slots) [] = ⊥
AreKnown (slot ∷ slots) (end ∷ ends) = IsKnown slot end × AreKnown slots ends

-- ---- laws

-- What is computed is exactly what whole schedules come to.
pub record OutcomesAreThose : Type 0 where
  -- what is known of the ends goes along with the moves
  pub ends : (m : Move) (schedule : List Move) (p : Place) (ends : Ends)
      → ends_after (m ∷ schedule) p ends ≡ ends_after schedule (moved m p) (ends_moved m p ends)
  pub at : (n : ℕ) (p : Place) (ends : Ends) (it : Outcome)
      → Contains (outcomes_at n p ends) it ↔ ((schedule : List Move) × Comes schedule p ends it × (length schedule ≡ n))
  pub up_to : (n : ℕ) (p : Place) (ends : Ends) (it : Outcome) → Contains (outcomes_up_to n p ends) it ↔ IsOutcomeWithin n p ends it
  -- where no schedule is longer, these are all
  pub all : (n : ℕ) (p : Place) (ends : Ends) (it : Outcome) → IsLongest n p → Contains (outcomes_up_to n p ends) it ↔ IsOutcome p ends it

-- Along every schedule of a scenario the ends of exactly those runners are known that have ended, so a whole one shows an end of each.
pub record EndsAreKnown : Type 0 where
  pub along : (start : Setup) (events : List WorldEvent) (schedule : List Move)
      → AreKnown (place_after schedule (begun start events)).world.runners (ends_after schedule (begun start events) (ends_begun start events))
  pub whole : (start : Setup) (events : List WorldEvent) (schedule : List Move) → IsWhole schedule (begun start events)
      → length (known_ends (ends_after schedule (begun start events) (ends_begun start events)))
      ≡ length (place_after schedule (begun start events)).world.runners
