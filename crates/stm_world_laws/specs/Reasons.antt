-- Laws of the reasons, over runs of worlds.
use Rattle.std.specs.Prelude.{◌≡◌, ℕ, ◌-◌, ◌<◌, ◌≤◌, List, [], ◌∷◌, get_or, Some, Result}
use Rattle.stm_history.specs.History.{History, now}
use Rattle.stm_keys.specs.NextChange.{next_change}
use Rattle.stm_events.specs.declared.event.WorldEvent.{WorldEvent}
use Rattle.stm_events.specs.declared.reply.Reply.{Reply}
use Rattle.stm_events.specs.declared.refusal.Denied.{Denied}
use Rattle.stm_world.specs.World.{World, step, replies_to}
use Rattle.stm_reasons.specs.declared.reason.Cause.{Cause}
use Rattle.stm_reasons.specs.Causes.{cause}
use Rattle.stm_reasons.specs.Counters.{counters}

-- the revision of a world's store before the first of these events, and after each
abbrev pub revisions_reached : List WorldEvent → World → List ℕ
revisions_reached [] w = now w.standing.history ∷ []
revisions_reached (event ∷ events) w = now w.standing.history ∷ revisions_reached events (step event w).next

-- They are those that the replies tell.
abbrev pub RepliesTellRevisions : Type 0
RepliesTellRevisions =
    (events : List WorldEvent) (w : World) → counters (now w.standing.history) (replies_to events w) ≡ revisions_reached events w

-- A cause that is told of a key, since a revision, among that many events: its revision is the first above the other that changes the key, and the store
-- had come to it before the next event. It was not there yet before the event that is named, and it was after it.
pub record IsCause (h : History) (key counters : List ℕ) (since before : ℕ) (cause : Cause) : Type 0 where
  pub first : next_change h key since ≡ Some cause.revision
  pub come : cause.revision ≤ get_or counters before 0
  pub within : cause.event ≤ before
  pub made : 0 < cause.event → get_or counters (cause.event - 1) 0 < cause.revision
  pub reached : cause.event < before → cause.revision ≤ get_or counters cause.event 0

-- Each cause that is told is one.
abbrev pub CausesAreFirstChanges : Type 0
CausesAreFirstChanges =
    (h : History) (key counters : List ℕ) (replies : List (Result Reply Denied)) (since before : ℕ) (c : Cause)
    → cause h key counters replies since before ≡ Some c → IsCause h key counters since before c
