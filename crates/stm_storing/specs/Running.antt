-- The run of one program alone: its events, and the replies to them where it commits.
use Rattle.std.specs.Prelude.{◌≡◌, ◌<◌, ℕ, ◌-◌, Bool, true, false, List, ◌∷◌, length, slice_get, Some, Result, Ok}
use Rattle.stm_program.specs.Syntax.{ProgramTree}
use Rattle.stm_events.specs.declared.event.WorldEvent.{WorldEvent}
use Rattle.stm_events.specs.declared.event.WorldEvent.TheVariants.{Start, Step}
use Rattle.stm_events.specs.declared.reply.Reply.{Reply}
use Rattle.stm_events.specs.declared.reply.Reply.TheVariants.{Started, Committed}
use Rattle.stm_events.specs.declared.refusal.Denied.{Denied}
use Rattle.stm_storing.specs.declared.running.Manner.{Manner}

abbrev pub start_of : ProgramTree → Manner → WorldEvent
start_of program manner = Start program manner.level manner.attempts

-- each of these events is a step of this runner
abbrev pub AreStepsOf : ℕ → List WorldEvent → Type 0
AreStepsOf runner events = (k : ℕ) → k < length events → slice_get events k ≡ Some (Step runner)

-- these are the start of a program, and steps of a runner
abbrev pub IsRunOf : ProgramTree → Manner → ℕ → List WorldEvent → Type 0
IsRunOf program manner runner events =
    (steps : List WorldEvent) × (events ≡ start_of program manner ∷ steps) × AreStepsOf runner steps

abbrev pub is_commit : Result Reply Denied → Bool
is_commit (Ok (Committed runner revision attempts output trace answers)) = true
is_commit reply = false

-- the last of these replies says that a run has committed
abbrev pub LastCommits : List (Result Reply Denied) → Type 0
LastCommits replies = (last : Result Reply Denied) × (slice_get replies (length replies - 1) ≡ Some last) × (is_commit last ≡ true)

-- and the first one names the runner
pub record EndInCommit (runner : ℕ) (replies : List (Result Reply Denied)) : Type 0 where
  pub started : slice_get replies 0 ≡ Some (Ok (Started runner))
  pub commits : LastCommits replies
