-- The headline: over every list of events, in any interleaving of any number of runners.
use Rattle.std.specs.Prelude.{◌≡◌, ℕ, ◌≤◌, true, false, List, ◌++◌, length, Option, option_map, Some, Result}
use Rattle.stm_history.specs.declared.key_state.ReadAnswer.{ReadAnswer}
use Rattle.stm_history.specs.History.{History}
use Rattle.stm_meaning.specs.Laws.{IsContinuedBy}
use Rattle.stm_meaning.specs.Meaning.{run_over}
use Rattle.stm_program.specs.Levels.{is_serializable}
use Rattle.stm_compile.specs.Answers.{AreTrue, state_as_of}
use Rattle.stm_program.specs.Limits.{has_repeat}
use Rattle.stm_attempt.specs.Known.{HaveDistinctKeys}
use Rattle.stm_attempt.specs.Settled.{run_on}
use Rattle.stm_attempt.specs.Fetches.{base_of, HaveOneBase}
use Rattle.stm_entries.specs.Replayed.{opening, without_moment}
use Rattle.stm_entries.specs.Replay.{replay}
use Rattle.stm_entries.specs.Legal.{AreLegal}
use Rattle.stm_events.specs.declared.event.WorldEvent.{WorldEvent}
use Rattle.stm_events.specs.declared.reply.Reply.{Reply}
use Rattle.stm_events.specs.declared.refusal.Denied.{Denied}
use Rattle.stm_world.specs.Task.{Task}
use Rattle.stm_world.specs.Log.{Line, IsLogOf, running, started, failures, store, entries_reported, known_after_log}
use Rattle.stm_world.specs.Right.{AreRight}
use Rattle.stm_world.specs.World.{World, Runner, runner_at, opened, world_after, replies_to}
use Rattle.stm_txn.specs.Standing.{Setup}

-- a runner with this task, as a log has it
abbrev pub runner_for : Setup → List Line → ℕ → Task → Runner
runner_for start log id task = record { task = task; failures = failures id log; known = known_after_log start id task log }

-- the runner with this number that runs, as a log has it
abbrev pub runner_in_log : Setup → List Line → ℕ → Option Runner
runner_in_log start log id = option_map (runner_for start log id) (running id log)

-- Each of these events has its reply, and nothing else was replied; each reply is right after the lines before it; store, runners and
-- entries are what the log says; and the entries replay to the store, each legal at its point.
pub record Holds (start : Setup) (events : List WorldEvent) (replies : List (Result Reply Denied)) (w : World) : Type 0 where
  pub log : List Line
  pub is_log : IsLogOf events replies log
  pub right : AreRight start log
  pub standing : w.standing ≡ store start log
  pub count : length w.runners ≡ started log
  pub runners : (id : ℕ) → runner_at id w.runners ≡ runner_in_log start log id
  pub entries : w.entries ≡ entries_reported start log
  pub replays : replay w.entries (opening start.revision) ≡ without_moment w.standing
  pub legal : AreLegal w.entries (opening start.revision)

abbrev pub Headline : Type 0
Headline = (start : Setup) (events : List WorldEvent) → Holds start events (replies_to events (opened start)) (world_after events (opened start))

-- The same of a world that has run before: where it holds of what the world was asked and has replied so far, it holds with these events
-- and their replies after that.
abbrev pub HeadlineGoesOn : Type 0
HeadlineGoesOn =
    (start : Setup) (before events : List WorldEvent) (earlier : List (Result Reply Denied)) (w : World) → Holds start before earlier w
    → Holds start (before ++ events) (earlier ++ replies_to events w) (world_after events w)

-- A property of the log of every run: from every opening, every list of events has a log with the replies of the world, and
-- the log has the property.
abbrev pub OfEachLog : (Setup → List Line → Type 0) → Type 0
OfEachLog P = (start : Setup) (events : List WorldEvent) → (log : List Line) × IsLogOf events (replies_to events (opened start)) log × P start log

-- What was read is true and of one revision. The run on it is continued by the program's run on the state at that revision: an
-- abort or a fault is that run's end, and what was seen is the beginning of what that run sees.
pub record AreOfOneState (h : History) (task : Task) (reads : List ReadAnswer) : Type 0 where
  pub one_revision : HaveOneBase reads
  pub truth : AreTrue h reads
  pub continued : IsContinuedBy (run_on task.program reads) (run_over (state_as_of h (base_of reads)) task.program.statements)

-- What an attempt at a serializable level has read is of one state, also where its commit will fail.
abbrev pub OneState : Type 0
OneState =
    OfEachLog (λ (start : Setup) (log : List Line). (id : ℕ) (task : Task) → 1 ≤ start.revision → running id log ≡ Some task → is_serializable task.level ≡ true
    → AreOfOneState (store start log).history task (known_after_log start id task log).reads)

-- No attempt reads a key twice.
abbrev pub ReadOnce : Type 0
ReadOnce =
    OfEachLog (λ (start : Setup) (log : List Line). (id : ℕ) (task : Task) → running id log ≡ Some task → has_repeat task.program.prefetch ≡ false
    → HaveDistinctKeys (known_after_log start id task log).reads)
