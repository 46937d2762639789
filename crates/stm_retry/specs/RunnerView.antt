-- What contracts see of a runner and of its place.
use Rattle.std.specs.Prelude.{◌≡◌, ℕ, ◌+◌, ◌<◌, List, [], length, Option, Some, None, All}
use Rattle.stm_history.specs.declared.key_state.ReadAnswer.{ReadAnswer}
use Rattle.stm_program.specs.Syntax.{ProgramTree}
use Rattle.stm_program.specs.declared.level.Level.{Level}
use Rattle.stm_attempt.specs.AttemptState.{AttemptState, IsOf, awaited, list_awaited}
use Rattle.stm_attempt.specs.Next.{next_on}
use Rattle.stm_attempt.specs.declared.next.Next.{Next}
use Rattle.stm_world.specs.Task.{Task, with_served, after_fetch}
use Rattle.stm_world.specs.World.{Runner, Slot, Over, Live}

abbrev pub task_of : ProgramTree → Level → ℕ → Task
task_of program level limit = record { program = program; level = level; limit = limit }

-- the runner of the world that this is, and the key whose answer it waits for, or the list whose answers
pub record RunnerView : Type 0 where
  pub runner : Runner
  pub awaits : Option (List ℕ)
  pub awaits_list : Option (List (List ℕ))

-- A list that was prefetched is taken when the attempt goes on, and so is a prefetched answer that serves: the runner knows it before.
abbrev pub view_of : Task → ℕ → AttemptState → RunnerView
view_of task failures attempt = record {
  runner = record { task = task; failures = failures; known = with_served task attempt.known };
  awaits = awaited attempt;
  awaits_list = list_awaited attempt;
}

-- a place: no runner stands there once the run has ended
abbrev pub slot_of : Option RunnerView → Slot
slot_of None = Over
slot_of (Some v) = Live v.runner

-- each of these answers is of a key that is not empty
abbrev pub AreNamed : List ReadAnswer → Type 0
AreNamed answers = All (λ (a : ReadAnswer). 0 < length a.key) answers

-- a runner's attempt is one of its task, and its run may send a commit more
pub record IsRunner (task : Task) (failures : ℕ) (attempt : AttemptState) : Type 0 where
  pub of_program : IsOf task.program attempt
  pub of_level : attempt.level ≡ task.level
  pub has_more : failures < task.limit
  pub read : AreNamed attempt.known.reads
  pub prefetched : AreNamed attempt.known.prefetched

-- what the runner's program comes to on what it has read: its list, where that is due
abbrev pub next_for : Runner → Next
next_for r = next_on r.task.program r.task.level r.known.reads

-- the runner with the answer to its fetch
abbrev pub with_answer : ReadAnswer → Runner → Runner
with_answer a r = record r { known = after_fetch r.task a r.known }

-- the runner with the answers to its list
abbrev pub with_answers : List ReadAnswer → Runner → Runner
with_answers answers r = record r { known = with_served r.task (record { reads = answers; prefetched = r.known.prefetched }) }

-- the runner after a commit that failed: its next attempt has these answers prefetched
abbrev pub begun_again : List ReadAnswer → Runner → Runner
begun_again answers r =
    record { task = r.task; failures = r.failures + 1; known = with_served r.task (record { reads = []; prefetched = answers }) }
