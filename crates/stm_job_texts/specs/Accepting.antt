-- Which scenario is one of jobs: each start is a job, and each call of the store is made before them; another event has no place.
--
-- Our own, but for what the events are (docs/FORMATS.md, "Scenarios").
use Rattle.std.specs.Prelude.{ℕ, suc, ◌+◌, nat_eq, if◌then◌else◌, List, [], ◌∷◌, ◌++◌, map, Option, None, Some, Ok}
use Rattle.stm_json.specs.declared.cause.Cause.TheVariants.{Shape}
use Rattle.stm_json.specs.Outcome.{Outcome, bad, ◌>>=◌, within}
use Rattle.stm_events.specs.declared.event.WorldEvent.{WorldEvent}
use Rattle.stm_events.specs.declared.event.WorldEvent.TheVariants.{Start, Txn, Grant, Keep, Revoke, Advance}
use Rattle.stm_texts.specs.declared.scenario.Scenario.{Scenario}
use Rattle.stm_texts.specs.Opens.{setup_of}
use Rattle.stm_program.specs.Syntax.{ProgramTree}
use Rattle.stm_program.specs.declared.level.Level.{Level}
use Rattle.stm_job.specs.declared.job.Job.{Job}
use Rattle.stm_job_texts.specs.declared.accepting.JobScenario.{JobScenario}
use Rattle.stm_job_texts.specs.declared.store_call.StoreCall.{StoreCall}
use Rattle.stm_job_texts.specs.declared.store_call.StoreCall.TheVariants as call
use Rattle.stm_txn.specs.Standing.{Setup}

-- a program, the level that it commits at, and how many commits its run may send
pub record Task : Type 0 where
  pub program : ProgramTree
  pub level : Level
  pub limit : ℕ

-- what a job is, but for the fact that it may send a commit
abbrev pub task_of : Job → Task
task_of job = record { program = job.program; level = job.level; limit = job.limit }

-- the calls of the store and the jobs, in their orders
pub record Sorted : Type 0 where
  pub calls : List StoreCall
  pub tasks : List Task

abbrev pub nothing_sorted : Sorted
nothing_sorted = record { calls = []; tasks = [] }

abbrev pub sorted_of : JobScenario → Sorted
sorted_of scenario = record { calls = scenario.calls; tasks = map task_of scenario.jobs }

abbrev pub add_call : Sorted → StoreCall → Outcome Sorted
add_call s added = Ok (record { calls = s.calls ++ added ∷ []; tasks = s.tasks })

abbrev pub add_task : Sorted → Task → Outcome Sorted
add_task s task =
    if nat_eq task.limit 0 then within 2 (bad Shape) else Ok (record { calls = s.calls; tasks = s.tasks ++ task ∷ [] })

-- one event more
abbrev pub add_event : Sorted → WorldEvent → Outcome Sorted
add_event s (Start program level limit) = add_task s (record { program = program; level = level; limit = limit })
add_event s (Txn txn) = add_call s (call.Txn txn)
add_event s (Grant id ttl) = add_call s (call.Grant id ttl)
add_event s (Keep id) = add_call s (call.Keep id)
add_event s (Revoke id) = add_call s (call.Revoke id)
add_event s (Advance moment) = add_call s (call.Advance moment)
add_event s other = bad Shape

-- the events that follow `before` others, of which the first one stands at this place
abbrev pub add_events : ℕ → ℕ → List WorldEvent → Sorted → Outcome Sorted
add_events first before [] s = Ok s
add_events first before (e ∷ es) s = within (first + before) (add_event s e) >>= λ next. add_events first (suc before) es next

-- the place of the first event: an opening stands before it
abbrev pub shift_of : Option Setup → ℕ
shift_of None = 0
shift_of (Some start) = 1

abbrev pub accepted : Scenario → Outcome Sorted
accepted s = add_events (shift_of s.opening) 0 s.events nothing_sorted

abbrev pub opening_of : Scenario → Setup
opening_of s = setup_of s.opening
