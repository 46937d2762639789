-- The runners at a point of a report: they are numbered from 1 in the order of their starts.
use Rattle.std.specs.Prelude.{ℕ, ◌+◌, ◌-◌, nat_eq, false, true, if◌then◌else◌, List, [], ◌∷◌, ◌++◌, length, Option, Some, None, Result, Ok, Err}
use Rattle.std.specs.Prelude.{slice_get, slice_set}
use Rattle.stm_program.specs.Syntax.{ProgramTree}
use Rattle.stm_program.specs.declared.level.Level.{Level}
use Rattle.stm_events.specs.Called.{Asked, Starts, Steps, Calls}
use Rattle.stm_events.specs.declared.refusal.Denied.{Denied}
use Rattle.stm_events.specs.declared.reply.Reply.{Reply}
use Rattle.stm_events.specs.declared.reply.Reply.TheVariants as reply
use Rattle.stm_events.specs.Replies.{ends_run}
use Rattle.stm_check.specs.declared.runner.Runner.{Runner}

abbrev pub next_runner : List Runner → ℕ
next_runner runners = length runners + 1

-- the run of a runner that was started
abbrev pub started_in : ℕ → List Runner → Option Runner
started_in id runners = if nat_eq id 0 then None else slice_get runners (id - 1)

abbrev pub unless_over : Option Runner → Option Runner
unless_over None = None
unless_over (Some r) = if r.is_over then None else Some r

-- the run of a runner that was started and has not ended
abbrev pub running : ℕ → List Runner → Option Runner
running id runners = unless_over (started_in id runners)

-- ---- what the reply to an event says of them

-- a run that has sent no commit
abbrev pub begun : ProgramTree → Level → ℕ → Runner
begun program level limit = record { program = program; level = level; limit = limit; conflicts = 0; is_over = false }

abbrev pub with_conflict : Runner → Runner
with_conflict r = record r { conflicts = r.conflicts + 1 }

abbrev pub ended : Runner → Runner
ended r = record r { is_over = true }

abbrev pub put_back : ℕ → (Runner → Runner) → List Runner → Option Runner → List Runner
put_back id change runners None = runners
put_back id change runners (Some r) = slice_set runners (id - 1) (change r)

-- a runner changed by the reply to one of its steps
abbrev pub with_runner : ℕ → (Runner → Runner) → List Runner → List Runner
with_runner id change runners = put_back id change runners (started_in id runners)

-- a conflict after which the run goes on is counted, and a reply that ends the run ends it
abbrev pub after_step : ℕ → Result Reply Denied → List Runner → List Runner
after_step id (Ok (reply.Conflict runner key seen now)) runners = with_runner id with_conflict runners
after_step id (Ok replied) runners = if ends_run replied then with_runner id ended runners else runners
after_step id (Err refused) runners = runners

-- a start that was taken adds a runner
abbrev pub after_start : Runner → Result Reply Denied → List Runner → List Runner
after_start r (Ok (reply.Started runner)) runners = runners ++ r ∷ []
after_start r other runners = runners

abbrev pub runners_after : Asked → Result Reply Denied → List Runner → List Runner
runners_after (Starts program level limit) replied runners = after_start (begun program level limit) replied runners
runners_after (Steps id) replied runners = after_step id replied runners
runners_after (Calls c) replied runners = runners
