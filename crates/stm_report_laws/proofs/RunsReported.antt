-- What a check knows of the runners is what the log so far says of them, whatever the next line is about.
use Rattle.std.proofs.Common.{◌≡◌, ℕ, ◌+◌, List, [], ◌∷◌, ◌++◌, length, Option, Some, None, Ok, Bool, false, cond, sym, ◌∙◌, ap, arith}
use Rattle.std.specs.Prelude.{nat_eq, option_map, Result, ◌||◌}
use Rattle.std.proofs.lemmas.List.{length_push}
use Rattle.std.proofs.lemmas.Bool.Decides.{nat_tests}
use Rattle.stm_txn.specs.Standing.{Setup}
use Rattle.stm_events.specs.declared.event.WorldEvent.TheVariants.{Start}
use Rattle.stm_events.specs.declared.reply.Reply.{Reply}
use Rattle.stm_events.specs.declared.reply.Reply.TheVariants.{Started}
use Rattle.stm_events.specs.declared.refusal.Denied.{Denied}
use Rattle.stm_world.specs.Task.{Task}
use Rattle.stm_world.specs.Log.{Line, begun, is_over, running, started, failures, is_id, is_start, task_in, runner_started, runner_ended, runner_in_conflict}
use Rattle.stm_world.proofs.Following.{with_line}
use Rattle.stm_world.proofs.Slots.{equal_numbers, same_number, differ}
use Rattle.stm_world.proofs.Untouched.{IsFresh, SaysNothing as IsAboutNone, same_running, same_failures}
use Rattle.stm_check.specs.declared.runner.Runner.{Runner}
use Rattle.stm_check.specs.Runners.{running as running_in, begun as begun_run, ended, with_conflict, with_runner}
use Rattle.stm_report_laws.proofs.RunLists.{changed_own, changed_other, changed_count, added_own, added_other}

-- a run of this task with that many conflicts
abbrev pub run_with : ℕ → Task → Runner
run_with conflicts task = record { program = task.program; level = task.level; limit = task.limit; conflicts = conflicts; is_over = false }

abbrev pub runs_with : ℕ → Option Task → Option Runner
runs_with conflicts o = option_map (run_with conflicts) o

-- a check knows of each runner what the log says
pub record RunsAreReported (log : List Line) (rs : List Runner) : Type 0 where
  pub count : length rs ≡ started log
  pub runs : (id : ℕ) → running_in id rs ≡ runs_with (failures id log) (running id log)

abbrev nobody : Option Runner
nobody = None

pub none_are_reported : RunsAreReported [] []
none_are_reported = grind (arith, nat_tests)

-- which runner a reply begins, ends, or reports a conflict of
abbrev pub SaysOfRuns : Result Reply Denied → Option ℕ → Option ℕ → Option ℕ → Type 0
SaysOfRuns reply begins ends fails = (runner_started reply ≡ begins) × (runner_ended reply ≡ ends) × (runner_in_conflict reply ≡ fails)

-- what a log says of a runner, by what its last line says
reported_by : (line : Line) (log : List Line) (begins ends fails : Option ℕ) → SaysOfRuns line.reply begins ends fails → (id : ℕ) →
    runs_with (failures id (line ∷ log)) (running id (line ∷ log))
    ≡ runs_with (cond (is_id id fails) (failures id log + 1) (failures id log))
    (cond (is_id id ends || is_over id log) None (cond (is_id id begins) (task_in line.event) (begun id log)))
reported_by line log begins ends fails says id = grind (arith, nat_tests)

count_by : (line : Line) (log : List Line) (begins ends fails : Option ℕ) → SaysOfRuns line.reply begins ends fails →
    started (line ∷ log) ≡ cond (is_start begins) (started log + 1) (started log)
count_by line log begins ends fails says = ap (λ (o : Option ℕ). cond (is_start o) (started log + 1) (started log)) says.0

-- of one runner, and of the others
by_id : (P : ℕ → Type 0) (id : ℕ) → P id → ((other : ℕ) → nat_eq id other ≡ false → P other) → (other : ℕ) → P other
by_id P id mine others other = grind (arith, nat_tests, equal_numbers)

pub same_runs : (line : Line) (log : List Line) (rs : List Runner) → SaysOfRuns line.reply None None None → RunsAreReported log rs →
    RunsAreReported (line ∷ log) rs
same_runs line log rs says reported = grind (arith, nat_tests, count_by, reported_by)

-- a line that is about no runner
pub quiet_runs : (line : Line) (log : List Line) (rs : List Runner) → IsAboutNone line.reply → RunsAreReported log rs → RunsAreReported (line ∷ log) rs
quiet_runs line log rs says reported = grind (arith, nat_tests, same_failures, same_running)

-- a run that goes on, and its task as the log has it
pub record Goes (log : List Line) (rs : List Runner) (id : ℕ) (task : Task) : Type 0 where
  pub runs : running id log ≡ Some task
  pub found : running_in id rs ≡ Some (run_with (failures id log) task)

pub goes_on : (log : List Line) (rs : List Runner) (id : ℕ) (task : Task) → RunsAreReported log rs → running id log ≡ Some task → Goes log rs id task
goes_on log rs id task reported is = record { runs = is; found = reported.runs id ∙ ap (runs_with (failures id log)) is }

pub ended_runs : (line : Line) (log : List Line) (rs : List Runner) (id : ℕ) (task : Task) → SaysOfRuns line.reply None (Some id) None →
    Goes log rs id task → RunsAreReported log rs → RunsAreReported (line ∷ log) (with_runner id ended rs)
ended_runs line log rs id task says goes reported =
    let r : Runner = run_with (failures id log) task in
    record {
      count = changed_count id rs r ended goes.found ∙ reported.count ∙ sym (count_by line log None (Some id) None says);
      runs = by_id (λ other. running_in other (with_runner id ended rs) ≡ runs_with (failures other (line ∷ log)) (running other (line ∷ log))) id
          (changed_own id rs r ended goes.found
          ∙ sym (reported_by line log None (Some id) None says id
          ∙ ap (λ (b : Bool). runs_with (failures id log) (cond (b || is_over id log) None (begun id log))) (same_number id)))
          (λ other ne.
          changed_other id other rs r ended goes.found (differ id other ne) ∙ reported.runs other
          ∙ sym (reported_by line log None (Some id) None says other
          ∙ ap (λ (b : Bool). runs_with (failures other log) (cond (b || is_over other log) None (begun other log))) ne));
    }

pub failed_runs : (line : Line) (log : List Line) (rs : List Runner) (id : ℕ) (task : Task) → SaysOfRuns line.reply None None (Some id) →
    Goes log rs id task → RunsAreReported log rs → RunsAreReported (line ∷ log) (with_runner id with_conflict rs)
failed_runs line log rs id task says goes reported =
    let r : Runner = run_with (failures id log) task in
    record {
      count = changed_count id rs r with_conflict goes.found ∙ reported.count ∙ sym (count_by line log None None (Some id) says);
      runs = by_id (λ other. running_in other (with_runner id with_conflict rs) ≡ runs_with (failures other (line ∷ log)) (running other (line ∷ log))) id
          (changed_own id rs r with_conflict goes.found
          ∙ ap (runs_with (failures id log + 1)) (sym goes.runs)
          ∙ sym (reported_by line log None None (Some id) says id
          ∙ ap (λ (b : Bool). runs_with (cond b (failures id log + 1) (failures id log)) (running id log)) (same_number id)))
          (λ other ne.
          changed_other id other rs r with_conflict goes.found (differ id other ne) ∙ reported.runs other
          ∙ sym (reported_by line log None None (Some id) says other
          ∙ ap (λ (b : Bool). runs_with (cond b (failures other log + 1) (failures other log)) (running other log)) ne));
    }

pub begun_runs : (start : Setup) (log : List Line) (rs : List Runner) (task : Task) → IsFresh start log (started log + 1) → RunsAreReported log rs →
    RunsAreReported (with_line (Start task.program task.level task.limit) (Ok (Started (started log + 1))) log)
    (rs ++ begun_run task.program task.level task.limit ∷ [])
begun_runs start log rs task fresh reported = grind (arith, nat_tests, length_push, by_id, added_own, same_number, added_other, differ)
