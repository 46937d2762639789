-- The headline holds of the run that a report describes.
use Rattle.std.proofs.Common.{List, ℕ}
use Rattle.stm_compile.proofs.AgreeLemmas.{commit_is_the_run_now}
use Rattle.stm_compile.proofs.ConflictLemmas.{failed_compares_conflict}
use Rattle.stm_world.specs.World.{opened, world_after, replies_to}
use Rattle.stm_world.proofs.Headlines.{headline}
use Rattle.stm_texts.specs.declared.scenario.Scenario.{Scenario}
use Rattle.stm_texts.specs.Opens.{setup_of}
use Rattle.stm_report.specs.Script.{IsRunReport}
use Rattle.stm_report.specs.FormatScript.{IsRunText}
use Rattle.stm_report_laws.specs.Laws.{IsOfRightRun, ReportsAreOfRightRuns}

run_is_right : (s : Scenario) (text : List ℕ) → IsRunReport s text → IsOfRightRun s text
unfolding IsRunText
run_is_right s text report = record {
  replies = replies_to s.events (opened (setup_of s.opening));
  world = world_after s.events (opened (setup_of s.opening));
  report = report.0;
  holds = headline (record { run_now = commit_is_the_run_now; conflicts = failed_compares_conflict }) (setup_of s.opening) s.events;
}

pub reports_are_of_right_runs : ReportsAreOfRightRuns
reports_are_of_right_runs bytes text (s, reads, report) = (s, reads, run_is_right s text report)
