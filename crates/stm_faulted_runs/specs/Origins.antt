-- What contracts see of a scenario that is explained.
use Rattle.std.specs.Prelude.{map}
use Rattle.serde_json.specs.View.{view}
use Rattle.stm_faulted_runs.specs.declared.runs.StartedRun.{StartedRun}
use Rattle.stm_faulted_runs.specs.declared.runs.Explained.{Explained}
use Rattle.stm_faulted_runs.specs.Places.{Started}
use Rattle.stm_faulted_runs.specs.Lines.{Origin}

abbrev pub started_as : StartedRun → Started
started_as run = record { element = run.element; program = run.program.now }

abbrev pub origin_in : Explained → Origin
origin_in explained = record {
  name = explained.marked.name.now;
  text = explained.marked.text.now;
  json = view explained.json;
  runs = map started_as explained.runs.items;
}
