-- What contracts see of a fault that was reported.
use Rattle.std.specs.Prelude.{List, [], ◌∷◌, Option, None, Some}
use Rattle.stm_faulted_runs.specs.declared.lines.ReportedFault.{ReportedFault}
use Rattle.stm_faulted_runs.specs.Lines.{FaultReport, reported_of_run}

abbrev pub reported_run : ReportedFault → FaultReport
reported_run t = reported_of_run t.event t.runner t.fault

abbrev pub reported_as : Option ReportedFault → List FaultReport
reported_as None = []
reported_as (Some t) = reported_run t ∷ []
