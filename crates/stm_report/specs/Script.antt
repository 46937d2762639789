-- What a script does: from the bytes of a source to the report in a sink. It is what one does that writes in the format of lines.
use Rattle.std.specs.Prelude.{ℕ, List, [], Result}
use Rattle.stm_texts.specs.declared.scenario.Scenario.{Scenario}
use Rattle.stm_json.specs.Outcome.{Outcome}
use Rattle.stm_devices.specs.Ends.{Devices}
use Rattle.stm_report.specs.declared.run_script.ScriptFault.{ScriptFault}
use Rattle.stm_report.specs.declared.format.Format.TheVariants.{Lines}
use Rattle.stm_report.specs.FormatScript.{IsRunText, IsOutputOf, DoesAs}

-- the text is the report of a scenario's run, over an empty store at its opening revision, and in UTF-8
abbrev pub IsRunReport : Scenario → List ℕ → Type 0
IsRunReport s text = IsRunText Lines [] s text

-- a scenario was read, and the text is the report of its run
abbrev pub IsReportOf : Outcome Scenario → List ℕ → Type 0
IsReportOf reading text = IsOutputOf Lines [] reading text

-- What a script did, by its answer. At the end of a good one exactly the report of the input was written; at a bad
-- scenario, an allocation failure or a failed source nothing was; at a failed sink a front of the report was. Each fault of a
-- device is answered exactly where the device has failed.
abbrev pub Does : {A : Type 0} → Devices → Result A ScriptFault → Type 0
Does d result = DoesAs Lines [] d result
