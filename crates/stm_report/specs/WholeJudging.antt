-- What a check of a whole report does: from the bytes of a scenario and of a text to an answer.
use Rattle.std.specs.Prelude.{◌≡◌, ◌⊎◌, ℕ, ◌≤◌, List, length, Bool, true, false, Option, Result, Ok, Err, IfSome}
use Rattle.stm_json.specs.declared.limits.TheConstants.{MOST_BYTES}
use Rattle.stm_texts.specs.Reading.{scenario_in}
use Rattle.stm_events.specs.declared.line.Report.{Report}
use Rattle.stm_report_lines.specs.Reading.{report_in}
use Rattle.stm_report.specs.Script.{IsReportOf}
use Rattle.stm_check.specs.declared.sources.CheckFault.{CheckFault}
use Rattle.stm_check.specs.declared.sources.CheckFault.TheVariants.{OutOfMemory, BadScenario, BadReport, Device}
use Rattle.stm_check.specs.Sources.{Sources, NoneFailed}
use Rattle.stm_report.specs.declared.whole_comparing.WholeChecked.{WholeChecked}
use Rattle.stm_report.specs.declared.whole_comparing.WholeChecked.TheVariants.{Yes, No}
use Rattle.stm_report.specs.WholeComparing.{compared}

-- ---- a text beside the report that is expected

-- the answer is given where the text is a report in its format
abbrev pub HasForm : List ℕ → WholeChecked → Result WholeChecked CheckFault → Type 0
HasForm given checked (Ok answer) = (answer ≡ checked) × ((r : Report) × (report_in given ≡ Ok r))
HasForm given checked (Err OutOfMemory) = Unit {0}
HasForm given checked (Err (BadScenario fault)) = ⊥
HasForm given checked (Err (BadReport fault)) = report_in given ≡ Err fault
HasForm given checked (Err Device) = ⊥

-- a text that is not as expected is a report in its format
abbrev pub IsFormed : List ℕ → WholeChecked → Type 0
IsFormed given Yes = Unit {0}
IsFormed given (No line expected) = (r : Report) × (report_in given ≡ Ok r)

-- The answer is the comparison of a text that is not too long. A text that is answered with a fault is no report in its format, and is not the
-- expected one, unless it is too long.
abbrev pub JudgesText : List ℕ → List ℕ → Result WholeChecked CheckFault → Type 0
JudgesText expected given (Ok checked) = (checked ≡ compared expected given) × (length given ≤ MOST_BYTES) × IsFormed given checked
JudgesText expected given (Err OutOfMemory) = Unit {0}
JudgesText expected given (Err (BadScenario fault)) = ⊥
JudgesText expected given (Err (BadReport fault)) =
    (report_in given ≡ Err fault) × (length given ≤ MOST_BYTES → compared expected given ≡ Yes → ⊥)
JudgesText expected given (Err Device) = ⊥

-- ---- the report of one source: what was left of it, whether it has failed then, and the answer

-- what making the report that a script writes for its scenario did
abbrev pub MakesReport : {X : Type 0} → (X → List ℕ) → Option (List ℕ) → Bool → Result X CheckFault → Type 0
MakesReport view known failed (Ok x) = (failed ≡ false) × IfSome known (λ all. IsReportOf (scenario_in all) (view x))
MakesReport view known failed (Err OutOfMemory) = failed ≡ false
MakesReport view known failed (Err (BadScenario fault)) = (failed ≡ false) × IfSome known (λ all. scenario_in all ≡ Err fault)
MakesReport view known failed (Err (BadReport fault)) = ⊥
MakesReport view known failed (Err Device) = failed ≡ true

-- ---- two sources

-- a text is the report that a script writes for what is in the scenario's source
abbrev pub IsExpected : Sources → List ℕ → Type 0
IsExpected d report = IfSome d.scenario (λ all. IsReportOf (scenario_in all) report)

-- What a check of a whole report did, by its answer: a comparison of the text with the report that a script writes of the scenario. The scenario
-- is read and judged before the text, so that a text which cannot be read is answered only beside a good scenario. A failed source is answered
-- exactly where one has failed.
abbrev pub Judges : Sources → Result WholeChecked CheckFault → Type 0
Judges d (Err OutOfMemory) = NoneFailed d
Judges d (Err (BadScenario fault)) = NoneFailed d × IfSome d.scenario (λ all. scenario_in all ≡ Err fault)
Judges d (Err Device) =
    (d.scenario_failed ≡ true) ⊎ ((d.scenario_failed ≡ false) × (d.report_failed ≡ true) × (report : List ℕ) × IsExpected d report)
Judges d result =
    NoneFailed d × ((report : List ℕ) × IsExpected d report × IfSome d.report (λ all. JudgesText report all result))
