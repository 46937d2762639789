-- What a yes to a whole report means.
use Rattle.std.specs.Prelude.{◌≡◌, ◌↔◌, ℕ, ◌≤◌, List, length, Some, Result, Ok, Err}
use Rattle.stm_json.specs.declared.limits.TheConstants.{MOST_BYTES}
use Rattle.stm_texts.specs.Reading.{scenario_in}
use Rattle.stm_report.specs.Script.{IsReportOf}
use Rattle.stm_check.specs.declared.sources.CheckFault.{CheckFault}
use Rattle.stm_check.specs.declared.sources.CheckFault.TheVariants.{OutOfMemory, BadScenario, BadReport, Device}
use Rattle.stm_check.specs.Sources.{Sources}
use Rattle.stm_report.specs.declared.whole_comparing.WholeChecked.{WholeChecked}
use Rattle.stm_report.specs.declared.whole_comparing.WholeChecked.TheVariants.{Yes}
use Rattle.stm_report.specs.WholeComparing.{compared}
use Rattle.stm_report.specs.WholeJudging.{Judges}

abbrev pub AlikeIsEqual : Type 0
AlikeIsEqual = (expected given : List ℕ) → (compared expected given ≡ Yes) ↔ (expected ≡ given)

-- the texts were judged: no memory ran out, and no device failed
abbrev pub IsSettled : {A : Type 0} → Result A CheckFault → Type 0
IsSettled (Ok checked) = Unit {0}
IsSettled (Err OutOfMemory) = ⊥
IsSettled (Err (BadScenario fault)) = Unit {0}
IsSettled (Err (BadReport fault)) = Unit {0}
IsSettled (Err Device) = ⊥

-- Where the bytes of a scenario and of a text are known, the text is not too long and both were judged, the answer is yes exactly where the text is
-- the report that a script writes for the scenario.
abbrev pub YesIsTheReport : Type 0
YesIsTheReport =
    (d : Sources) (scenario text : List ℕ) (result : Result WholeChecked CheckFault) → d.scenario ≡ Some scenario → d.report ≡ Some text
    → length text ≤ MOST_BYTES → Judges d result → IsSettled result → (result ≡ Ok Yes) ↔ IsReportOf (scenario_in scenario) text
