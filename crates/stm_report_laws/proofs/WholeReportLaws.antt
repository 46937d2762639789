-- A check of a whole report says yes exactly where the text is the scenario's report.
use Rattle.std.proofs.Common.{◌≡◌, ℕ, ◌≤◌, List, length, Some, Result, Ok, Err, IfSome, refl, sym, ap, subst, ◌∙◌, true≢false, arith}
use Rattle.std.proofs.lemmas.Bool.Decides.{nat_tests}
use Rattle.stm_json.specs.declared.limits.TheConstants.{MOST_BYTES}
use Rattle.stm_json.specs.Outcome.{Outcome}
use Rattle.stm_texts.specs.declared.scenario.Scenario.{Scenario}
use Rattle.stm_texts.specs.Reading.{scenario_in}
use Rattle.stm_report.specs.Script.{IsReportOf}
use Rattle.stm_report.specs.FormatScript.{IsRunText}
use Rattle.stm_check.specs.declared.sources.CheckFault.{CheckFault}
use Rattle.stm_check.specs.declared.sources.CheckFault.TheVariants.{OutOfMemory, BadScenario, BadReport, Device}
use Rattle.stm_check.specs.Sources.{Sources}
use Rattle.stm_report.specs.declared.whole_comparing.WholeChecked.{WholeChecked}
use Rattle.stm_report.specs.declared.whole_comparing.WholeChecked.TheVariants.{Yes, No}
use Rattle.stm_report.specs.WholeComparing.{compared, is_yes}
use Rattle.stm_report.specs.WholeJudging.{JudgesText, Judges}
use Rattle.stm_report_laws.specs.WholeLaws.{AlikeIsEqual, IsSettled, YesIsTheReport}
use Rattle.stm_report.proofs.WholeLineLemmas.{alike, own, same_lines}
use Rattle.stm_report.proofs.WholeJudgingLemmas.{is_read, read_or_bad}
use Rattle.stm_report_laws.proofs.ScriptsRead.{at_known}

-- ---- alike line by line is equal

pub alike_is_equal : AlikeIsEqual
alike_is_equal expected given = grind (arith, nat_tests, same_lines, alike, own)

-- ---- a scenario has one report

abbrev scenario_or : Outcome Scenario → Scenario → Scenario
scenario_or (Ok s) other = s
scenario_or (Err fault) other = other

one_of_reading : (reading : Outcome Scenario) (a b : List ℕ) → IsReportOf reading a → IsReportOf reading b → a ≡ b
unfolding IsRunText
one_of_reading reading a b h4 h5 = grind (arith, nat_tests)

-- ---- the law

yes_means : (d : Sources) (scenario text : List ℕ) → d.scenario ≡ Some scenario → d.report ≡ Some text → Judges d (Ok Yes)
    → IsReportOf (scenario_in scenario) text
yes_means d scenario text of_scenario of_text h6 = grind (arith, nat_tests, at_known, alike_is_equal)

-- the text that is the report is the expected one
expected_one : (d : Sources) (scenario text report : List ℕ) → d.scenario ≡ Some scenario
    → IfSome d.scenario (λ all. IsReportOf (scenario_in all) report) → IsReportOf (scenario_in scenario) text → compared report text ≡ Yes
expected_one d scenario text report of_scenario expected is =
    (alike_is_equal report text).1 (one_of_reading (scenario_in scenario) report text
    (at_known d.scenario scenario (λ (all : List ℕ). IsReportOf (scenario_in all) report) of_scenario expected) is)

report_means : (d : Sources) (scenario text : List ℕ) (result : Result WholeChecked CheckFault) → d.scenario ≡ Some scenario → d.report ≡ Some text
    → length text ≤ MOST_BYTES → Judges d result → IsSettled result → IsReportOf (scenario_in scenario) text → result ≡ Ok Yes
report_means d scenario text (Ok Yes) of_scenario of_text short judges settled is = refl
report_means d scenario text (Ok (No line wanted)) of_scenario of_text short (none, (report, expected, reported)) settled is =
    let judged : JudgesText report text (Ok (No line wanted)) =
    at_known d.report text (λ (all : List ℕ). JudgesText report all (Ok (No line wanted))) of_text reported in
    absurd (true≢false (sym (ap is_yes (judged.0 ∙ expected_one d scenario text report of_scenario expected is))))
report_means d scenario text (Err OutOfMemory) of_scenario of_text short judges settled is = absurd settled
report_means d scenario text (Err (BadScenario fault)) of_scenario of_text short judges settled (s, reads, run) =
    let bad_one : scenario_in scenario ≡ Err fault =
    at_known d.scenario scenario (λ (all : List ℕ). scenario_in all ≡ Err fault) of_scenario judges.1 in
    absurd (read_or_bad (scenario_in scenario) s reads (ap is_read bad_one))
report_means d scenario text (Err (BadReport fault)) of_scenario of_text short (none, (report, expected, reported)) settled is =
    let bad_one : JudgesText report text (Err (BadReport fault)) =
    at_known d.report text (λ (all : List ℕ). JudgesText report all (Err (BadReport fault))) of_text reported in
    absurd (bad_one.1 short (expected_one d scenario text report of_scenario expected is))
report_means d scenario text (Err Device) of_scenario of_text short judges settled is = absurd settled

pub yes_is_the_report : YesIsTheReport
yes_is_the_report d scenario text result of_scenario of_text short judges settled = (
  λ says. yes_means d scenario text of_scenario of_text (subst (λ (r : Result WholeChecked CheckFault). Judges d r) says judges),
  λ is. report_means d scenario text result of_scenario of_text short judges settled is,
)
