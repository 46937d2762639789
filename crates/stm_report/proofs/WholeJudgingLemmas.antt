-- From the comparison of two texts to the judgement on one, and from what was read of the sources to what they have.
use Rattle.std.proofs.Common.{◌≡◌, ℕ, ◌≤◌, ◌<◌, List, [], ◌++◌, length, take, Bool, true, false, nat_lt, Option, Some, None, Result, Ok, Err, IfSome}
use Rattle.std.proofs.Common.{refl, sym, ap, subst, ◌∙◌, arith, take_all, true≢false}
use Rattle.std.proofs.lemmas.Bool.{ltb-true, ltb-false}
use Rattle.std.proofs.lemmas.Bool.Decides.{nat_tests}
use Rattle.std.proofs.lemmas.List.{length-take-le}
use Rattle.stm_json.specs.declared.cause.Cause.TheVariants.{TooLong}
use Rattle.stm_json.specs.declared.limits.TheConstants.{MOST_BYTES}
use Rattle.stm_json.specs.Outcome.{Outcome, bad}
use Rattle.stm_devices.specs.declared.transfer.TheConstants.{MOST_READ}
use Rattle.stm_texts.specs.Reading.{scenario_in}
use Rattle.stm_events.specs.declared.line.Report.{Report}
use Rattle.stm_report_lines.specs.Reading.{report_in}
use Rattle.stm_report.specs.Script.{IsReportOf}
use Rattle.stm_check.specs.declared.sources.CheckFault.{CheckFault}
use Rattle.stm_check.specs.declared.sources.CheckFault.TheVariants.{OutOfMemory, BadScenario, BadReport, Device}
use Rattle.stm_check.specs.Sources.{Sources, NoneFailed}
use Rattle.stm_check.proofs.SourceLemmas.{report_reported}
use Rattle.stm_report.specs.declared.whole_comparing.WholeChecked.{WholeChecked}
use Rattle.stm_report.specs.declared.whole_comparing.WholeChecked.TheVariants.{Yes, No}
use Rattle.stm_report.specs.WholeComparing.{compared, is_yes}
use Rattle.stm_report.specs.WholeJudging.{HasForm, IsFormed, IsExpected, JudgesText, Judges}

-- ---- one text

abbrev pub is_read : {A : Type 0} → Outcome A → Bool
is_read (Ok x) = true
is_read (Err fault) = false

-- what was read has no fault
pub read_or_bad : {A : Type 0} (reading : Outcome A) (x : A) → reading ≡ Ok x → is_read reading ≡ false → ⊥
read_or_bad reading x is bad_one = true≢false (sym (ap is_read is) ∙ bad_one)

report_in-long : (bytes : List ℕ) → MOST_BYTES < length bytes → report_in bytes ≡ bad TooLong
unfolding report_in
report_in-long bytes long = grind (arith, nat_tests)

short_by : (b : Bool) (given : List ℕ) (r : Report) → nat_lt MOST_BYTES (length given) ≡ b → report_in given ≡ Ok r → length given ≤ MOST_BYTES
short_by false given r is reads = ltb-false MOST_BYTES (length given) is
short_by true given r is reads =
    absurd (read_or_bad (report_in given) r reads (ap is_read (report_in-long given (ltb-true MOST_BYTES (length given) is))))

-- a text that is a report in its format is not too long
short_report : (given : List ℕ) (r : Report) → report_in given ≡ Ok r → length given ≤ MOST_BYTES
short_report given r reads = short_by (nat_lt MOST_BYTES (length given)) given r refl reads

formed : (given : List ℕ) (checked : WholeChecked) → (r : Report) × (report_in given ≡ Ok r) → IsFormed given checked
formed given Yes form = tt
formed given (No line expected) form = form

-- yes to a text that is not too long
pub yes_judged : (expected given : List ℕ) (checked : WholeChecked) → checked ≡ compared expected given → length given ≤ MOST_BYTES → is_yes checked ≡ true
    → JudgesText expected given (Ok checked)
yes_judged expected given Yes is short says = (is, short, tt)
yes_judged expected given (No line wanted) is short says = absurd (true≢false (sym says))

-- any other answer waits for the form of the text
pub form_judged : (expected given : List ℕ) (checked : WholeChecked) (result : Result WholeChecked CheckFault) → checked ≡ compared expected given
    → (length given ≤ MOST_BYTES → is_yes checked ≡ true → ⊥) → HasForm given checked result → JudgesText expected given result
form_judged expected given checked (Ok answer) is other form =
    (form.0 ∙ is, short_report given form.1.0 form.1.1, formed given answer form.1)
form_judged expected given checked (Err OutOfMemory) is other form = tt
form_judged expected given checked (Err (BadScenario fault)) is other form = form
form_judged expected given checked (Err (BadReport fault)) is other form = (form, λ short same. other short (ap is_yes (is ∙ same)))
form_judged expected given checked (Err Device) is other form = form

-- ---- the report of one source

-- what a script wrote to memory is the report
pub written : (known : Option (List ℕ)) (held : List ℕ) → IfSome known (λ all. (text : List ℕ) × IsReportOf (scenario_in all) text × (held ≡ [] ++ text))
    → IfSome known (λ all. IsReportOf (scenario_in all) held)
written None held wrote = tt
written (Some all) held (text, is, same) = subst (λ (t : List ℕ). IsReportOf (scenario_in all) t) (sym same) is

-- ---- two sources

-- what is short enough was read whole
whole_by : (b : Bool) (bytes all : List ℕ) → nat_lt MOST_BYTES (length all) ≡ b → bytes ≡ take MOST_READ all → length bytes ≤ MOST_BYTES → bytes ≡ all
whole_by true bytes all is read short =
    let long : MOST_BYTES < length all = ltb-true MOST_BYTES (length all) is in
    let front : length (take MOST_READ all) ≡ MOST_READ = length-take-le MOST_READ all (omega arith) in
    let many : length bytes ≡ MOST_READ = ap length read ∙ front in
    absurd (omega (arith, many, short))
whole_by false bytes all is read short =
    let few : length all ≤ MOST_BYTES = ltb-false MOST_BYTES (length all) is in
    read ∙ take_all MOST_READ all (omega arith)

whole : (bytes all : List ℕ) → bytes ≡ take MOST_READ all → length bytes ≤ MOST_BYTES → bytes ≡ all
whole bytes all read short = whole_by (nat_lt MOST_BYTES (length all)) bytes all refl read short

text_reported : (bytes : List ℕ) (known : Option (List ℕ)) (report : List ℕ) (result : Result WholeChecked CheckFault)
    → IfSome known (λ all. bytes ≡ take MOST_READ all) → JudgesText report bytes result → IfSome known (λ all. JudgesText report all result)
text_reported bytes None report result read reported = tt
text_reported bytes (Some all) report (Ok checked) read reported =
    subst (λ (given : List ℕ). JudgesText report given (Ok checked)) (whole bytes all read reported.1) reported
text_reported bytes (Some all) report (Err OutOfMemory) read reported = tt
text_reported bytes (Some all) report (Err (BadScenario fault)) read reported = reported
text_reported bytes (Some all) report (Err (BadReport fault)) read reported = (
  report_reported bytes (Some all) (Err fault) read reported.0,
  λ short same.
      let is_whole : bytes ≡ all = read ∙ take_all MOST_READ all (omega (arith, short)) in
      reported.1 (subst (λ (given : List ℕ). length given ≤ MOST_BYTES) (sym is_whole) short) (ap (compared report) is_whole ∙ same),
)
text_reported bytes (Some all) report (Err Device) read reported = reported

-- what was judged of the bytes that were read was judged of the sources
pub judged : (d : Sources) (report bytes : List ℕ) (result : Result WholeChecked CheckFault) → NoneFailed d → IsExpected d report
    → IfSome d.report (λ all. bytes ≡ take MOST_READ all) → JudgesText report bytes result → Judges d result
judged d report bytes (Ok checked) none expected read reported = (none, (report, expected, text_reported bytes d.report report (Ok checked) read reported))
judged d report bytes (Err OutOfMemory) none expected read reported = none
judged d report bytes (Err (BadScenario fault)) none expected read reported = absurd reported
judged d report bytes (Err (BadReport fault)) none expected read reported =
    (none, (report, expected, text_reported bytes d.report report (Err (BadReport fault)) read reported))
judged d report bytes (Err Device) none expected read reported = absurd reported
