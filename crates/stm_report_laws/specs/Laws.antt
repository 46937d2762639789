-- Laws of reports.
use Rattle.std.specs.Prelude.{◌≡◌, ℕ, ◌≤◌, List, length, Some, Result, Ok}
use Rattle.stm_events.specs.declared.reply.Reply.{Reply}
use Rattle.stm_events.specs.declared.refusal.Denied.{Denied}
use Rattle.stm_world.specs.World.{World}
use Rattle.stm_world.specs.Headline.{Holds}
use Rattle.stm_texts.specs.declared.scenario.Scenario.{Scenario}
use Rattle.stm_texts.specs.Reading.{scenario_in}
use Rattle.stm_texts.specs.Opens.{setup_of}
use Rattle.stm_events.specs.declared.line.Report.{Report}
use Rattle.stm_json.specs.declared.limits.TheConstants.{MOST_BYTES}
use Rattle.stm_check.specs.declared.checking.Checked.{Checked}
use Rattle.stm_check.specs.declared.checking.Checked.TheVariants.{Yes}
use Rattle.stm_check.specs.declared.sources.CheckFault.{CheckFault}
use Rattle.stm_check.specs.Sources.{Sources, Judges}
use Rattle.stm_check.specs.Judged.{IsJudged}
use Rattle.stm_check.specs.Wrong.{opens_at, entries_along}
use Rattle.stm_report_lines.specs.Reading.{report_in}
use Rattle.stm_report_lines.specs.Text.{text_of}
use Rattle.stm_report.specs.Report.{report_of, IsReport}
use Rattle.stm_report.specs.Script.{IsReportOf}
use Rattle.stm_report_laws.specs.WholeLaws.{IsSettled}

-- a world and its replies have one report
abbrev pub OneReport : Type 0
OneReport = (w : World) (replies : List (Result Reply Denied)) (a b : List ℕ) → IsReport w replies a → IsReport w replies b → a ≡ b

-- A text is the report of a run of a scenario's events, each with its reply, of which the headline holds.
pub record IsOfRightRun (s : Scenario) (text : List ℕ) : Type 0 where
  pub replies : List (Result Reply Denied)
  pub world : World
  pub report : IsReport world replies text
  pub holds : Holds (setup_of s.opening) s.events replies world

-- What a script writes for bytes that spell a scenario is the report of such a run.
abbrev pub ReportsAreOfRightRuns : Type 0
ReportsAreOfRightRuns =
    (bytes text : List ℕ) → IsReportOf (scenario_in bytes) text → (s : Scenario) × (scenario_in bytes ≡ Ok s) × IsOfRightRun s text

-- Where the headline holds of a run, a check says yes to its report: no line of it is wrong.
abbrev pub ChecksSayYes : Type 0
ChecksSayYes =
    (s : Scenario) (replies : List (Result Reply Denied)) (w : World) → Holds (setup_of s.opening) s.events replies w
    → IsJudged s (report_of w replies) Yes

-- Where the headline holds of a run, the entries that a check reads off its report are those of its world.
abbrev pub EntriesAreReported : Type 0
EntriesAreReported =
    (s : Scenario) (replies : List (Result Reply Denied)) (w : World) → Holds (setup_of s.opening) s.events replies w
    → entries_along (opens_at s) s.events (report_of w replies).lines ≡ w.entries

-- a text is that of a report of a scenario that a check says yes to
pub record IsOfRightReport (s : Scenario) (text : List ℕ) : Type 0 where
  pub report : Report
  pub written : text ≡ text_of report.lines
  pub yes : IsJudged s report Yes

-- What a script writes for bytes that spell a scenario is the text of such a report.
abbrev pub ScriptsPassChecks : Type 0
ScriptsPassChecks =
    (bytes text : List ℕ) → IsReportOf (scenario_in bytes) text → (s : Scenario) × (scenario_in bytes ≡ Ok s) × IsOfRightReport s text

-- a text is read as a report of a scenario that a check says yes to
pub record IsReadAsRight (s : Scenario) (text : List ℕ) : Type 0 where
  pub report : Report
  pub reads : report_in text ≡ Ok report
  pub yes : IsJudged s report Yes

-- What a script writes for bytes that spell a scenario is so, where it is no longer than a text may be.
abbrev pub ScriptsAreReadAsRight : Type 0
ScriptsAreReadAsRight =
    (bytes text : List ℕ) → IsReportOf (scenario_in bytes) text → length text ≤ MOST_BYTES
    → (s : Scenario) × (scenario_in bytes ≡ Ok s) × IsReadAsRight s text

-- Whatever a script writes: where it is read as a report, a check says yes to it, and never no.
abbrev pub NeverNoToAScript : Type 0
NeverNoToAScript =
    (bytes text : List ℕ) (s : Scenario) (r : Report) → IsReportOf (scenario_in bytes) text → scenario_in bytes ≡ Ok s → report_in text ≡ Ok r
    → IsJudged s r Yes

-- Where the bytes of a scenario and of a text are known, the text is what a script writes for the scenario and not too long, and both were judged,
-- the answer of a check is yes.
abbrev pub YesToAScript : Type 0
YesToAScript =
    (d : Sources) (scenario text : List ℕ) (result : Result Checked CheckFault) → d.scenario ≡ Some scenario → d.report ≡ Some text
    → IsReportOf (scenario_in scenario) text → length text ≤ MOST_BYTES → Judges d result → IsSettled result → result ≡ Ok Yes
