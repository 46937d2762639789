-- The text of a report is read as that report.
use Rattle.std.specs.Prelude.{◌≡◌, ◌≤◌, List, length, Ok, IsUtf8}
use Rattle.std.specs.List.{AllByRecursion}
use Rattle.stm_json.specs.declared.limits.TheConstants.{MOST_BYTES}
use Rattle.stm_events.specs.declared.line.ReportLine.{ReportLine}
use Rattle.stm_events.specs.declared.line.Report.{Report}
use Rattle.stm_report_lines.specs.Grammar.{CountsFit}
use Rattle.stm_report_lines.specs.LineData.{line_data}
use Rattle.stm_report_lines.specs.ReadBack.{IsPlain}
use Rattle.stm_report_lines.specs.Reading.{report_in}
use Rattle.stm_report_lines.specs.Text.{text_of}

-- a line whose numbers are of 64 bits with a sign, in which a deletion of one key deletes one at most
abbrev pub IsReadable : ReportLine → Type 0
IsReadable line = IsPlain (line_data line) × CountsFit line

abbrev pub AreReadable : List ReportLine → Type 0
AreReadable = AllByRecursion IsReadable

-- The text of a report of such lines, in UTF-8, is read as this report, unless it is longer than a text may be.
abbrev pub ReportsAreReadBack : Type 0
ReportsAreReadBack =
    (r : Report) → AreReadable r.lines → IsUtf8 (text_of r.lines) → length (text_of r.lines) ≤ MOST_BYTES → report_in (text_of r.lines) ≡ Ok r
