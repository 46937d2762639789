-- The two forms of a report that are lines of JSON: each line as an array, or as an object with named fields.
use Rattle.std.specs.Prelude.{ℕ, List, [], ◌∷◌, ◌++◌, Result}
use Rattle.serde_json.specs.Data.{Data}
use Rattle.stm_events.specs.declared.reply.Reply.{Reply}
use Rattle.stm_events.specs.declared.refusal.Denied.{Denied}
use Rattle.stm_world.specs.World.{World}
use Rattle.stm_events.specs.declared.line.ReportLine.{ReportLine}
use Rattle.stm_report_lines.specs.LineData.{line_data}
use Rattle.stm_report_lines.specs.Text.{line_text}
use Rattle.stm_report.specs.declared.line_form.LineForm.{LineForm}
use Rattle.stm_report.specs.declared.line_form.LineForm.TheVariants.{Array, Object}
use Rattle.stm_report.specs.Report.{report_of}
use Rattle.stm_report.specs.FormatFields.{object_text, line_fields}

abbrev pub formed_data : LineForm → List (List ℕ) → Data → List ℕ
formed_data Array names d = line_text d
formed_data Object names d = object_text names d

abbrev pub formed : LineForm → ReportLine → List ℕ
formed form l = formed_data form (line_fields l) (line_data l)

-- a line as an object
abbrev pub object_line : ReportLine → List ℕ
object_line l = formed Object l

-- the text of a report's lines in a form
abbrev pub formed_text : LineForm → List ReportLine → List ℕ
formed_text form [] = []
formed_text form (l ∷ lines) = formed form l ++ formed_text form lines

-- the lines of a report as objects
abbrev pub json_text : World → List (Result Reply Denied) → List ℕ
json_text w replies = formed_text Object (report_of w replies).lines
