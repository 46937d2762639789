-- The text of lines, as it is written.
use Rattle.std.specs.Prelude.{ℕ, List, [], ◌∷◌, ◌++◌}
use Rattle.serde_json.specs.Data.{Data}
use Rattle.serde_json.specs.Written.{compact_text}
use Rattle.stm_events.specs.declared.line.ReportLine.{ReportLine}
use Rattle.stm_report_lines.specs.LineData.{line_data}

-- a line is compact JSON and a line feed
abbrev pub line_text : Data → List ℕ
line_text d = compact_text d ++ 10 ∷ []

abbrev pub lines_text : List Data → List ℕ
lines_text [] = []
lines_text (d ∷ ds) = line_text d ++ lines_text ds

-- the text of a report's lines
abbrev pub text_of : List ReportLine → List ℕ
text_of [] = []
text_of (l ∷ lines) = line_text (line_data l) ++ text_of lines
