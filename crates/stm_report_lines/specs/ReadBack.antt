-- What is written for a line is read back as the line.
use Rattle.std.specs.Prelude.{◌≡◌, ℤ, Ok, true}
use Rattle.serde_json.specs.Data.{Data, null, boolean, number, string, array, object, Items, no_items, item}
use Rattle.serde_json.specs.Find.{of_integer}
use Rattle.stm_json.specs.Elements.{is_64_bit}
use Rattle.stm_events.specs.declared.line.ReportLine.{ReportLine}
use Rattle.stm_report_lines.specs.Grammar.{CountsFit}
use Rattle.stm_report_lines.specs.LineData.{line_data}
use Rattle.stm_report_lines.specs.Reading.{line_of}

-- each number in the data is a whole one of 64 bits with a sign, held as it is written, and there is no object
abbrev mutual
  pub IsPlain : Data → Type 0
  IsPlain null = Unit {0}
  IsPlain (boolean b) = Unit {0}
  IsPlain (number n) = (z : ℤ) × (n ≡ of_integer z) × (is_64_bit z ≡ true)
  IsPlain (string s) = Unit {0}
  IsPlain (array ds) = ArePlain ds
  IsPlain (object ms) = ⊥

  pub ArePlain : Items → Type 0
  ArePlain no_items = Unit {0}
  ArePlain (item d ds) = IsPlain d × ArePlain ds

-- a line whose numbers are of 64 bits with a sign, and in which a delete deletes one key at most
abbrev pub LinesReadBack : Type 0
LinesReadBack = (l : ReportLine) → IsPlain (line_data l) → CountsFit l → line_of (line_data l) ≡ Ok l
