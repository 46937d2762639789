-- Which bytes spell which report: the grammar, apart from reading. The data of a line say how it is spelled; JSON leaves open
-- how a number is held and where white space stands.
use Rattle.std.specs.Prelude.{◌≡◌, ℕ, ◌≤◌, ℤ, List, [], ◌∷◌, length, Some, Ok, true}
use Rattle.serde_json.specs.Data.{Data, null, boolean, number, string, array, object, Items, no_items, item}
use Rattle.serde_json.specs.Find.{as_integer}
use Rattle.stm_json.specs.Elements.{SpellsNumber, is_64_bit}
use Rattle.stm_events.specs.declared.line.ReportLine.{ReportLine}
use Rattle.stm_events.specs.declared.line.ReportLine.TheVariants.{Event}
use Rattle.stm_events.specs.declared.line.Report.{Report}
use Rattle.stm_events.specs.declared.reply.Reply.TheVariants.{Txn}
use Rattle.stm_events.specs.declared.reply.OpReply.{OpReply}
use Rattle.stm_events.specs.declared.reply.OpReply.TheVariants.{Get, Put, Del}
use Rattle.stm_json.specs.declared.limits.TheConstants.{MOST_BYTES}
use Rattle.stm_json.specs.Bytes.{data_of}
use Rattle.stm_report_lines.specs.Bytes.{parts_of}
use Rattle.stm_report_lines.specs.LineData.{line_data}

-- the same data, each whole number held in any way, and of 64 bits with a sign
abbrev mutual
  pub Spells : Data → Data → Type 0
  Spells d null = d ≡ null
  Spells d (boolean b) = d ≡ boolean b
  Spells d (number n) = (z : ℤ) × SpellsNumber d z × (as_integer n ≡ Some z) × (is_64_bit z ≡ true)
  Spells d (string s) = d ≡ string s
  Spells d (array es) = (ds : Items) × (d ≡ array ds) × SpellsItems ds es
  Spells d (object ms) = d ≡ object ms

  pub SpellsItems : Items → Items → Type 0
  SpellsItems ds no_items = ds ≡ no_items
  SpellsItems ds (item e es) = (a : Data) × (rest : Items) × (ds ≡ item a rest) × Spells a e × SpellsItems rest es

-- a delete deletes one key at most
abbrev pub CountFits : OpReply → Type 0
CountFits (Get revision kv) = Unit {0}
CountFits Put = Unit {0}
CountFits (Del count) = count ≤ 1

abbrev pub AllCountsFit : List OpReply → Type 0
AllCountsFit [] = Unit {0}
AllCountsFit (o ∷ os) = CountFits o × AllCountsFit os

abbrev pub CountsFit : ReportLine → Type 0
CountsFit (Event n (Ok (Txn succeeded revision answers))) = AllCountsFit answers
CountsFit other = Unit {0}

-- data spell a line
abbrev pub SpellsLine : Data → ReportLine → Type 0
SpellsLine d l = Spells d (line_data l) × CountsFit l

-- the parts that bytes are cut into by line feeds: one for each line, which is the JSON of the line's data, and nothing after
abbrev pub SpellsParts : List (List ℕ) → List ReportLine → Type 0
SpellsParts parts [] = parts ≡ [] ∷ []
SpellsParts parts (l ∷ ls) = (part : List ℕ) × (rest : List (List ℕ)) × (parts ≡ part ∷ rest)
    × ((d : Data) × (data_of part ≡ Some d) × SpellsLine d l) × SpellsParts rest ls

-- such bytes, not too many
abbrev pub SpellsReport : List ℕ → Report → Type 0
SpellsReport bytes r = (length bytes ≤ MOST_BYTES) × SpellsParts (parts_of bytes) r.lines
