-- Plain data spell themselves, so a line that is written is read back.
use Rattle.std.proofs.Common.{◌≡◌, ℤ, Some, refl, ap, ◌∙◌, arith}
use Rattle.std.proofs.lemmas.Bool.Decides.{nat_tests}
use Rattle.serde_json.specs.Data.{Data, null, boolean, number, string, array, object, Items, no_items, item}
use Rattle.serde_json.specs.Find.{as_integer, of_integer}
use Rattle.stm_report_lines.specs.Grammar.{Spells, SpellsItems}
use Rattle.stm_report_lines.specs.LineData.{line_data}
use Rattle.stm_report_lines.specs.ReadBack.{IsPlain, ArePlain, LinesReadBack}
use Rattle.stm_report_lines.proofs.LineLaws.{line_reads}

as_whole : (z : ℤ) → as_integer (of_integer z) ≡ Some z
as_whole z = grind (arith, nat_tests)

mutual
  pub spells_itself : (d : Data) → IsPlain d → Spells d d
  spells_itself null plain = refl
  spells_itself (boolean b) plain = refl
  spells_itself (number n) (z, is, fits) = let whole : as_integer n ≡ Some z = ap as_integer is ∙ as_whole z in (z, (n, refl, whole), whole, fits)
  spells_itself (string s) plain = refl
  spells_itself (array ds) plain = (ds, refl, spell_themselves ds plain)
  spells_itself (object ms) plain = absurd plain

  spell_themselves : (ds : Items) → ArePlain ds → SpellsItems ds ds
  spell_themselves no_items plain = refl
  spell_themselves (item d ds) (plain, others) = (d, ds, refl, spells_itself d plain, spell_themselves ds others)

pub lines_read_back : LinesReadBack
lines_read_back l plain fits = line_reads (line_data l) l (spells_itself (line_data l) plain, fits)
