-- Written JSON has no line feed, so a text is cut into the lines that it was made of.
use Rattle.std.proofs.Common.{◌≡◌, ℕ, ◌/◌, ◌%◌, ◌^◌, ◌<◌, Bool, true, false, cond, List, [], ◌∷◌, ◌++◌, ℤ, pos, negsuc, decimal, refl, sym}
use Rattle.std.proofs.Common.{◌∙◌, ap, subst, arith, append_assoc, eqb-true, length, take, drop, get_or, IsUtf8}
use Rattle.std.proofs.lemmas.Bool.{ltb-true, ne_eqb, Decides.nat_tests}
use Rattle.std.proofs.lemmas.Fmt.{decimal_is_IsNumeral}
use Rattle.std.proofs.lemmas.List.Splits.{slice_split-cons_yes, slice_split-cons_no}
use Rattle.std.proofs.lemmas.Str.{IsUtf8-take, IsUtf8-drop, IsCharBoundary-before_ascii, IsCharBoundary-after_ascii}
use Rattle.std.specs.Str.{IsCharBoundary}
use Rattle.std.specs.Char.{digit_value, digit_char}
use Rattle.std.specs.Fmt.{signed_decimal}
use Rattle.std.specs.Str.Parse.{AllDigits}
use Rattle.json.specs.Print.{escape_byte, escape}
use Rattle.serde_json.specs.Data.{Num, Data, null, boolean, number, string, array, object, Items, no_items, item}
use Rattle.serde_json.specs.Find.{of_integer}
use Rattle.serde_json.specs.Written.{number_text, compact_text, items_text, comma_if}
use Rattle.stm_json.specs.Elements.{is_64_bit}
use Rattle.stm_events.specs.declared.line.ReportLine.{ReportLine}
use Rattle.stm_report_lines.specs.Bytes.{is_line_feed, parts_of}
use Rattle.stm_report_lines.specs.Grammar.{SpellsParts}
use Rattle.stm_report_lines.specs.LineData.{line_data}
use Rattle.stm_report_lines.specs.Text.{text_of}
use Rattle.stm_report_lines.proofs.ReportLaws.{report_reads}
use Rattle.stm_report_lines.proofs.ReadBack.{spells_itself}
use Rattle.stm_report_lines.specs.ReadBack.{IsPlain, ArePlain}
use Rattle.stm_report_laws.specs.ReadBack.{AreReadable, ReportsAreReadBack}
use Rattle.stm_report_lines.proofs.Shallow.{line_is_shallow}
use Rattle.stm_report_laws.proofs.Written.{written_is_read}

abbrev HasNoFeed : List ℕ → Type 0
HasNoFeed [] = Unit {0}
HasNoFeed (b ∷ bs) = (is_line_feed b ≡ false) × HasNoFeed bs

both : (a b : List ℕ) → HasNoFeed a → HasNoFeed b → HasNoFeed (a ++ b)
both [] b one other = other
both (x ∷ a) b one other = (one.0, both a b one.1 other)

-- ---- numbers

digit_by : (c : ℕ) (b : Bool) → is_line_feed c ≡ b → digit_value c < 10 → b ≡ false
digit_by c b is digit = grind (arith, nat_tests, eqb-true)

digits_none : (ds : List ℕ) → AllDigits 10 ds → HasNoFeed ds
digits_none [] all = tt
digits_none (c ∷ cs) all = (digit_by c (is_line_feed c) refl all.0, digits_none cs all.1)

decimal_none : (n : ℕ) → n < 2 ^ 64 → HasNoFeed (decimal n)
decimal_none n below = digits_none (decimal n) (decimal_is_IsNumeral n below).0.1

signed_none : (z : ℤ) → is_64_bit z ≡ true → HasNoFeed (signed_decimal z)
signed_none z fits = grind (arith, nat_tests, ltb-true, decimal_none)

number_none : (z : ℤ) → is_64_bit z ≡ true → HasNoFeed (number_text (of_integer z))
number_none (pos n) fits = signed_none (pos n) fits
number_none (negsuc n) fits = signed_none (negsuc n) fits

-- ---- texts

chosen : (short control : Bool) (x letter : ℕ) → is_line_feed letter ≡ false → is_line_feed x ≡ false →
    HasNoFeed (cond short (92 ∷ letter ∷ []) (cond control (92 ∷ 117 ∷ 48 ∷ 48 ∷ digit_char (x / 16) ∷ digit_char (x % 16) ∷ []) (x ∷ [])))
chosen short control x letter own is = grind (arith, nat_tests, ne_eqb)

byte_by : (x : ℕ) (feed : Bool) → is_line_feed x ≡ feed → HasNoFeed (escape_byte x)
unfolding escape_byte
byte_by x feed is = grind (arith, nat_tests, eqb-true, chosen)

escaped_none : (s : List ℕ) → HasNoFeed (escape s)
escaped_none [] = tt
escaped_none (x ∷ s) = both (escape_byte x) (escape s) (byte_by x (is_line_feed x) refl) (escaped_none s)

-- ---- data

comma_none : (later : Bool) → HasNoFeed (comma_if later)
comma_none later = grind (arith, nat_tests)

mutual
  data_none : (d : Data) → IsPlain d → HasNoFeed (compact_text d)
  data_none null plain = (refl, (refl, (refl, (refl, tt))))
  data_none (boolean true) plain = (refl, (refl, (refl, (refl, tt))))
  data_none (boolean false) plain = (refl, (refl, (refl, (refl, (refl, tt)))))
  data_none (number m) (z, is, fits) = subst (λ (n : Num). HasNoFeed (number_text n)) (sym is) (number_none z fits)
  data_none (string s) plain = (refl, both (escape s) (34 ∷ []) (escaped_none s) (refl, tt))
  data_none (array ds) plain = (refl, items_none false ds plain)
  data_none (object ms) plain = absurd plain

  items_none : (later : Bool) (ds : Items) → ArePlain ds → HasNoFeed (items_text later ds)
  items_none later no_items plain = (refl, tt)
  items_none later (item d ds) (one, others) =
      both (comma_if later) (compact_text d ++ items_text true ds) (comma_none later)
      (both (compact_text d) (items_text true ds) (data_none d one) (items_none true ds others))

-- ---- the lines

-- what stands before a line feed, what it is, and what stands from it on
before_feed : (c rest : List ℕ) → take (length c) (c ++ 10 ∷ rest) ≡ c
before_feed [] rest = refl
before_feed (b ∷ c) rest = ap (λ (l : List ℕ). b ∷ l) (before_feed c rest)

at_feed : (c rest : List ℕ) → get_or (c ++ 10 ∷ rest) (length c) 0 ≡ 10
at_feed [] rest = refl
at_feed (b ∷ c) rest = at_feed c rest

from_feed : (c rest : List ℕ) → drop (length c) (c ++ 10 ∷ rest) ≡ 10 ∷ rest
from_feed [] rest = refl
from_feed (b ∷ c) rest = from_feed c rest

within_text : (c rest : List ℕ) → length c < length (c ++ 10 ∷ rest)
within_text [] rest = omega arith
within_text (b ∷ c) rest = let more : length c < length (c ++ 10 ∷ rest) = within_text c rest in omega (arith, more)

-- UTF-8 is cut by a line feed into two texts in UTF-8
cut_at_feed : (c rest : List ℕ) → IsUtf8 (c ++ 10 ∷ rest) → IsUtf8 c × IsUtf8 rest
cut_at_feed c rest utf8 =
    let text : List ℕ = c ++ 10 ∷ rest in
    let feed : get_or text (length c) 0 ≡ 10 = at_feed c rest in
    let cut : IsCharBoundary text (length c) = IsCharBoundary-before_ascii text (length c) (within_text c rest) (omega (arith, feed)) in
    let behind : IsUtf8 (10 ∷ rest) = subst IsUtf8 (from_feed c rest) (IsUtf8-drop text (length c) utf8 cut) in (
      subst IsUtf8 (before_feed c rest) (IsUtf8-take text (length c) utf8 cut),
      IsUtf8-drop (10 ∷ rest) 1 behind (IsCharBoundary-after_ascii (10 ∷ rest) 0 behind (omega arith) (omega arith)),
    )

cut_after : (c rest : List ℕ) → HasNoFeed c → parts_of (c ++ 10 ∷ rest) ≡ c ∷ parts_of rest
cut_after [] rest none = slice_split-cons_yes is_line_feed 10 rest refl
cut_after (b ∷ c) rest none = grind (arith, nat_tests, slice_split-cons_no, cut_after c rest none.1)

parts_spell : (lines : List ReportLine) → AreReadable lines → IsUtf8 (text_of lines) → SpellsParts (parts_of (text_of lines)) lines
parts_spell [] readable utf8 = refl
parts_spell (l ∷ lines) (one, others) utf8 =
    let c : List ℕ = compact_text (line_data l) in
    let whole : (c ++ 10 ∷ []) ++ text_of lines ≡ c ++ 10 ∷ text_of lines = append_assoc c (10 ∷ []) (text_of lines) in
    let halves : IsUtf8 c × IsUtf8 (text_of lines) = cut_at_feed c (text_of lines) (subst IsUtf8 whole utf8) in (
      c,
      parts_of (text_of lines),
      ap parts_of whole ∙ cut_after c (text_of lines) (data_none (line_data l) one.0),
      (line_data l, written_is_read (line_data l) one.0 halves.0 (line_is_shallow l), (spells_itself (line_data l) one.0, one.1)),
      parts_spell lines others halves.1,
    )

pub reports_are_read_back : ReportsAreReadBack
reports_are_read_back r readable utf8 short = report_reads (text_of r.lines) r (short, parts_spell r.lines readable utf8)
