-- What is written for plain data is read as these data.
use Rattle.std.proofs.Common.{◌≡◌, ℕ, suc, ◌^◌, ◌<◌, ◌≤◌, max, Bool, true, cond, List, [], Option, Some, None, option_map, option_and_then}
use Rattle.std.proofs.Common.{ℤ, pos, negsuc, IsUtf8, refl, sym, ◌∙◌, ap, subst, arith, append-nil}
use Rattle.std.proofs.lemmas.Bool.{ltb-true, Decides.nat_tests}
use Rattle.std.proofs.lemmas.Str.{is_utf8-from_IsUtf8}
use Rattle.json.specs.Token.{Token}
use Rattle.json.specs.Lex.{tokens}
use Rattle.json.specs.Print.{print}
use Rattle.json.specs.Json as json
use Rattle.json.specs.Tree as tree
use Rattle.json.proofs.Printed.Decimals.{IsNumber-decimal, IsNumber-signed_decimal}
use Rattle.json.proofs.Printed.Tokens.{tokens-print}
use Rattle.json.proofs.Printed.Trees.{value-json_tokens, ArePrintable-json_tokens}
use Rattle.serde_json.specs.Data.{Num, Data, null, boolean, number, string, array, object, Items, no_items, item, depth, items_depth}
use Rattle.serde_json.specs.Find.{of_integer}
use Rattle.serde_json.specs.Read.{read, number_of, of_json, of_items, max_depth}
use Rattle.serde_json.specs.Written.{number_text, outline, items_outline, compact_text}
use Rattle.serde_json.proofs.Numbers.{number_of-decimal, number_of-negative}
use Rattle.serde_json.proofs.Texts.{print-outline}
use Rattle.stm_json.specs.Bytes.{data_of}
use Rattle.stm_json.specs.Elements.{is_64_bit}
use Rattle.stm_report_lines.specs.ReadBack.{IsPlain, ArePlain}

-- ---- numbers

below : (n : ℕ) → n < 2 ^ 63 → n < 2 ^ 64
below n small = omega (arith, small)

integer_read : (z : ℤ) → is_64_bit z ≡ true → number_of (number_text (of_integer z)) ≡ Some (of_integer z)
integer_read z fits = grind (arith, nat_tests, number_of-decimal, below, ltb-true, number_of-negative)

-- what holds of each whole number of 64 bits
by_integer : (P : Num → Type 0) → ((z : ℤ) → is_64_bit z ≡ true → P (of_integer z)) →
    (m : Num) → (z : ℤ) × (m ≡ of_integer z) × (is_64_bit z ≡ true) → P m
by_integer P each m (z, is, fits) = subst P (sym is) (each z fits)

-- ---- the value

mutual
  data_read : (d : Data) → IsPlain d → of_json (outline d) ≡ Some d
  data_read null plain = refl
  data_read (boolean b) plain = refl
  data_read (number m) plain = ap (option_map number) (by_integer (λ (n : Num). number_of (number_text n) ≡ Some n) integer_read m plain)
  data_read (string s) plain = refl
  data_read (array ds) plain = ap (option_map array) (items_read ds plain)
  data_read (object ms) plain = absurd plain

  items_read : (ds : Items) → ArePlain ds → of_items (items_outline ds) ≡ Some ds
  items_read no_items plain = refl
  items_read (item d ds) (one, others) =
      ap (option_and_then (λ (x : Data). option_map (item x) (of_items (items_outline ds)))) (data_read d one)
      ∙ ap (option_map (item d)) (items_read ds others)

mutual
  depth_is : (d : Data) → IsPlain d → tree.depth (outline d) ≡ depth d
  depth_is null plain = refl
  depth_is (boolean b) plain = refl
  depth_is (number m) plain = refl
  depth_is (string s) plain = refl
  depth_is (array ds) plain = ap suc (items_depth_is ds plain)
  depth_is (object ms) plain = absurd plain

  items_depth_is : (ds : Items) → ArePlain ds → tree.items_depth (items_outline ds) ≡ items_depth ds
  items_depth_is no_items plain = refl
  items_depth_is (item d ds) (one, others) = λ i. max (depth_is d one i) (items_depth_is ds others i)

-- ---- its tokens

integer_printed : (z : ℤ) → is_64_bit z ≡ true → tree.HasNumbers (json.number (number_text (of_integer z)))
integer_printed (pos n) fits = IsNumber-decimal n (below n (ltb-true n (2 ^ 63) fits))
integer_printed (negsuc n) fits = IsNumber-signed_decimal (negsuc n) (ltb-true n (2 ^ 63) fits)

mutual
  has_numbers : (d : Data) → IsPlain d → tree.HasNumbers (outline d)
  has_numbers null plain = tt
  has_numbers (boolean b) plain = tt
  has_numbers (number m) plain = by_integer (λ (n : Num). tree.HasNumbers (json.number (number_text n))) integer_printed m plain
  has_numbers (string s) plain = tt
  has_numbers (array ds) plain = items_have_numbers ds plain
  has_numbers (object ms) plain = absurd plain

  items_have_numbers : (ds : Items) → ArePlain ds → tree.ItemsHaveNumbers (items_outline ds)
  items_have_numbers no_items plain = tt
  items_have_numbers (item d ds) (one, others) = (has_numbers d one, items_have_numbers ds others)

-- ---- the whole

-- tokens that are those of some JSON are read as what it is
tokens_read : (text : List ℕ) (j : json.Json) (d : Data) → tokens text ≡ tree.json_tokens j → tree.depth j ≤ max_depth → of_json j ≡ Some d → read text ≡ Some d
tokens_read text j d same shallow is =
    ap (λ (o : Option (json.Json × List Token)). option_and_then of_json (option_and_then (λ p. json.if_last p.0 p.1) o))
    (ap (json.value max_depth) (same ∙ sym (append-nil (tree.json_tokens j))) ∙ value-json_tokens j max_depth [] shallow) ∙ is

pub written_is_read : (d : Data) → IsPlain d → IsUtf8 (compact_text d) → depth d ≤ max_depth → data_of (compact_text d) ≡ Some d
written_is_read d plain utf8 shallow =
    let ts : List Token = tree.json_tokens (outline d) in
    let text : compact_text d ≡ print ts = sym (print-outline d) in
    let same : tokens (compact_text d) ≡ ts = ap tokens text ∙ tokens-print ts (ArePrintable-json_tokens (outline d) (has_numbers d plain)) in
    let deep : tree.depth (outline d) ≤ max_depth = let is : tree.depth (outline d) ≡ depth d = depth_is d plain in omega (arith, is) in
    ap (λ (b : Bool). cond b (read (compact_text d)) None) (is_utf8-from_IsUtf8 (compact_text d) utf8)
    ∙ tokens_read (compact_text d) (outline d) d same deep (data_read d plain)
