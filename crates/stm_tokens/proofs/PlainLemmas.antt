-- Texts without escapes: their bytes stand for themselves.
use Rattle.std.proofs.Common.{◌≡◌, ◌<◌, ◌+◌, ◌++◌, ℕ, suc, List, [], ◌∷◌, length, take, get_or, Bool, true, false, not, ◌&&◌, Option, Some, option_and_then, refl, sym, ap, ◌∙◌, subst, arith, IsUtf8}
use Rattle.std.proofs.Math.Seq.{take-suc}
use Rattle.std.proofs.lemmas.Bool.Decides.{nat_tests}
use Rattle.std.proofs.lemmas.List.{length-take-le}
use Rattle.std.proofs.lemmas.Str.{IsUtf8-append, IsUtf8-from_ascii}
use Rattle.std.specs.Prelude.{nat_eq, nat_lt, slice_index}
use Rattle.json.specs.Json.{value, if_last}
use Rattle.json.specs.Lex.{Lexeme, Mode, lex, lex_byte, class, punctuate, tokens, in_string}
use Rattle.json.specs.Text.{content, plain}
use Rattle.json.specs.Token.{Token, string}
use Rattle.json.specs.Word.{is_operator, is_space}
use Rattle.serde_json.specs.Data as data_
use Rattle.serde_json.specs.Read.{read, of_json, max_depth}
use Rattle.stm_tokens.specs.declared.runs.Run.TheVariants.{Plain}
use Rattle.stm_tokens.specs.declared.token.TokenKind.TheVariants as kind
use Rattle.stm_tokens.specs.Quoted.{closing, text_in}
use Rattle.stm_tokens.specs.Runs.{run, is_in}
use Rattle.stm_tokens.specs.Tokens.{text_piece}
use Rattle.stm_tokens.proofs.QuotedLemmas.{text_in-json}

-- a quote closes the text behind its plain bytes
abbrev Closed : List ℕ → Type 0
Closed bs = (run Plain bs < length bs) × (get_or bs (run Plain bs) 0 ≡ 34)

tests : (p q r : Bool) → (not p && not q && r) ≡ true → (p ≡ false) × (q ≡ false) × (r ≡ true)
tests p q r is = grind arith

-- a plain byte is neither a quote nor a backslash nor a control character
is_plain : (b : ℕ) → is_in Plain b ≡ true → (nat_eq b 34 ≡ false) × (nat_eq b 92 ≡ false) × (nat_lt b 32 ≡ false)
is_plain b is = grind arith

run-more : (b : ℕ) (bs : List ℕ) → is_in Plain b ≡ true → run Plain (b ∷ bs) ≡ suc (run Plain bs)
run-more b bs is = rw is refl

run-stop : (b : ℕ) (bs : List ℕ) → is_in Plain b ≡ false → run Plain (b ∷ bs) ≡ 0
run-stop b bs is = rw is refl

at-more : (b : ℕ) (bs : List ℕ) (n : ℕ) → n ≡ suc (run Plain bs) → n < suc (length bs) → get_or (b ∷ bs) n 0 ≡ 34 → Closed bs
at-more b bs n is less quote = (omega (arith, is, less), subst (λ (k : ℕ). get_or (b ∷ bs) k 0 ≡ 34) is quote)

behind : (b : ℕ) (bs : List ℕ) → is_in Plain b ≡ true → Closed (b ∷ bs) → Closed bs
behind b bs is c = at-more b bs (run Plain (b ∷ bs)) (run-more b bs is) c.0 c.1

quote_at : (b : ℕ) (bs : List ℕ) → is_in Plain b ≡ false → Closed (b ∷ bs) → b ≡ 34
quote_at b bs is c = subst (λ (k : ℕ). get_or (b ∷ bs) k 0 ≡ 34) (run-stop b bs is) c.1

-- ---- where it is closed

closing-byte : (b : ℕ) (bs : List ℕ) (before : ℕ) → nat_eq b 34 ≡ false → nat_eq b 92 ≡ false → closing before false (b ∷ bs) ≡ closing (suc before) false bs
closing-byte b bs before q w = rw (q, w) refl

closing-by : (b : ℕ) (bs : List ℕ) (before n : ℕ) → ((n : ℕ) → suc before + run Plain bs ≡ n → Closed bs → closing (suc before) false bs ≡ Some (suc n))
    → (p : Bool) → is_in Plain b ≡ p → before + run Plain (b ∷ bs) ≡ n → Closed (b ∷ bs) → closing before false (b ∷ bs) ≡ Some (suc n)
closing-by b bs before n more p is sum c = grind arith

closing-plain : (bs : List ℕ) (before n : ℕ) → before + run Plain bs ≡ n → Closed bs → closing before false bs ≡ Some (suc n)
closing-plain [] before n sum c = absurd (omega (arith, c.0))
closing-plain (b ∷ bs) before n sum c = closing-by b bs before n (λ m. closing-plain bs (suc before) m) (is_in Plain b) refl sum c

-- ---- what it is read as

content-byte : (b : ℕ) (xs ys : List ℕ) → nat_eq b 34 ≡ false → nat_eq b 92 ≡ false → nat_lt b 32 ≡ false → content plain xs ≡ Some ys
    → content plain (b ∷ xs) ≡ Some (b ∷ ys)
unfolding content
content-byte b xs ys q w s is = rw (q, w, s, is) refl

content-end : content plain (34 ∷ []) ≡ Some []
unfolding content
content-end = refl

content-by : (b : ℕ) (bs : List ℕ) → (Closed bs → content plain (take (suc (run Plain bs)) bs) ≡ Some (take (run Plain bs) bs))
    → (p : Bool) → is_in Plain b ≡ p → Closed (b ∷ bs) → content plain (take (suc (run Plain (b ∷ bs))) (b ∷ bs)) ≡ Some (take (run Plain (b ∷ bs)) (b ∷ bs))
content-by b bs more p is c = grind (arith, nat_tests, is_plain, run-more, content-byte, behind, run-stop, quote_at, content-end)

content-plain : (bs : List ℕ) → Closed bs → content plain (take (suc (run Plain bs)) bs) ≡ Some (take (run Plain bs) bs)
content-plain [] c = absurd (omega (arith, c.0))
content-plain (b ∷ bs) c = content-by b bs (content-plain bs) (is_in Plain b) refl c

in-string : (b : ℕ) (xs : List ℕ) (k : Mode → List Lexeme) (o s : Bool) → nat_eq b 34 ≡ false → nat_eq b 92 ≡ false → is_operator b ≡ o → is_space b ≡ s
    → lex_byte in_string (class b) b xs k ≡ k in_string
in-string b xs k o s q w h8 h9 = grind arith

lex-byte : (b : ℕ) (xs : List ℕ) → nat_eq b 34 ≡ false → nat_eq b 92 ≡ false → lex in_string (b ∷ xs) ≡ lex in_string xs
unfolding lex
lex-byte b xs q w = in-string b xs (λ next. lex next xs) (is_operator b) (is_space b) q w refl refl

lex-end : lex in_string (34 ∷ []) ≡ []
unfolding lex
lex-end = refl

lex-by : (b : ℕ) (bs : List ℕ) → (Closed bs → lex in_string (take (suc (run Plain bs)) bs) ≡ [])
    → (p : Bool) → is_in Plain b ≡ p → Closed (b ∷ bs) → lex in_string (take (suc (run Plain (b ∷ bs))) (b ∷ bs)) ≡ []
lex-by b bs more p is c = grind (arith, nat_tests, is_plain, run-more, lex-byte, behind, run-stop, quote_at, lex-end)

lex-plain : (bs : List ℕ) → Closed bs → lex in_string (take (suc (run Plain bs)) bs) ≡ []
lex-plain [] c = absurd (omega (arith, c.0))
lex-plain (b ∷ bs) c = lex-by b bs (lex-plain bs) (is_in Plain b) refl c

lexed : (xs ys : List ℕ) → content plain xs ≡ Some ys → lex in_string xs ≡ [] → tokens (34 ∷ xs) ≡ string ys ∷ []
unfolding lex punctuate
lexed xs ys is over = rw (is, over) refl

-- what tokens are the value of
abbrev value_of : List Token → Option data_.Data
value_of ts = option_and_then of_json (option_and_then (λ p. if_last p.0 p.1) (value max_depth ts))

value_of-string : (ys : List ℕ) → value_of (string ys ∷ []) ≡ Some (data_.string ys)
unfolding value
value_of-string ys = refl

read-string : (xs ys : List ℕ) → tokens (34 ∷ xs) ≡ string ys ∷ [] → read (34 ∷ xs) ≡ Some (data_.string ys)
read-string xs ys is = ap value_of is ∙ value_of-string ys

in-quotes : (xs : List ℕ) → IsUtf8 xs → IsUtf8 (34 ∷ (xs ++ 34 ∷ []))
in-quotes xs utf8 =
    let quote : IsUtf8 (34 ∷ []) = IsUtf8-from_ascii (34 ∷ []) (search (arith)) in
    IsUtf8-append (34 ∷ []) (xs ++ 34 ∷ []) quote (IsUtf8-append xs (34 ∷ []) utf8 quote)

-- the text of plain bytes
text_in-plain : (bs text : List ℕ) → Closed bs → text ≡ take (run Plain bs) bs → IsUtf8 text → text_in (34 ∷ take (suc (run Plain bs)) bs) ≡ Some text
text_in-plain bs text c same utf8 =
    let xs = take (suc (run Plain bs)) bs in
    let end : xs ≡ text ++ 34 ∷ [] = rw same (take-suc bs (run Plain bs) 0 c.0 ∙ ap (λ (q : ℕ). take (run Plain bs) bs ++ q ∷ []) c.1) in
    let whole : IsUtf8 (34 ∷ xs) = subst (λ (ys : List ℕ). IsUtf8 (34 ∷ ys)) (sym end) (in-quotes text utf8) in
    let is : content plain xs ≡ Some text = rw same (content-plain bs c) in
    text_in-json (34 ∷ xs) (data_.string text) whole (read-string xs text (lexed xs text is (lex-plain bs c)))

plain_piece : (bs text : List ℕ) → Closed bs → text ≡ take (run Plain bs) bs → IsUtf8 text → text_piece (34 ∷ bs) ≡ Some (kind.Text text, length text + 2)
plain_piece bs text c same utf8 =
    let long : length text ≡ run Plain bs = rw same (length-take-le (run Plain bs) bs (omega (arith, c.0))) in
    let long : suc (suc (run Plain bs)) ≡ length text + 2 = omega (arith, long) in
    rw (closing-plain bs 0 (run Plain bs) (omega arith) c, text_in-plain bs text c same utf8) (ap (λ (k : ℕ). Some (kind.Text text, k)) long)

pub plain_bytes : (bytes : List ℕ) (first : ℕ) (rest : List ℕ) (n : ℕ) (text : List ℕ) → bytes ≡ first ∷ rest → n ≡ run Plain rest → first ≡ 34 → n < length rest
    → slice_index rest n ≡ 34 → text ≡ take n rest → IsUtf8 text → text_piece bytes ≡ Some (kind.Text text, length text + 2)
plain_bytes bytes first rest n text split is quote less end same utf8 = grind (arith, nat_tests, plain_piece)
