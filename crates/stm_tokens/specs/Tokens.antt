-- The tokens of a source: at each place blanks or a comment are skipped, or the longest token is taken. What begins no token ends them.
use Rattle.std.specs.Prelude.{ℕ, zero, suc, ◌+◌, List, [], ◌∷◌, ◌++◌, take, drop, length, nat_eq, nat_lt, false, ◌&&◌, if◌then◌else◌, Option, Some, None}
use Rattle.std.specs.Str.{is_utf8}
use Rattle.stm_tokens.specs.declared.runs.Run.TheVariants.{Blank, Comment, Name}
use Rattle.stm_tokens.specs.declared.token.Symbol.{Symbol}
use Rattle.stm_tokens.specs.declared.token.Token.{Token}
use Rattle.stm_tokens.specs.declared.token.TokenKind.{TokenKind}
use Rattle.stm_tokens.specs.declared.token.TokenKind.TheVariants as kind
use Rattle.stm_tokens.specs.declared.tokens.Ahead.{Ahead}
use Rattle.stm_tokens.specs.declared.tokens.Ahead.TheVariants as next
use Rattle.stm_tokens.specs.Runs.{run, begins_name, is_digit}
use Rattle.stm_tokens.specs.Names.{word_of, named}
use Rattle.stm_tokens.specs.Numbers.{number_length, value_from}
use Rattle.stm_tokens.specs.Quoted.{closing, text_in}
use Rattle.stm_tokens.specs.Symbols.{symbol_at}

-- how many blank bytes, or bytes of one comment, there are at the start
abbrev pub skipped : List ℕ → ℕ
skipped [] = 0
skipped (a ∷ []) = run Blank (a ∷ [])
skipped (a ∷ (b ∷ bs)) = if nat_eq a 47 && nat_eq b 47 then run Comment (a ∷ (b ∷ bs)) else run Blank (a ∷ (b ∷ bs))

-- ---- what begins with a byte: a token and its length

abbrev pub Piece : Type 0
Piece = Option (TokenKind × ℕ)

abbrev pub name_piece : List ℕ → Piece
name_piece bytes =
    if is_utf8 (take (run Name bytes) bytes) then Some (named (take (run Name bytes) bytes) (word_of (take (run Name bytes) bytes)), run Name bytes) else None

abbrev pub number_piece : List ℕ → Piece
number_piece bytes = Some (kind.Number (value_from 0 (take (number_length bytes) bytes)), number_length bytes)

abbrev pub text_of_length : ℕ → Option (List ℕ) → Piece
text_of_length n None = None
text_of_length n (Some text) = Some (kind.Text text, n)

abbrev pub closed_text : List ℕ → Option ℕ → Piece
closed_text bytes None = None
closed_text bytes (Some n) = text_of_length (suc n) (text_in (take (suc n) bytes))

abbrev pub text_piece : List ℕ → Piece
text_piece [] = None
text_piece (b ∷ bs) = closed_text (b ∷ bs) (closing 0 false bs)

abbrev pub symbol_found : Option (Symbol × ℕ) → Piece
symbol_found None = None
symbol_found (Some p) = Some (kind.Symbol p.0, p.1)

abbrev pub symbol_piece : ℕ → List ℕ → Piece
symbol_piece first bytes = symbol_found (symbol_at first bytes)

unfoldable pub piece_at : ℕ → List ℕ → Piece
piece_at first bytes =
    if begins_name first then name_piece bytes
    else (if is_digit first then number_piece bytes
    else (if nat_eq first 34 then text_piece bytes
    else symbol_piece first bytes))

-- ---- the tokens from a place on

abbrev pub taken : ℕ → List ℕ → Piece → Ahead
taken at bytes None = next.Last (record { at = at; kind = kind.Wrong })
taken at bytes (Some p) = next.Token (record { at = at; kind = p.0 }) (if nat_lt (length bytes) p.1 then length bytes else p.1)

abbrev pub after_blanks : ℕ → List ℕ → Ahead
after_blanks at [] = next.Last (record { at = at; kind = kind.End })
after_blanks at (b ∷ bs) = taken at (b ∷ bs) (piece_at b (b ∷ bs))

unfoldable pub next_at : ℕ → List ℕ → Ahead
next_at at bytes = if nat_lt 0 (skipped bytes) then next.Blank (skipped bytes) else after_blanks at bytes

-- how many bytes it is
abbrev pub length_of : Ahead → ℕ
length_of (next.Blank n) = n
length_of (next.Token t n) = n
length_of (next.Last t) = 0

-- what it adds to the tokens, and how far it leads, if anything follows
abbrev pub added : Ahead → List Token
added (next.Blank n) = []
added (next.Token t n) = t ∷ []
added (next.Last t) = t ∷ []

abbrev pub advanced : Ahead → Option ℕ
advanced (next.Blank n) = Some n
advanced (next.Token t n) = Some n
advanced (next.Last t) = None

abbrev pub and_more : (ℕ → List Token) → Option ℕ → List Token
and_more more None = []
and_more more (Some n) = more n

-- each step but the last takes a byte
unfoldable pub tokens_from : ℕ → ℕ → List ℕ → List Token
tokens_from zero at bytes = []
tokens_from (suc steps) at bytes = added (next_at at bytes) ++ and_more (λ n. tokens_from steps (at + n) (drop n bytes)) (advanced (next_at at bytes))

unfoldable pub tokens_in : List ℕ → List Token
tokens_in source = tokens_from (suc (length source)) 0 source
