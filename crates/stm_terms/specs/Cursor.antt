-- Looking at the next token.
use Rattle.std.specs.Prelude.{ℕ, List, [], ◌∷◌, Option, Some, None, Ok, Err, nat_eq, if◌then◌else◌}
use Rattle.stm_tokens.specs.declared.token.Symbol.{Symbol}
use Rattle.stm_tokens.specs.declared.token.Symbol.TheVariants.{LeftParenthesis, Semicolon}
use Rattle.stm_tokens.specs.declared.token.Word.{Word}
use Rattle.stm_tokens.specs.declared.token.Token.{Token}
use Rattle.stm_tokens.specs.declared.token.TokenKind.{TokenKind}
use Rattle.stm_tokens.specs.declared.token.TokenKind.TheVariants as kind
use Rattle.stm_tokens.specs.Same.{is_symbol, is_word, is_named}
use Rattle.stm_terms.specs.declared.faults.BadSource.{BadSource}
use Rattle.stm_terms.specs.declared.faults.SourceCause.{SourceCause}
use Rattle.stm_terms.specs.declared.faults.SourceCause.TheVariants as cause
use Rattle.stm_terms.specs.Outcome.{Outcome}

-- where the next token begins
abbrev pub place : List Token → ℕ
place [] = 0
place (t ∷ ts) = t.at

-- a token that is not the one wanted: Token where none begins there, else Syntax
abbrev pub unwanted : TokenKind → SourceCause
unwanted kind.Wrong = cause.Token
unwanted (kind.Name n) = cause.Syntax
unwanted (kind.Word w) = cause.Syntax
unwanted (kind.Number n) = cause.Syntax
unwanted (kind.Text t) = cause.Syntax
unwanted (kind.Symbol s) = cause.Syntax
unwanted kind.End = cause.Syntax

abbrev pub unexpected : List Token → BadSource
unexpected [] = record { at = 0; cause = cause.Syntax }
unexpected (t ∷ ts) = record { at = t.at; cause = unwanted t.kind }

-- what is behind a token, if it is the next one
abbrev pub after_symbol : Symbol → List Token → Option (List Token)
after_symbol s [] = None
after_symbol s (t ∷ ts) = if is_symbol s t.kind then Some ts else None

abbrev pub after_word : Word → List Token → Option (List Token)
after_word w [] = None
after_word w (t ∷ ts) = if is_word w t.kind then Some ts else None

abbrev pub after_name : List ℕ → List Token → Option (List Token)
after_name n [] = None
after_name n (t ∷ ts) = if is_named n t.kind then Some ts else None

abbrev pub expected : List Token → Option (List Token) → Outcome (List Token)
expected tokens (Some rest) = Ok rest
expected tokens None = Err (unexpected tokens)

-- what is behind a token, which has to be the next one
abbrev pub expect_symbol : Symbol → List Token → Outcome (List Token)
expect_symbol s tokens = expected tokens (after_symbol s tokens)

abbrev pub expect_word : Word → List Token → Outcome (List Token)
expect_word w tokens = expected tokens (after_word w tokens)

abbrev pub expect_name : List ℕ → List Token → Outcome (List Token)
expect_name n tokens = expected tokens (after_name n tokens)

abbrev pub or_all : List Token → Option (List Token) → List Token
or_all tokens (Some rest) = rest
or_all tokens None = tokens

abbrev pub skip_semicolon : List Token → List Token
skip_semicolon tokens = or_all tokens (after_symbol Semicolon tokens)

-- the number, the name or the text that is the next token, and what is behind it
abbrev pub number_in : TokenKind → List Token → Option (ℕ × List Token)
number_in (kind.Number n) rest = Some (n, rest)
number_in _ rest = None

abbrev pub next_number : List Token → Option (ℕ × List Token)
next_number [] = None
next_number (t ∷ ts) = number_in t.kind ts

abbrev pub name_in : TokenKind → List Token → Option (List ℕ × List Token)
name_in (kind.Name n) rest = Some (n, rest)
name_in _ rest = None

abbrev pub next_name : List Token → Option (List ℕ × List Token)
next_name [] = None
next_name (t ∷ ts) = name_in t.kind ts

abbrev pub text_in : TokenKind → List Token → Option (List ℕ × List Token)
text_in (kind.Text s) rest = Some (s, rest)
text_in _ rest = None

abbrev pub next_text : List Token → Option (List ℕ × List Token)
next_text [] = None
next_text (t ∷ ts) = text_in t.kind ts

-- behind an opened bracket, where so many may still be opened
abbrev pub open_bracket : ℕ → List Token → Outcome (List Token)
open_bracket levels tokens = if nat_eq levels 0 then Err (unexpected tokens) else expect_symbol LeftParenthesis tokens
