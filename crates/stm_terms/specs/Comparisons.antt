-- Comparisons: the condition that compares two values, and the sign of one.
use Rattle.std.specs.Prelude.{List, [], ◌∷◌, Bool, true, false, ◌&&◌, ◌||◌, Option, Some, None, if◌then◌else◌}
use Rattle.stm_tokens.specs.declared.token.Token.{Token}
use Rattle.stm_tokens.specs.declared.token.TokenKind.{TokenKind}
use Rattle.stm_tokens.specs.declared.token.TokenKind.TheVariants as kind
use Rattle.stm_tokens.specs.declared.token.Symbol.{Symbol}
use Rattle.stm_tokens.specs.declared.token.Symbol.TheVariants as symbol
use Rattle.stm_tokens.specs.Same.{same_symbol}
use Rattle.stm_program.specs.Syntax.{Expression, Text, Number, Variable, Get, Rev, Arithmetic, Cat, TextOf, NumOf, Condition, Equal, Less, Not, Or}
use Rattle.stm_terms.specs.declared.comparisons.Comparison.{Comparison}
use Rattle.stm_terms.specs.declared.comparisons.Comparison.TheVariants as comparison

-- a value that looks a key up
abbrev pub looks_up : Expression → Bool
looks_up (Text s) = false
looks_up (Number z) = false
looks_up (Variable v) = false
looks_up (Get e) = true
looks_up (Rev e) = true
looks_up (Arithmetic o l r) = looks_up l || looks_up r
looks_up (Cat l r) = looks_up l || looks_up r
looks_up (TextOf e) = looks_up e
looks_up (NumOf e) = looks_up e

-- the left side is above the right one, or not; keys are read from left to right
abbrev pub above : Expression → Expression → Condition
above l r = if looks_up l && looks_up r then Not (Or (Less l r) (Equal l r)) else Less r l

abbrev pub not_above : Expression → Expression → Condition
not_above l r = if looks_up l && looks_up r then Or (Less l r) (Equal l r) else Not (Less r l)

abbrev pub compared : Comparison → Expression → Expression → Condition
compared comparison.Equal l r = Equal l r
compared comparison.NotEqual l r = Not (Equal l r)
compared comparison.Less l r = Less l r
compared comparison.GreaterOrEqual l r = Not (Less l r)
compared comparison.Greater l r = above l r
compared comparison.LessOrEqual l r = not_above l r

abbrev pub comparison_of : Symbol → Option Comparison
comparison_of s =
    if same_symbol s symbol.Equal then Some comparison.Equal
    else (if same_symbol s symbol.NotEqual then Some comparison.NotEqual
    else (if same_symbol s symbol.Less then Some comparison.Less
    else (if same_symbol s symbol.LessOrEqual then Some comparison.LessOrEqual
    else (if same_symbol s symbol.Greater then Some comparison.Greater
    else (if same_symbol s symbol.GreaterOrEqual then Some comparison.GreaterOrEqual
    else None)))))

abbrev pub comparison_in : TokenKind → Option Comparison
comparison_in (kind.Symbol s) = comparison_of s
comparison_in _ = None

abbrev pub comparison_then : List Token → Option Comparison → Option (Comparison × List Token)
comparison_then rest None = None
comparison_then rest (Some c) = Some (c, rest)

-- the comparison that is the next token
unfoldable pub next_comparison : List Token → Option (Comparison × List Token)
next_comparison [] = None
next_comparison (t ∷ ts) = comparison_then ts (comparison_in t.kind)
