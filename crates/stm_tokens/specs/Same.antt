-- When two symbols, words or names are the same.
use Rattle.std.specs.Prelude.{ℕ, ◌+◌, List, Bool, false, nat_eq}
use Rattle.stm_json.specs.Parts.{same}
use Rattle.stm_program.specs.Operators.{operator_place}
use Rattle.stm_tokens.specs.declared.token.Symbol.{Symbol}
use Rattle.stm_tokens.specs.declared.token.Symbol.TheVariants as symbol
use Rattle.stm_tokens.specs.declared.token.Word.{Word}
use Rattle.stm_tokens.specs.declared.token.Word.TheVariants as word
use Rattle.stm_tokens.specs.declared.token.TokenKind.{TokenKind}
use Rattle.stm_tokens.specs.declared.token.TokenKind.TheVariants as kind

-- their places in the list of all
abbrev pub symbol_place : Symbol → ℕ
symbol_place symbol.LeftParenthesis = 0
symbol_place symbol.RightParenthesis = 1
symbol_place symbol.LeftBrace = 2
symbol_place symbol.RightBrace = 3
symbol_place symbol.Comma = 4
symbol_place symbol.Semicolon = 5
symbol_place symbol.Dots = 6
symbol_place symbol.Assign = 7
symbol_place symbol.AddAssign = 8
symbol_place symbol.SubtractAssign = 9
symbol_place symbol.ConcatenateAssign = 10
symbol_place symbol.Equal = 11
symbol_place symbol.NotEqual = 12
symbol_place symbol.Less = 13
symbol_place symbol.LessOrEqual = 14
symbol_place symbol.Greater = 15
symbol_place symbol.GreaterOrEqual = 16
symbol_place symbol.Concatenate = 17
symbol_place symbol.And = 18
symbol_place symbol.Or = 19
symbol_place symbol.Not = 20
symbol_place (symbol.Arithmetic o) = 21 + operator_place o

abbrev pub word_place : Word → ℕ
word_place word.Program = 0
word_place word.Rule = 1
word_place word.Finally = 2
word_place word.Let = 3
word_place word.If = 4
word_place word.Else = 5
word_place word.For = 6
word_place word.In = 7
word_place word.Return = 8
word_place word.Break = 9
word_place word.Continue = 10
word_place word.Put = 11
word_place word.Del = 12
word_place word.Emit = 13
word_place word.Abort = 14
word_place word.Prefetch = 15
word_place word.Get = 16
word_place word.Rev = 17
word_place word.NumOf = 18
word_place word.TextOf = 19

unfoldable pub same_symbol : Symbol → Symbol → Bool
same_symbol a b = nat_eq (symbol_place a) (symbol_place b)

unfoldable pub same_word : Word → Word → Bool
same_word a b = nat_eq (word_place a) (word_place b)

-- what a token is
abbrev pub is_symbol : Symbol → TokenKind → Bool
is_symbol s (kind.Symbol found) = same_symbol found s
is_symbol s (kind.Name n) = false
is_symbol s (kind.Word w) = false
is_symbol s (kind.Number n) = false
is_symbol s (kind.Text t) = false
is_symbol s kind.Wrong = false
is_symbol s kind.End = false

abbrev pub is_word : Word → TokenKind → Bool
is_word w (kind.Word found) = same_word found w
is_word w (kind.Symbol s) = false
is_word w (kind.Name n) = false
is_word w (kind.Number n) = false
is_word w (kind.Text t) = false
is_word w kind.Wrong = false
is_word w kind.End = false

abbrev pub is_named : List ℕ → TokenKind → Bool
is_named name (kind.Name found) = same found name
is_named name (kind.Word w) = false
is_named name (kind.Symbol s) = false
is_named name (kind.Number n) = false
is_named name (kind.Text t) = false
is_named name kind.Wrong = false
is_named name kind.End = false
