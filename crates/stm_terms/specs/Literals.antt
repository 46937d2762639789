-- A text or a number as it stands, or the name of one.
use Rattle.std.specs.Prelude.{ℕ, ◌^◌, pos, neg_ℤ, List, Option, Some, None, Ok, Err, nat_le, nat_lt, if◌then◌else◌}
use Rattle.stm_tokens.specs.declared.token.Token.{Token}
use Rattle.stm_tokens.specs.declared.token.Symbol.TheVariants as symbol
use Rattle.stm_program.specs.declared.operator.Operator.TheVariants.{Sub}
use Rattle.stm_terms.specs.declared.arguments.Argument.{Argument}
use Rattle.stm_terms.specs.declared.arguments.Argument.TheVariants.{Text, Number}
use Rattle.stm_terms.specs.declared.arguments.Given.{Given}
use Rattle.stm_terms.specs.declared.arguments.GivenText.{GivenText}
use Rattle.stm_terms.specs.declared.scope.Scope.{Scope}
use Rattle.stm_terms.specs.declared.constants.Constants.{Constants}
use Rattle.stm_terms.specs.declared.faults.SourceCause.TheVariants as cause
use Rattle.stm_terms.specs.Outcome.{Read, bad}
use Rattle.stm_terms.specs.Arguments.{argument_number, argument_text, given_text}
use Rattle.stm_terms.specs.Constants.{alone, constant_named}
use Rattle.stm_terms.specs.Scope.{argument_named, blame}
use Rattle.stm_terms.specs.Cursor.{place, unexpected, after_symbol, next_name, next_number, next_text}

-- ---- outside of programs

abbrev pub given_as : Argument → ℕ → Given
given_as argument at = record { argument = argument; at = at }

abbrev pub positive : ℕ → ℕ → List Token → Read Given
positive at n rest = if nat_lt n (2 ^ 63) then Ok (given_as (Number (pos n)) at, rest) else bad at cause.Range

-- `at` is where the sign stands
abbrev pub negative : ℕ → ℕ → ℕ → List Token → Read Given
negative at place n rest = if nat_le n (2 ^ 63) then Ok (given_as (Number (neg_ℤ (pos n))) at, rest) else bad place cause.Range

abbrev pub negation : ℕ → List Token → Option (ℕ × List Token) → Read Given
negation at tokens None = Err (unexpected tokens)
negation at tokens (Some p) = negative at (place tokens) p.0 p.1

abbrev pub constant_given : ℕ → Option Argument → List Token → Read Given
constant_given at None rest = bad at cause.Name
constant_given at (Some a) rest = Ok (given_as a at, rest)

abbrev pub argument_by : Constants → List Token → Option (List ℕ × List Token) → Option (ℕ × List Token) → Option (List Token) → Option (List ℕ × List Token) → Read Given
argument_by constants tokens (Some p) number minus name = Ok (given_as (Text p.0) (place tokens), p.1)
argument_by constants tokens None (Some p) minus name = positive (place tokens) p.0 p.1
argument_by constants tokens None None (Some rest) name = negation (place tokens) rest (next_number rest)
argument_by constants tokens None None None (Some p) = constant_given (place tokens) (alone (constant_named constants p.0)) p.1
argument_by constants tokens None None None None = Err (unexpected tokens)

abbrev pub argument_at : Constants → List Token → Read Given
argument_at constants tokens =
    argument_by constants tokens (next_text tokens) (next_number tokens) (after_symbol (symbol.Arithmetic Sub) tokens) (next_name tokens)

-- ---- in a program: a number up to a greatest one, and a text; what a name stands for is blamed where the scope says

abbrev pub number_by_name : ℕ → ℕ → ℕ → List Token → Option Argument → Read ℕ
number_by_name most at blamed rest None = bad at cause.Name
number_by_name most at blamed rest (Some a) = argument_number most blamed a rest

abbrev pub number_given_by : ℕ → Scope → List Token → Option (ℕ × List Token) → Option (List ℕ × List Token) → Read ℕ
number_given_by most scope tokens (Some p) name = if nat_le p.0 most then Ok (p.0, p.1) else bad (place tokens) cause.Range
number_given_by most scope tokens None (Some p) =
    number_by_name most (place tokens) (blame scope p.0 (place tokens)) p.1 (argument_named scope p.0)
number_given_by most scope tokens None None = Err (unexpected tokens)

unfoldable pub number_given : ℕ → Scope → List Token → Read ℕ
number_given most scope tokens = number_given_by most scope tokens (next_number tokens) (next_name tokens)

abbrev pub text_by_name : ℕ → ℕ → List Token → Option Argument → Read GivenText
text_by_name at blamed rest None = bad at cause.Name
text_by_name at blamed rest (Some a) = argument_text blamed a rest

abbrev pub text_given_by : Scope → List Token → Option (List ℕ × List Token) → Option (List ℕ × List Token) → Read GivenText
text_given_by scope tokens (Some p) name = Ok (given_text (Some p.0) (place tokens), p.1)
text_given_by scope tokens None (Some p) = text_by_name (place tokens) (blame scope p.0 (place tokens)) p.1 (argument_named scope p.0)
text_given_by scope tokens None None = Err (unexpected tokens)

unfoldable pub text_given : Scope → List Token → Read GivenText
text_given scope tokens = text_given_by scope tokens (next_text tokens) (next_name tokens)
