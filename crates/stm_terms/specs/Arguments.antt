-- What the parameters of a program stand for, where it is read.
use Rattle.std.specs.Prelude.{ℕ, pos, negsuc, List, length, Option, Some, None, Ok, bytes_eq, slice_get, nat_eq, nat_le, if◌then◌else◌}
use Rattle.std.specs.List.{position}
use Rattle.stm_tokens.specs.declared.token.Token.{Token}
use Rattle.stm_terms.specs.declared.arguments.Argument.{Argument}
use Rattle.stm_terms.specs.declared.arguments.Argument.TheVariants.{Either, Text, Number}
use Rattle.stm_terms.specs.declared.arguments.Given.{Given}
use Rattle.stm_terms.specs.declared.arguments.GivenText.{GivenText}
use Rattle.stm_terms.specs.declared.arguments.Arguments.{Arguments}
use Rattle.stm_terms.specs.declared.constants.Item.{Item}
use Rattle.stm_terms.specs.declared.faults.SourceCause.TheVariants as cause
use Rattle.stm_terms.specs.declared.kinds.Kind.{Kind}
use Rattle.stm_terms.specs.declared.kinds.Kind.TheVariants as kind
use Rattle.stm_terms.specs.Outcome.{Read, bad}

abbrev pub given_at : List Given → Option ℕ → Option Given
given_at given None = None
given_at given (Some i) = slice_get given i

-- what a name stands for, where it is that of a parameter that is no list
abbrev pub given_named : Arguments → List ℕ → Option Given
given_named arguments name = given_at arguments.given (position (bytes_eq name) arguments.names)

abbrev pub list_at : Arguments → Option ℕ → Option (List Item)
list_at arguments None = None
list_at arguments (Some i) = if nat_eq i (length arguments.given) then Some arguments.list else None

-- the list that a name stands for: the last parameter may be one
abbrev pub list_named : Arguments → List ℕ → Option (List Item)
list_named arguments name = list_at arguments (position (bytes_eq name) arguments.names)

abbrev pub kind_of_argument : Argument → Kind
kind_of_argument Either = kind.Either
kind_of_argument (Text s) = kind.Text
kind_of_argument (Number z) = kind.Number

-- a number up to a greatest one; where either may come, it is not known yet: 0 stands for it
abbrev pub argument_number : ℕ → ℕ → Argument → List Token → Read ℕ
argument_number most at Either rest = Ok (0, rest)
argument_number most at (Text s) rest = bad at cause.Kind
argument_number most at (Number (pos n)) rest = if nat_le n most then Ok (n, rest) else bad at cause.Range
argument_number most at (Number (negsuc n)) rest = bad at cause.Range

abbrev pub given_text : Option (List ℕ) → ℕ → GivenText
given_text text at = record { text = text; at = at }

abbrev pub argument_text : ℕ → Argument → List Token → Read GivenText
argument_text at Either rest = Ok (given_text None at, rest)
argument_text at (Text s) rest = Ok (given_text (Some s) at, rest)
argument_text at (Number z) rest = bad at cause.Kind
