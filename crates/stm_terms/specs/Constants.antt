-- What names stand for that are defined outside of programs: a text or a number, or a list of them.
use Rattle.std.specs.Prelude.{ℕ, List, [], ◌∷◌, ◌++◌, Option, Some, None, Ok, Err, bytes_eq, slice_get, nat_le, if◌then◌else◌}
use Rattle.std.specs.List.{position}
use Rattle.stm_tokens.specs.declared.token.Token.{Token}
use Rattle.stm_terms.specs.declared.arguments.Argument.{Argument}
use Rattle.stm_terms.specs.declared.arguments.Argument.TheVariants.{Either, Text, Number}
use Rattle.stm_terms.specs.declared.constants.Constant.{Constant}
use Rattle.stm_terms.specs.declared.constants.Constant.TheVariants as constant
use Rattle.stm_terms.specs.declared.constants.Constants.{Constants}
use Rattle.stm_terms.specs.declared.constants.Item.{Item}
use Rattle.stm_terms.specs.declared.uses.Defined.{Defined}
use Rattle.stm_terms.specs.declared.faults.SourceCause.TheVariants as cause
use Rattle.stm_terms.specs.Outcome.{Read, bad}
use Rattle.stm_terms.specs.Cursor.{place, unexpected, next_number, next_name, next_text}
use Rattle.stm_terms.specs.Arguments.{argument_number}

abbrev pub no_constants : Constants
no_constants = record { names = []; values = [] }

abbrev pub constant_at : List Constant → Option ℕ → Option Constant
constant_at values None = None
constant_at values (Some i) = slice_get values i

abbrev pub constant_named : Constants → List ℕ → Option Constant
constant_named constants name = constant_at constants.values (position (bytes_eq name) constants.names)

-- the text or the number that it is
abbrev pub alone : Option Constant → Option Argument
alone None = None
alone (Some (constant.Alone a)) = Some a
alone (Some (constant.List items)) = None
alone (Some (constant.Value d)) = None

-- the list that it is
abbrev pub listed : Option Constant → Option (List Item)
listed None = None
listed (Some (constant.Alone a)) = None
listed (Some (constant.List items)) = Some items
listed (Some (constant.Value d)) = None

-- the value that it is, where that is neither a text nor a number alone
abbrev pub defined_value : Option Constant → Option Defined
defined_value None = None
defined_value (Some (constant.Alone a)) = None
defined_value (Some (constant.List items)) = None
defined_value (Some (constant.Value d)) = Some d

abbrev pub with_constant : Constants → List ℕ → Constant → Constants
with_constant constants name c = record { names = constants.names ++ name ∷ []; values = constants.values ++ c ∷ [] }

-- ---- a number up to a greatest one, and a text, where a name may stand for it

abbrev pub number_by_name : ℕ → List Token → List Token → Option Argument → Read ℕ
number_by_name most tokens rest None = bad (place tokens) cause.Name
number_by_name most tokens rest (Some a) = argument_number most (place tokens) a rest

abbrev pub number_by : Constants → ℕ → List Token → Option (ℕ × List Token) → Option (List ℕ × List Token) → Read ℕ
number_by constants most tokens (Some p) name = if nat_le p.0 most then Ok (p.0, p.1) else bad (place tokens) cause.Range
number_by constants most tokens None (Some p) = number_by_name most tokens p.1 (alone (constant_named constants p.0))
number_by constants most tokens None None = Err (unexpected tokens)

unfoldable pub number_up_to : Constants → ℕ → List Token → Read ℕ
number_up_to constants most tokens = number_by constants most tokens (next_number tokens) (next_name tokens)

abbrev pub constant_text : ℕ → Argument → List Token → Read (List ℕ)
constant_text at Either rest = bad at cause.Name
constant_text at (Text s) rest = Ok (s, rest)
constant_text at (Number z) rest = bad at cause.Kind

abbrev pub text_by_name : List Token → List Token → Option Argument → Read (List ℕ)
text_by_name tokens rest None = bad (place tokens) cause.Name
text_by_name tokens rest (Some a) = constant_text (place tokens) a rest

abbrev pub text_by : Constants → List Token → Option (List ℕ × List Token) → Option (List ℕ × List Token) → Read (List ℕ)
text_by constants tokens (Some p) name = Ok p
text_by constants tokens None (Some p) = text_by_name tokens p.1 (alone (constant_named constants p.0))
text_by constants tokens None None = Err (unexpected tokens)

unfoldable pub text_at : Constants → List Token → Read (List ℕ)
text_at constants tokens = text_by constants tokens (next_text tokens) (next_name tokens)
