-- What is defined outside of programs: constants, lists and other values, maybe with parameters.
use Rattle.std.specs.Prelude.{ℕ, zero, suc, List, [], length, true, false, ◌&&◌, Option, Some, None, is_some, Ok, Err, nat_eq, nat_lt, if◌then◌else◌}
use Rattle.stm_tokens.specs.declared.token.Token.{Token}
use Rattle.stm_tokens.specs.declared.token.Symbol.TheVariants as symbol
use Rattle.stm_program.specs.Syntax.{Expression, Text, Number}
use Rattle.stm_terms.specs.declared.arguments.Argument.{Argument}
use Rattle.stm_terms.specs.declared.arguments.Argument.TheVariants as argument
use Rattle.stm_terms.specs.declared.faults.SourceCause.TheVariants as cause
use Rattle.stm_terms.specs.declared.kinds.Kind.TheVariants.{Either}
use Rattle.stm_terms.specs.declared.kinds.Valued.{Valued}
use Rattle.stm_terms.specs.declared.limits.TheConstants.{MOST_BRACKETS, MOST_KEPT}
use Rattle.stm_terms.specs.declared.constants.Constant.{Constant}
use Rattle.stm_terms.specs.declared.constants.Constant.TheVariants as constant
use Rattle.stm_terms.specs.declared.constants.Constants.{Constants}
use Rattle.stm_terms.specs.declared.scope.Scope.{Scope}
use Rattle.stm_terms.specs.Constants.{with_constant}
use Rattle.stm_terms.specs.Cursor.{place, unexpected, after_symbol, expect_symbol, next_name}
use Rattle.stm_terms.specs.Items.{items_at}
use Rattle.stm_terms.specs.Outcome.{Outcome, Read, bad, ◌>>=◌}
use Rattle.stm_terms.specs.Scope.{may_give, next_of, with_name}
use Rattle.stm_terms.specs.Uses.{has_room}
use Rattle.stm_terms.specs.Values.{value_at}
use Rattle.stm_source.specs.declared.definitions.Definitions.{Definitions}
use Rattle.stm_source.specs.Bulk.{constant_left}
use Rattle.stm_source.specs.Definitions.{free_name_at, no_arguments}

-- what is in sight outside of programs, in a definition whose name begins at a byte
abbrev pub outside : Constants → ℕ → Scope
outside constants at = record {
  numbered = false;
  takes_else = true;
  names = [];
  kinds = [];
  looks_at_kinds = true;
  kinds_at = None;
  program = at;
  room = MOST_KEPT;
  items = [];
  arguments = no_arguments;
  constants = constants;
  runners = None;
}

-- ---- parameters: variables of what is in sight in the definition

abbrev pub given_by : Scope → List ℕ → ℕ → List Token → Option ℕ → Read Scope
given_by scope name at rest None = bad at cause.TooMany
given_by scope name at rest (Some v) = Ok (with_name scope name Either, rest)

abbrev pub parameter_by : Scope → List Token → Option (List ℕ × List Token) → Read Scope
parameter_by scope tokens None = Err (unexpected tokens)
parameter_by scope tokens (Some p) =
    if may_give scope p.0 then given_by scope p.0 (place tokens) p.1 (next_of scope) else bad (place tokens) cause.Name

abbrev pub parameter_at : Scope → List Token → Read Scope
parameter_at scope tokens = parameter_by scope tokens (next_name tokens)

abbrev pub parameters_behind : (Scope → List Token → Read Scope) → Scope → List Token → Option (List Token) → Read Scope
parameters_behind more scope tokens (Some rest) = more scope rest
parameters_behind more scope tokens None = expect_symbol symbol.RightParenthesis tokens >>= λ rest. Ok (scope, rest)

-- parameters behind these, at most so many
unfoldable pub parameters_from : ℕ → Scope → List Token → Read Scope
parameters_from zero scope tokens = Err (unexpected tokens)
parameters_from (suc more) scope tokens =
    parameter_at scope tokens >>= λ x. parameters_behind (parameters_from more) x.0 x.1 (after_symbol symbol.Comma x.1)

-- none, where no bracket opens
abbrev pub parameters_by : Scope → List Token → Option (List Token) → Read Scope
parameters_by scope tokens None = Ok (scope, tokens)
parameters_by scope tokens (Some inner) = parameters_from (length inner) scope inner

-- ---- what is defined

-- a text or a number alone
abbrev pub alone : Expression → Option Argument
alone (Text s) = Some (argument.Text s)
alone (Number z) = Some (argument.Number z)
alone _ = None

abbrev pub value_defined : Scope → Valued → Outcome Constant
value_defined scope x = has_room scope x >>= λ u. Ok (constant.Value (record { parameters = length scope.names; value = x }))

abbrev pub alone_or : Scope → Valued → Option Argument → Outcome Constant
alone_or scope x (Some a) = Ok (constant.Alone a)
alone_or scope x None = value_defined scope x

abbrev pub constant_of : Scope → Valued → Outcome Constant
constant_of scope x = if nat_lt 0 (length scope.names) then value_defined scope x else alone_or scope x (alone x.expression)

abbrev pub list_by : Scope → List Token → List Token → Option Argument → Read Constant
list_by scope tokens comma None = Err (unexpected comma)
list_by scope tokens comma (Some a) = items_at scope false tokens >>= λ items. Ok (constant.List items.0, items.1)

-- a list begins with a text or a number alone, behind which a comma stands
abbrev pub list_at : Scope → Valued → List Token → List Token → Read Constant
list_at scope x tokens comma = list_by scope tokens comma (alone x.expression)

abbrev pub defined_by : Scope → List Token → Valued × List Token → Read Constant
defined_by scope tokens x =
    if nat_eq (length scope.names) 0 && is_some (after_symbol symbol.Comma x.1) then list_at scope x.0 tokens x.1
    else (constant_of scope x.0 >>= λ c. Ok (c, x.1))

-- behind its `=`
abbrev pub defined_at : Scope → List Token → Read Constant
defined_at scope tokens = value_at MOST_BRACKETS scope tokens >>= λ x. defined_by scope tokens x

abbrev pub defined_as : Definitions → List ℕ → Constant → Definitions
defined_as definitions name c = record definitions { constants = with_constant definitions.constants name c }

-- the same, where there is room for it. Its name begins at a byte
abbrev pub defined_in_room : Definitions → ℕ → List ℕ → Constant → Outcome Definitions
defined_in_room definitions at name c =
    if nat_eq (constant_left definitions.room c) 0 then bad at cause.TooManyNodes
    else Ok (record (defined_as definitions name c) { room = constant_left definitions.room c })

-- behind its word
abbrev pub define_constant_at : Definitions → List Token → Outcome (Definitions × List Token)
define_constant_at definitions tokens =
    free_name_at definitions.names definitions.constants tokens >>= λ name.
    parameters_by (outside definitions.constants (place tokens)) name.1 (after_symbol symbol.LeftParenthesis name.1) >>= λ scope.
    expect_symbol symbol.Assign scope.1 >>= λ value.
    defined_at scope.0 value >>= λ c. defined_in_room definitions (place tokens) name.0 c.0 >>= λ all. Ok (all, c.1)
