-- Programs that have a name and parameters, and the arguments of a start.
use Rattle.std.specs.Prelude.{ℕ, zero, suc, ◌-◌, List, [], ◌∷◌, ◌++◌, length, take, drop, Bool, true, false, not, ◌||◌, ◌&&◌, Option, Some, None, is_some, Ok, Err}
use Rattle.std.specs.Prelude.{bytes_eq, slice_get, nat_eq, nat_lt, if◌then◌else◌}
use Rattle.std.specs.List.{list_any, position}
use Rattle.stm_tokens.specs.declared.token.Token.{Token}
use Rattle.stm_tokens.specs.declared.token.Symbol.TheVariants as symbol
use Rattle.stm_program.specs.Syntax.{ProgramTree}
use Rattle.stm_terms.specs.declared.arguments.Argument.TheVariants.{Either}
use Rattle.stm_terms.specs.declared.arguments.Arguments.{Arguments}
use Rattle.stm_terms.specs.declared.arguments.Given.{Given}
use Rattle.stm_terms.specs.declared.constants.Constants.{Constants}
use Rattle.stm_terms.specs.declared.constants.Item.{Item}
use Rattle.stm_terms.specs.declared.faults.SourceCause.TheVariants as cause
use Rattle.stm_terms.specs.Outcome.{Outcome, Read, bad, ◌>>=◌}
use Rattle.stm_terms.specs.Cursor.{place, unexpected, after_symbol, expect_symbol, next_name}
use Rattle.stm_terms.specs.Items.{item_as}
use Rattle.stm_terms.specs.Literals.{argument_at, given_as}
use Rattle.stm_terms.specs.Scope.{numbered_variable}
use Rattle.stm_source.specs.declared.definitions.Definition.{Definition}
use Rattle.stm_source.specs.declared.definitions.Meaning.{Meaning}
use Rattle.stm_source.specs.declared.definitions.Meaning.TheVariants.{Program, Rule}
use Rattle.stm_source.specs.declared.definitions.Definitions.{Definitions}
use Rattle.stm_source.specs.declared.programs.Look.{Look}
use Rattle.stm_source.specs.Bulk.{program_bulk}
use Rattle.stm_source.specs.Programs.{parts_at, program_at, program_of}

-- ---- arguments

abbrev pub arguments_behind : (List Given → List Token → Read (List Given)) → List Given → List Token → Option (List Token) → Read (List Given)
arguments_behind more given tokens (Some rest) = more given rest
arguments_behind more given tokens None = expect_symbol symbol.RightParenthesis tokens >>= λ rest. Ok (given, rest)

-- arguments behind these, at most so many
unfoldable pub arguments_from : Constants → ℕ → List Given → List Token → Read (List Given)
arguments_from constants zero given tokens = Err (unexpected tokens)
arguments_from constants (suc more) given tokens =
    argument_at constants tokens >>= λ x. arguments_behind (arguments_from constants more) (given ++ x.0 ∷ []) x.1 (after_symbol symbol.Comma x.1)

abbrev pub arguments_by : Constants → List Token → Option (List Token) → Read (List Given)
arguments_by constants tokens (Some rest) = Ok ([], rest)
arguments_by constants tokens None = arguments_from constants (length tokens) [] tokens

abbrev pub arguments_at : Constants → List Token → Read (List Given)
arguments_at constants tokens = expect_symbol symbol.LeftParenthesis tokens >>= λ inner. arguments_by constants inner (after_symbol symbol.RightParenthesis inner)

-- ---- parameters: their names are new, and none is that of a variable

-- a name that is none of these, nor one that is defined above, nor that of a variable
abbrev pub free_name_by : List (List ℕ) → Constants → List Token → Option (List ℕ × List Token) → Read (List ℕ)
free_name_by names constants tokens None = Err (unexpected tokens)
free_name_by names constants tokens (Some p) =
    if list_any (bytes_eq p.0) names || list_any (bytes_eq p.0) constants.names || is_some (numbered_variable p.0) then bad (place tokens) cause.Name else Ok p

abbrev pub free_name_at : List (List ℕ) → Constants → List Token → Read (List ℕ)
free_name_at names constants tokens = free_name_by names constants tokens (next_name tokens)

-- parameters, whether the last one is a list, and the tokens behind
abbrev pub ReadParameters : Type 0
ReadParameters = Outcome (List (List ℕ) × Bool × List Token)

abbrev pub closed_by : List Token → Option (List Token) → Read Bool
closed_by tokens (Some rest) = expect_symbol symbol.RightParenthesis rest >>= λ behind. Ok (true, behind)
closed_by tokens None = expect_symbol symbol.RightParenthesis tokens >>= λ behind. Ok (false, behind)

abbrev pub parameters_end : List Token → Read Bool
parameters_end tokens = closed_by tokens (after_symbol symbol.Dots tokens)

abbrev pub parameters_behind : (List (List ℕ) → List Token → ReadParameters) → List (List ℕ) → List Token → Option (List Token) → ReadParameters
parameters_behind more names tokens (Some rest) = more names rest
parameters_behind more names tokens None = parameters_end tokens >>= λ x. Ok (names, x.0, x.1)

-- parameters behind these, at most so many
unfoldable pub parameters_from : Constants → ℕ → List (List ℕ) → List Token → ReadParameters
parameters_from constants zero names tokens = Err (unexpected tokens)
parameters_from constants (suc more) names tokens =
    free_name_at names constants tokens >>= λ x.
    parameters_behind (parameters_from constants more) (names ++ x.0 ∷ []) x.1 (after_symbol symbol.Comma x.1)

abbrev pub parameters_by : Constants → List Token → Option (List Token) → ReadParameters
parameters_by constants tokens (Some rest) = Ok ([], false, rest)
parameters_by constants tokens None = parameters_from constants (length tokens) [] tokens

abbrev pub parameters_at : Constants → List Token → ReadParameters
parameters_at constants tokens =
    expect_symbol symbol.LeftParenthesis tokens >>= λ inner. parameters_by constants inner (after_symbol symbol.RightParenthesis inner)

-- ---- definitions

-- so many parameters of which each may be either a text or a number
abbrev pub open_given : ℕ → List Given
open_given zero = []
open_given (suc n) = given_as Either 0 ∷ open_given n

-- how many parameters stand for one argument each
abbrev pub alone : List (List ℕ) → Bool → ℕ
alone parameters takes_list = if takes_list then length parameters - 1 else length parameters

abbrev pub no_arguments : Arguments
no_arguments = record { names = []; given = []; list = [] }

abbrev pub unbound : List (List ℕ) → Bool → Arguments
unbound parameters takes_list = record { names = parameters; given = open_given (alone parameters takes_list); list = [] }

-- `at` is the place of what is wrong with a program as a whole
abbrev pub look_of : Constants → ℕ → Bool → Look
look_of constants at kinds = record { program = at; marks = false; at_kinds = kinds; kinds_at = None; runners = None; constants = constants }

-- a definition whose body these tokens begin with; its list has no items there
abbrev pub definition_at : Constants → ℕ → List (List ℕ) → Bool → List Token → Read Definition
definition_at constants at parameters takes_list body =
    program_at (look_of constants at true) (unbound parameters takes_list) body >>= λ p.
    Ok (record { parameters = parameters; takes_list = takes_list; left = length body; length = length body - length p.1; program = p.0 }, p.1)

abbrev pub with_meaning : Definitions → List ℕ → Meaning → Definitions
with_meaning definitions name m = record definitions { names = definitions.names ++ name ∷ []; meanings = definitions.meanings ++ m ∷ [] }

-- one more program, whose name begins at a byte
abbrev pub with_program : Definitions → ℕ → List ℕ → Definition → Outcome Definitions
with_program definitions at name d =
    if nat_eq (definitions.room - program_bulk d.program) 0 then bad at cause.TooManyNodes
    else Ok (record (with_meaning definitions name (Program d)) { room = definitions.room - program_bulk d.program })

-- behind its word; programs and rules share their names
abbrev pub define_at : Definitions → List Token → Outcome (Definitions × List Token)
define_at definitions tokens =
    free_name_at definitions.names definitions.constants tokens >>= λ name.
    parameters_at definitions.constants name.1 >>= λ parameters.
    definition_at definitions.constants (place tokens) parameters.0 parameters.1 parameters.2 >>= λ d.
    with_program definitions (place tokens) name.0 d.0 >>= λ all. Ok (all, d.1)

-- ---- starts by a name

abbrev pub defined_by : Option Meaning → Option Definition
defined_by None = None
defined_by (Some (Program d)) = Some d
defined_by (Some Rule) = None

abbrev pub meaning_in : List Meaning → Option ℕ → Option Meaning
meaning_in meanings None = None
meaning_in meanings (Some i) = slice_get meanings i

abbrev pub definition_named : Definitions → List ℕ → Option Definition
definition_named definitions name = defined_by (meaning_in definitions.meanings (position (bytes_eq name) definitions.names))

-- kinds are looked at where arguments are right but for their kinds, and blamed on the name of the start
abbrev pub look_for_arguments : Constants → ℕ → Look
look_for_arguments constants at = record { program = at; marks = false; at_kinds = true; kinds_at = Some at; runners = None; constants = constants }

-- a body with these arguments, whose name in the start begins at a byte
abbrev pub program_with : Constants → ℕ → Arguments → List Token → Outcome ProgramTree
program_with constants at arguments body =
    parts_at (look_of constants at false) arguments body >>= λ p.
    parts_at (look_for_arguments constants at) arguments body >>= λ q. program_of at p.0 p.1

-- these arguments as items behind others
abbrev pub list_of : List Item → List Given → List Item
list_of items [] = items
list_of items (g ∷ gs) = list_of (items ++ item_as g.argument (Some g.at) ∷ []) gs

-- so many parameters stand for one argument each, and one more for those that are left
abbrev pub bound : List (List ℕ) → ℕ → List Given → Arguments
bound parameters n given = record { names = parameters; given = take n given; list = list_of [] (drop n given) }

abbrev pub other_number : ℕ → Bool → ℕ → Bool
other_number alone takes_list n = nat_lt n alone || nat_lt alone n && not takes_list

-- the program of a definition with these arguments, and how many tokens were read for it: its body among all tokens is read with them
abbrev pub with_arguments : Constants → List Token → ℕ → Definition → List Given → Outcome (ProgramTree × ℕ)
with_arguments constants all at d given =
    if other_number (alone d.parameters d.takes_list) d.takes_list (length given) then bad at cause.Arguments
    else (if nat_eq (length given) 0 then Ok (d.program, 0)
    else (program_with constants at (bound d.parameters (alone d.parameters d.takes_list) given) (drop (length all - d.left) all) >>= λ p. Ok (p, d.length)))

-- a program, how many tokens were read again for it, and the tokens behind it
abbrev pub ReadProgram : Type 0
ReadProgram = Outcome (ProgramTree × ℕ × List Token)

abbrev pub named_program : Constants → List Token → ℕ → List Token → Option Definition → ReadProgram
named_program constants all at tokens None = bad at cause.Name
named_program constants all at tokens (Some d) =
    arguments_at constants tokens >>= λ given. with_arguments constants all at d given.0 >>= λ p. Ok (p.0, p.1, given.1)
