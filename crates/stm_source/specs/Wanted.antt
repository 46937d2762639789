-- What the arguments of a program have to be: texts, numbers, or either.
use Rattle.std.specs.Prelude.{ℕ, zero, suc, ◌-◌, pos, List, [], ◌∷◌, ◌++◌, length, drop, Bool, true, false, Option, Some, None, Ok, Err}
use Rattle.stm_tokens.specs.declared.token.Token.{Token}
use Rattle.stm_tokens.specs.Tokens.{tokens_in}
use Rattle.stm_terms.specs.declared.arguments.Argument.{Argument}
use Rattle.stm_terms.specs.declared.arguments.Argument.TheVariants.{Number, Text}
use Rattle.stm_terms.specs.declared.faults.SourceCause.{SourceCause}
use Rattle.stm_terms.specs.declared.faults.SourceCause.TheVariants as cause
use Rattle.stm_terms.specs.declared.constants.Constants.{Constants}
use Rattle.stm_terms.specs.declared.kinds.Kind.{Kind}
use Rattle.stm_terms.specs.declared.kinds.Kind.TheVariants as kind
use Rattle.stm_terms.specs.declared.arguments.Arguments.{Arguments}
use Rattle.stm_terms.specs.declared.arguments.Given.{Given}
use Rattle.stm_terms.specs.Literals.{given_as}
use Rattle.stm_terms.specs.Outcome.{Outcome}
use Rattle.stm_source.specs.declared.definitions.Definition.{Definition}
use Rattle.stm_source.specs.declared.definitions.Definitions.{Definitions}
use Rattle.stm_source.specs.declared.story.Story.{Story}
use Rattle.stm_source.specs.Definitions.{alone, definition_named, look_for_arguments, open_given}
use Rattle.stm_source.specs.Programs.{parts_at}
use Rattle.stm_source.specs.Sources.{empty_story, items_from, no_definitions}

abbrev pub is_kind : SourceCause → Bool
is_kind cause.Kind = true
is_kind _ = false

-- a value is of another kind than is wanted
abbrev pub is_of_kinds : {A : Type 0} → Outcome A → Bool
is_of_kinds (Ok x) = false
is_of_kinds (Err fault) = is_kind fault.cause

-- one argument behind so many and before so many, each of which may be either
abbrev pub given_at : ℕ → Argument → ℕ → List Given
given_at before argument behind = open_given before ++ given_as argument 0 ∷ open_given behind

-- a value of a body is of another kind than is wanted with these arguments
abbrev pub is_wrong_with : Constants → Arguments → List Token → Bool
is_wrong_with constants arguments body = is_of_kinds (parts_at (look_for_arguments constants 0) arguments body)

-- the same with one of them behind so many and before so many, and with a list that has no items
abbrev pub is_wrong : Constants → List (List ℕ) → List Token → ℕ → Argument → ℕ → Bool
is_wrong constants names body before argument behind =
    is_wrong_with constants (record { names = names; given = given_at before argument behind; list = [] }) body

-- by whether a number is wrong, and whether a text is
abbrev pub wanted_by : Bool → Bool → Kind
wanted_by true text = kind.Text
wanted_by false true = kind.Number
wanted_by false false = kind.Either

-- what the argument behind so many and before so many has to be
abbrev pub wanted_at : Constants → List (List ℕ) → List Token → ℕ → ℕ → Kind
wanted_at constants names body before behind =
    wanted_by (is_wrong constants names body before (Number (pos 1)) behind) (is_wrong constants names body before (Text []) behind)

-- what those have to be that are left behind so many
unfoldable pub wanted_from : Constants → List (List ℕ) → List Token → ℕ → ℕ → List Kind
wanted_from constants names body before zero = []
wanted_from constants names body before (suc left) =
    wanted_at constants names body before left ∷ wanted_from constants names body (suc before) left

-- of the parameters that stand for one argument each; `all` are the tokens of the source
abbrev pub wanted_of : Constants → List Token → Option Definition → List Kind
wanted_of constants all None = []
wanted_of constants all (Some d) =
    wanted_from constants d.parameters (drop (length all - d.left) all) 0 (alone d.parameters d.takes_list)

abbrev pub wanted_in : List Token → List ℕ → Outcome (Definitions × Story) → List Kind
wanted_in all name (Ok read) = wanted_of read.0.constants all (definition_named read.0 name)
wanted_in all name (Err fault) = []

abbrev pub wanted_of_tokens : List Token → List ℕ → List Kind
wanted_of_tokens tokens name = wanted_in tokens name (items_from tokens (length tokens) no_definitions empty_story tokens)

-- what the arguments of the program of a name have to be, in their order, but for those of a list: of none, where there is no such program, or the source
-- has a fault
abbrev pub kinds_wanted : List ℕ → List ℕ → List Kind
kinds_wanted source name = wanted_of_tokens (tokens_in source) name
