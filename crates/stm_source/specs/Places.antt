-- Where the statements of the programs of a source's starts, rules and finals begin: the programs, read once more with a mark before each statement.
use Rattle.std.specs.Prelude.{ℕ, zero, suc, ◌+◌, ◌-◌, Bool, List, [], ◌∷◌, ◌++◌, length, drop, Option, Some, None, Ok, Err, nat_lt, codes, if◌then◌else◌, true, false}
use Rattle.stm_tokens.specs.declared.token.Token.{Token}
use Rattle.stm_tokens.specs.declared.token.Symbol.TheVariants as symbol
use Rattle.stm_tokens.specs.declared.token.Word.TheVariants as word
use Rattle.stm_program.specs.Syntax.{Block}
use Rattle.stm_leaving.specs.Closed.{nothing, closed}
use Rattle.stm_leaving.specs.Written.{is_too_long}
use Rattle.stm_terms.specs.declared.arguments.Arguments.{Arguments}
use Rattle.stm_terms.specs.declared.arguments.Given.{Given}
use Rattle.stm_terms.specs.declared.faults.SourceCause.TheVariants as cause
use Rattle.stm_terms.specs.Cursor.{place, unexpected, after_name, after_symbol, after_word, next_name}
use Rattle.stm_terms.specs.Outcome.{Outcome, bad, ◌>>=◌}
use Rattle.stm_txn.specs.Standing.{Setup}
use Rattle.stm_source.specs.declared.definitions.Definition.{Definition}
use Rattle.stm_source.specs.declared.definitions.Definitions.{Definitions}
use Rattle.stm_source.specs.declared.places.MarkedProgram.{MarkedProgram}
use Rattle.stm_source.specs.declared.places.MarkedPrograms.{MarkedPrograms}
use Rattle.stm_source.specs.declared.places.MarkedRule.{MarkedRule}
use Rattle.stm_source.specs.declared.places.MarkedStart.{MarkedStart}
use Rattle.stm_source.specs.declared.places.TheConstants.{MOST_MARKED}
use Rattle.stm_source.specs.declared.programs.Look.{Look}
use Rattle.stm_source.specs.declared.story.Story.{Story}
use Rattle.stm_source.specs.Definitions.{alone, arguments_at, bound, definition_named, look_of, no_arguments}
use Rattle.stm_source.specs.Programs.{parts_at}
use Rattle.stm_source.specs.Rules.{rule_look, weakest_level}
use Rattle.stm_source.specs.Sources.{at_end, empty_story, item_at, no_definitions}

-- ---- a program with its marks

-- how many elements stand before the statements in its JSON: its list, where it has one
abbrev pub first_behind : List (List ℕ) → ℕ
first_behind [] = 0
first_behind (k ∷ ks) = 1

abbrev pub marked_as : List (List ℕ) → Block → MarkedProgram
marked_as keys b = record { first = first_behind keys; statements = b }

abbrev pub with_marks : Look → Look
with_marks look = record look { marks = true }

abbrev pub marked_body : Look → Arguments → List Token → Outcome MarkedProgram
marked_body look arguments tokens =
    parts_at (with_marks look) arguments tokens >>= λ p.
    if is_too_long MOST_MARKED p.1 then bad look.program cause.TooManyNodes else Ok (marked_as p.0 (closed p.1 nothing))

-- with these arguments; `all` are the tokens of the source
abbrev pub marked_with : Definitions → List Token → ℕ → Definition → List Given → Outcome MarkedProgram
marked_with definitions all at d given =
    if nat_lt (length given) (alone d.parameters d.takes_list) then bad at cause.Arguments
    else marked_body (look_of definitions.constants at false) (bound d.parameters (alone d.parameters d.takes_list) given) (drop (length all - d.left) all)

-- by its name, which begins at a byte
abbrev pub marked_named : Definitions → List Token → ℕ → List Token → Option Definition → Outcome MarkedProgram
marked_named definitions all at tokens None = bad at cause.Name
marked_named definitions all at tokens (Some d) = arguments_at definitions.constants tokens >>= λ given. marked_with definitions all at d given.0

abbrev pub marked_by : List Token → Definitions → List Token → Option (List ℕ × List Token) → Outcome MarkedProgram
marked_by all definitions tokens None = marked_body (look_of definitions.constants (place tokens) false) no_arguments tokens
marked_by all definitions tokens (Some p) = marked_named definitions all (place tokens) p.1 (definition_named definitions p.0)

-- of a start, behind its word
abbrev pub marked_started : List Token → Definitions → List Token → Outcome MarkedProgram
marked_started all definitions tokens = marked_by all definitions tokens (next_name tokens)

-- ---- of a rule or a final

abbrev pub marked_called : List Token → Definitions → List Token → Option (List ℕ × List Token) → Outcome MarkedProgram
marked_called all definitions tokens None = Err (unexpected tokens)
marked_called all definitions tokens (Some p) = marked_named definitions all (place tokens) p.1 (definition_named definitions p.0)

-- one that is named, with its arguments, or its own in braces
abbrev pub marked_asked : List Token → Definitions → Story → Bool → List Token → Option (List Token) → Outcome MarkedProgram
marked_asked all definitions story is_final tokens (Some rest) = marked_called all definitions rest (next_name rest)
marked_asked all definitions story is_final tokens None =
    marked_body (rule_look definitions.constants story is_final (place tokens) tokens) no_arguments tokens

-- behind its name
abbrev pub marked_ruled : List Token → Definitions → Story → Bool → List Token → Outcome MarkedProgram
marked_ruled all definitions story is_final tokens =
    weakest_level tokens >>= λ l. marked_asked all definitions story is_final l.1 (after_symbol symbol.Assign l.1)

-- ---- those of a source

-- the index that the next event has among the elements of the scenario's JSON
abbrev pub behind_opening : ℕ → Option Setup → ℕ
behind_opening events None = events
behind_opening events (Some o) = events + 1

abbrev pub next_element : Story → ℕ
next_element story = behind_opening (length story.events) story.opening

abbrev pub no_programs : MarkedPrograms
no_programs = record { starts = []; rules = [] }

abbrev pub start_as : ℕ → MarkedProgram → MarkedStart
start_as element program = record { element = element; program = program }

-- none, where it cannot be read again
abbrev pub with_start : MarkedPrograms → ℕ → Outcome MarkedProgram → MarkedPrograms
with_start programs element (Ok p) = record programs { starts = programs.starts ++ start_as element p ∷ [] }
with_start programs element (Err e) = programs

abbrev pub rule_as : List ℕ → MarkedProgram → MarkedRule
rule_as name program = record { name = name; program = program }

abbrev pub with_rule : MarkedPrograms → List ℕ → MarkedProgram → MarkedPrograms
with_rule programs name p = record programs { rules = programs.rules ++ rule_as name p ∷ [] }

abbrev pub with_rule_read : MarkedPrograms → List ℕ → Outcome MarkedProgram → MarkedPrograms
with_rule_read programs name (Ok p) = with_rule programs name p
with_rule_read programs name (Err e) = programs

abbrev pub with_ruled : List Token → Definitions → Story → Bool → MarkedPrograms → Option (List ℕ × List Token) → MarkedPrograms
with_ruled all definitions story is_final programs None = programs
with_ruled all definitions story is_final programs (Some p) = with_rule_read programs p.0 (marked_ruled all definitions story is_final p.1)

-- a start, a rule or a final; nothing of other items
abbrev pub item_with : List Token → Definitions → Story → ℕ → MarkedPrograms → Option (List Token) → Option (List Token) → Option (List Token) → MarkedPrograms
item_with all definitions story element programs (Some inner) asked start = with_ruled all definitions story false programs (next_name inner)
item_with all definitions story element programs None (Some inner) start = with_ruled all definitions story true programs (next_name inner)
item_with all definitions story element programs None None (Some inner) = with_start programs element (marked_started all definitions inner)
item_with all definitions story element programs None None None = programs

abbrev pub with_item : List Token → Definitions → Story → ℕ → MarkedPrograms → List Token → MarkedPrograms
with_item all definitions story element programs tokens =
    item_with all definitions story element programs (after_word word.Rule tokens) (after_word word.Finally tokens) (after_name (codes "start") tokens)

-- those of the items that are left, at most so many
unfoldable pub programs_from : List Token → ℕ → Definitions → Story → MarkedPrograms → List Token → Outcome MarkedPrograms
programs_from all zero definitions story programs tokens = Err (unexpected tokens)
programs_from all (suc more) definitions story programs tokens =
    if at_end tokens then Ok programs
    else (item_at all definitions story tokens >>= λ x.
    programs_from all more x.0 x.1 (with_item all x.0 x.1 (next_element story) programs tokens) x.2)

-- those that tokens spell
unfoldable pub programs_at : List Token → Outcome MarkedPrograms
programs_at tokens = programs_from tokens (length tokens) no_definitions empty_story no_programs tokens
