-- Rules and finals: programs that are asked of states.
use Rattle.std.specs.Prelude.{ℕ, ◌-◌, List, [], ◌∷◌, ◌++◌, Bool, true, Option, Some, None, Ok, Err, nat_eq, if◌then◌else◌, codes, false}
use Rattle.stm_tokens.specs.declared.token.Token.{Token}
use Rattle.stm_tokens.specs.declared.token.Symbol.TheVariants as symbol
use Rattle.stm_program.specs.declared.level.Level.{Level}
use Rattle.stm_terms.specs.declared.faults.SourceCause.TheVariants as cause
use Rattle.stm_terms.specs.Outcome.{Outcome, Read, bad, ◌>>=◌}
use Rattle.stm_terms.specs.Cursor.{place, unexpected, after_symbol, after_name, next_name}
use Rattle.stm_source.specs.declared.definitions.Definitions.{Definitions}
use Rattle.stm_source.specs.declared.definitions.Meaning.TheVariants as meaning
use Rattle.stm_source.specs.declared.story.Story.{Story}
use Rattle.stm_source.specs.declared.story.Rule.{Rule}
use Rattle.stm_source.specs.Bulk.{program_bulk}
use Rattle.stm_source.specs.Definitions.{ReadProgram, free_name_at, no_arguments, definition_named, named_program, with_meaning}
use Rattle.stm_source.specs.Programs.{program_at}
use Rattle.stm_terms.specs.declared.constants.Constants.{Constants}
use Rattle.stm_terms.specs.declared.endings.Runners.{Runners}
use Rattle.stm_source.specs.declared.programs.Look.{Look}
use Rattle.stm_source.specs.Runners.{runners_in}
use Rattle.stm_source.specs.Events.{level_at}

abbrev pub level_behind : List Token → Option (List Token) → Read (Option Level)
level_behind tokens None = Ok (None, tokens)
level_behind tokens (Some rest) = level_at rest >>= λ l. Ok (Some l.0, l.1)

-- the weakest level at which it is to be kept, where that is said
abbrev pub weakest_level : List Token → Read (Option Level)
weakest_level tokens = level_behind tokens (after_name (codes "from") tokens)

abbrev pub asked_by_name : List Token → Definitions → List Token → Option (List ℕ × List Token) → ReadProgram
asked_by_name all definitions tokens None = Err (unexpected tokens)
asked_by_name all definitions tokens (Some p) = named_program definitions.constants all (place tokens) p.1 (definition_named definitions p.0)

-- the runners that a final may ask of
abbrev pub asked_runners : Story → Bool → List Token → Option Runners
asked_runners story is_final tokens = if is_final then Some (runners_in story tokens) else None

abbrev pub rule_look : Constants → Story → Bool → ℕ → List Token → Look
rule_look constants story is_final at tokens =
    record { program = at; marks = false; at_kinds = true; kinds_at = None; runners = asked_runners story is_final tokens; constants = constants }

abbrev pub asked_by : List Token → Definitions → Story → Bool → ℕ → List Token → Option (List Token) → ReadProgram
asked_by all definitions story is_final at tokens (Some rest) = asked_by_name all definitions rest (next_name rest)
asked_by all definitions story is_final at tokens None =
    program_at (rule_look definitions.constants story is_final at tokens) no_arguments tokens >>= λ p. Ok (p.0, 0, p.1)

-- the program that is asked: one that is named, with its arguments, or its own in braces
abbrev pub asked_at : List Token → Definitions → Story → Bool → ℕ → List Token → ReadProgram
asked_at all definitions story is_final at tokens = asked_by all definitions story is_final at tokens (after_symbol symbol.Assign tokens)

-- for its program so many tokens were read again
abbrev pub with_rule : Story → Rule → ℕ → Story
with_rule story rule again = record story { rules = story.rules ++ rule ∷ []; room = (story.room - again) - program_bulk rule.program }

-- one more rule, whose name begins at a byte
abbrev pub ruled : Definitions → Story → ℕ → Rule → ℕ → Outcome (Definitions × Story)
ruled definitions story at rule again =
    if nat_eq ((story.room - again) - program_bulk rule.program) 0 then bad at cause.TooManyNodes
    else Ok (with_meaning definitions rule.name meaning.Rule, with_rule story rule again)

-- behind its word
abbrev pub rule_at : List Token → Definitions → Story → Bool → List Token → Outcome (Definitions × Story × List Token)
rule_at all definitions story is_final tokens =
    free_name_at definitions.names definitions.constants tokens >>= λ name.
    weakest_level name.1 >>= λ level.
    asked_at all definitions story is_final (place tokens) level.1 >>= λ p.
    ruled definitions story (place tokens) (record { name = name.0; is_final = is_final; level = level.0; program = p.0 }) p.1 >>= λ r.
    Ok (r.0, r.1, p.2)
