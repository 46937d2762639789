use Rattle.std.proofs.Common.{◌≡◌, ◌-◌, [], length}
use Rattle.stm_source.specs.Definitions.{parameters_from}
use Rattle.stm_source.proofs.definitions.some_parameters.Given as goal

-- what is left leads to all
abbrev pub invariant-loop-turn : goal.invariant-loop-turn
invariant-loop-turn l =
    parameters_from l.fn.constants (length l.fn.tokens - l._turn) l.names l.rest ≡ parameters_from l.fn.constants (length l.fn.tokens) [] l.fn.tokens
