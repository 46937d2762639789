use Rattle.std.proofs.Common.{◌≡◌, ◌-◌, length}
use Rattle.stm_source.specs.Constants.{parameters_from}
use Rattle.stm_source.proofs.constants.some_parameters.Given as goal

-- what is left leads to all
abbrev pub invariant-loop-turn : goal.invariant-loop-turn
invariant-loop-turn l =
    parameters_from (length l.fn.tokens - l._turn) l.outer l.rest ≡ parameters_from (length l.fn.tokens) l.fn.scope l.fn.tokens
