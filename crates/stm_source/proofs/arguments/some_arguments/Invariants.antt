use Rattle.std.proofs.Common.{◌≡◌, ◌-◌, [], length}
use Rattle.stm_source.specs.Definitions.{arguments_from}
use Rattle.stm_source.proofs.arguments.some_arguments.Given as goal

-- what is left leads to all
abbrev pub invariant-loop-turn : goal.invariant-loop-turn
invariant-loop-turn l =
    arguments_from l.fn.constants (length l.fn.tokens - l._turn) l.given l.rest ≡ arguments_from l.fn.constants (length l.fn.tokens) [] l.fn.tokens
