use Rattle.std.proofs.Common.{◌≡◌, ◌-◌, [], length}
use Rattle.stm_source.specs.Txns.{operations_from}
use Rattle.stm_source.proofs.txns.operations.Given as goal

-- what is left leads to all
abbrev pub invariant-loop-turn : goal.invariant-loop-turn
invariant-loop-turn l =
    operations_from l.fn.constants (length l.fn.tokens - l._turn) l.operations.items l.rest ≡ operations_from l.fn.constants (length l.fn.tokens) [] l.fn.tokens
