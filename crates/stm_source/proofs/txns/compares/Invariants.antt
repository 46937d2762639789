use Rattle.std.proofs.Common.{◌≡◌, ◌-◌, [], length}
use Rattle.stm_source.specs.Txns.{compares_from}
use Rattle.stm_source.proofs.txns.compares.Given as goal

-- what is left leads to all
abbrev pub invariant-loop-turn : goal.invariant-loop-turn
invariant-loop-turn l =
    compares_from l.fn.constants (length l.fn.tokens - l._turn) l.compares.items l.rest ≡ compares_from l.fn.constants (length l.fn.tokens) [] l.fn.tokens
