use Rattle.std.proofs.Common.{◌≡◌, ◌-◌, length}
use Rattle.stm_source.specs.Events.{turns_from}
use Rattle.stm_source.proofs.steps.turns.Given as goal

-- what is left leads to all
abbrev pub invariant-loop-turn : goal.invariant-loop-turn
invariant-loop-turn l =
    turns_from (length l.fn.tokens - l._turn) l.story l.rest ≡ turns_from (length l.fn.tokens) l.fn.story l.fn.tokens
