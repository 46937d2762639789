use Rattle.std.proofs.Common.{◌≡◌, ◌-◌, length}
use Rattle.stm_source.specs.Sources.{items_from}
use Rattle.stm_source.proofs.sources.items.Given as goal

-- what is left leads to all
abbrev pub invariant-loop-turn : goal.invariant-loop-turn
invariant-loop-turn l =
    items_from l.fn.tokens (length l.fn.tokens - l._turn) l.definitions l.story l.rest
    ≡ items_from l.fn.tokens (length l.fn.tokens) l.fn.definitions l.fn.story l.fn.tokens
