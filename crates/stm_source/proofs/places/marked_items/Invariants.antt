use Rattle.std.proofs.Common.{◌≡◌, ◌-◌, length}
use Rattle.stm_source.specs.Places.{no_programs, programs_from}
use Rattle.stm_source.proofs.places.marked_items.Given as goal

-- what is left leads to all
abbrev pub invariant-loop-turn : goal.invariant-loop-turn
invariant-loop-turn l =
    programs_from l.fn.tokens (length l.fn.tokens - l._turn) l.definitions l.story l.programs l.rest
    ≡ programs_from l.fn.tokens (length l.fn.tokens) l.fn.definitions l.fn.story no_programs l.fn.tokens
