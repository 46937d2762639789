use Rattle.std.proofs.Common.{◌≡◌, ◌≤◌, drop}
use Rattle.stm_source.specs.Runners.{runners_from, no_runners}
use Rattle.stm_source.proofs.runners.runners_inside.Given as goal

-- what is left leads to all
abbrev pub invariant-loop-index : goal.invariant-loop-index
invariant-loop-index l =
    (runners_from l.story 0 no_runners l.tokens ≡ runners_from l.story l.depth l.runners (drop l._index l.tokens)) × (l.depth ≤ l._index)
