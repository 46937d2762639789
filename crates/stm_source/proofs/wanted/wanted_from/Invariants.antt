use Rattle.std.proofs.Common.{◌≡◌, ◌++◌, ◌-◌}
use Rattle.stm_source.specs.Wanted.{wanted_from}
use Rattle.stm_source.proofs.wanted.wanted_from.Given as goal

-- what is known so far, and what is left
abbrev pub invariant-loop-before : goal.invariant-loop-before
invariant-loop-before l =
    l.kinds ++ wanted_from l.fn.constants l.fn.parameters l.fn.body l.before (l.fn.count - l.before) ≡ wanted_from l.fn.constants l.fn.parameters l.fn.body 0 l.fn.count
