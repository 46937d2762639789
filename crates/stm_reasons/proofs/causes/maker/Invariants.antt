use Rattle.std.proofs.Common.{◌≡◌, ◌≤◌}
use Rattle.stm_reasons.specs.Causes.{maker}
use Rattle.stm_reasons.proofs.causes.maker.Given as goal

-- the revision was there before each later event
abbrev pub invariant-loop-left : goal.invariant-loop-left
invariant-loop-left l = record {
  within : l.left ≤ l.events;
  later : maker l.counters l.revision l.left ≡ maker l.counters l.revision l.events;
}

abbrev pub decreases-loop-left : goal.decreases-loop-left
decreases-loop-left l = l.left
