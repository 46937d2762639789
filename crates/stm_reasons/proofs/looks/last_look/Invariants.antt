use Rattle.std.proofs.Common.{◌≡◌, ◌≤◌, length}
use Rattle.stm_reasons.specs.Looks.{last_look}
use Rattle.stm_reasons.proofs.looks.last_look.Given as goal

-- no later event is a look
abbrev pub invariant-loop-left : goal.invariant-loop-left
invariant-loop-left l = record {
  within : l.left ≤ length l.replies;
  later : last_look l.runner l.key l.counters l.replies l.left ≡ last_look l.runner l.key l.counters l.replies l.events;
}

abbrev pub decreases-loop-left : goal.decreases-loop-left
decreases-loop-left l = l.left
