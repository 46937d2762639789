use Rattle.std.proofs.Common.{◌≡◌, ◌++◌}
use Rattle.std.specs.Vec.Iter.{into_iter_items}
use Rattle.stm_attempt.proofs.attempt.set_of.Given as goal

-- the answers so far, followed by those that are left
abbrev pub invariant-loop-answer : goal.invariant-loop-answer
invariant-loop-answer l = record {
  can_next : (goal.iterator-loop-answer).can_next l.answer-iterator;
  ends : (goal.iterator-loop-answer).is_finite l.answer-iterator;
  reported : l.set ++ into_iter_items l.answer-iterator ≡ l.fn.answers;
}
