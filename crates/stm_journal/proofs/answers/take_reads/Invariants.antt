use Rattle.std.proofs.Common.{◌≡◌, ◌++◌}
use Rattle.std.specs.Vec.Iter.{into_iter_items}
use Rattle.stm_journal.specs.Reads.{reads_in}
use Rattle.stm_journal.proofs.answers.take_reads.Given as goal

-- the reads so far, followed by those that are left
abbrev pub invariant-loop-answer : goal.invariant-loop-answer
invariant-loop-answer l = record {
  can_next : (goal.iterator-loop-answer).can_next l.answer-iterator;
  ends : (goal.iterator-loop-answer).is_finite l.answer-iterator;
  reported : l.reads.items ++ reads_in (into_iter_items l.answer-iterator) ≡ reads_in l.fn.answers;
}
