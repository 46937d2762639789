use Rattle.std.proofs.Common.{◌≡◌, ◌++◌, take}
use Rattle.std.specs.Vec.Iter.{into_iter_items, into_iter_len}
use Rattle.stm_arguments.proofs.given.words_left.Given as goal

-- the words so far, with those that are still to come, are all of them
abbrev pub invariant-loop-word : goal.invariant-loop-word
invariant-loop-word l = record {
  can_next : (goal.iterator-loop-word).can_next l.word-iterator;
  ends : (goal.iterator-loop-word).is_finite l.word-iterator;
  all : l.words.items ++ take (into_iter_len l.word-iterator) (into_iter_items l.word-iterator)
      ≡ take (into_iter_len l.fn.arguments) (into_iter_items l.fn.arguments);
}
