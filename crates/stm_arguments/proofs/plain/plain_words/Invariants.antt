use Rattle.std.proofs.Common.{◌≡◌, fold, length, map, string_bytes}
use Rattle.std.specs.Vec.Iter.{into_iter_items, into_iter_len}
use Rattle.stm_arguments.specs.Wording.{plain, seen, taken}
use Rattle.stm_arguments.proofs.plain.plain_words.Given as goal

-- what the words that are left make of what was read so far is what all make
abbrev pub invariant-loop-word : goal.invariant-loop-word
invariant-loop-word l = record {
  can_next : (goal.iterator-loop-word).can_next l.word-iterator;
  ends : (goal.iterator-loop-word).is_finite l.word-iterator;
  counted : into_iter_len l.word-iterator ≡ length (into_iter_items l.word-iterator);
  read : fold taken (seen l.read) (map string_bytes (into_iter_items l.word-iterator)) ≡ plain (map string_bytes l.fn.words.items);
}
