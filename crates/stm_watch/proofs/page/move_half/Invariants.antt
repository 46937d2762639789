use Rattle.std.proofs.Common.{◌≡◌, ◌≤◌, ◌+◌, ◌++◌, vec_len, vec_capacity}
use Rattle.stm_watch.proofs.page.move_half.Given as goal

-- both lists together are as they were, and there is room for what is left
abbrev pub invariant-loop-entries : goal.invariant-loop-entries
invariant-loop-entries g l = record {
  same : l.entries.items ++ l.upper.items ≡ l.fn.entries.items ++ l.fn.upper.items;
  room : vec_len l.entries + vec_len l.upper ≤ vec_capacity l.upper;
}

abbrev pub decreases-loop-entries : goal.decreases-loop-entries
decreases-loop-entries g l = vec_len l.entries
