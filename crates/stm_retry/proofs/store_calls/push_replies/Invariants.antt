use Rattle.std.proofs.Common.{◌≡◌, ◌+◌, ◌≤◌, ◌++◌, length, map, reverse, vec_len, vec_capacity}
use Rattle.stm_events.specs.Replies.{op_reply}
use Rattle.stm_retry.proofs.store_calls.push_replies.Given as goal

-- with the answers that are left all are replied to, and there is room for those
abbrev pub invariant-loop-answer : goal.invariant-loop-answer
invariant-loop-answer l = record {
  replied : l.replies.items ++ reverse (map op_reply l.left) ≡ l.fn.replies.items ++ reverse (map op_reply l.fn.answers);
  room : vec_len l.replies + length l.left ≤ vec_capacity l.replies;
}

abbrev pub decreases-loop-answer : goal.decreases-loop-answer
decreases-loop-answer l = length l.left
