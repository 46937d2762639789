use Rattle.std.proofs.Common.{◌≡◌, take, map}
use Rattle.stm_events.specs.Replies.{committed_read}
use Rattle.stm_retry.proofs.copies.reads_committed.Given as goal

-- the answers so far are reported
abbrev pub invariant-loop-answer : goal.invariant-loop-answer
invariant-loop-answer l = l.reads ≡ map committed_read (take l.answer-index l.answers)
