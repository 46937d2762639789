use Rattle.std.proofs.Common.{◌≡◌, ◌++◌, drop}
use Rattle.stm_reasons.specs.Reasons.{stale_reads}
use Rattle.stm_reasons.proofs.reasons.push_stale_reads.Given as goal

-- the reasons so far, and those of the answers that are left
abbrev pub invariant-loop-answer : goal.invariant-loop-answer
invariant-loop-answer l =
    l.reasons.items ++ stale_reads l.told.keys.now.history l.told.counters.now l.told.replies.now l.before l.runner (drop l.answer-index l.answers)
    ≡ l.fn.reasons.items ++ stale_reads l.told.keys.now.history l.told.counters.now l.told.replies.now l.before l.runner l.answers
