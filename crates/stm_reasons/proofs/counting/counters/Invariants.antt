use Rattle.std.proofs.Common.{◌≡◌, ◌++◌, drop}
use Rattle.stm_reasons.specs.Counters.{counters}
use Rattle.stm_reasons.proofs.counting.counters.Given as goal

-- the revisions so far, and those before and after the replies that are left
abbrev pub invariant-loop-reply : goal.invariant-loop-reply
invariant-loop-reply l = l.counters.items ++ counters l.counter (drop l.reply-index l.replies) ≡ counters l.before l.replies
