use Rattle.std.proofs.Common.{◌≡◌, [], drop}
use Rattle.stm_schedules.specs.Outcomes.{after_replies}
use Rattle.stm_explore.proofs.ends.ends_reported.Given as goal

-- what the replies that are left make of what is known so far
abbrev pub invariant-loop-reply : goal.invariant-loop-reply
invariant-loop-reply l = after_replies (drop l.reply-index l.replies) l.ends.items ≡ after_replies l.replies []
