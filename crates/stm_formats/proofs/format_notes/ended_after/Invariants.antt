use Rattle.std.proofs.Common.{◌≡◌, [], drop}
use Rattle.stm_formats.specs.FormatNotes.{ended_after}
use Rattle.stm_formats.proofs.format_notes.ended_after.Given as goal

-- what the replies that are left make of what is known so far
abbrev pub invariant-loop-reply : goal.invariant-loop-reply
invariant-loop-reply l = ended_after l.ended.items (drop l.reply-index l.replies) ≡ ended_after [] l.replies
