use Rattle.std.proofs.Common.{◌≡◌, drop}
use Rattle.stm_formats.specs.FormatNotes.{set_up}
use Rattle.stm_formats.proofs.format_notes.set_up.Given as goal

-- what is left comes to what all comes to
abbrev pub invariant-loop-reply : goal.invariant-loop-reply
invariant-loop-reply l = set_up l.since l.counter (drop l.reply-index l.replies) ≡ set_up l.since l.since l.replies
