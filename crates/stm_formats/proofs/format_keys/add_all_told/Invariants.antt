use Rattle.std.proofs.Common.{◌≡◌, drop}
use Rattle.stm_formats.specs.FormatKeys.{with_told}
use Rattle.stm_formats.proofs.format_keys.add_all_told.Given as goal

-- what the replies that are left add to the keys so far
abbrev pub invariant-loop-reply : goal.invariant-loop-reply
invariant-loop-reply l = with_told l.most l.keys.items (drop l.reply-index l.replies) ≡ with_told l.most l.fn.keys.items l.replies
