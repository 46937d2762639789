use Rattle.std.proofs.Common.{rules}
use Rattle.stm_events.proofs.SameReplies.{line_decides}
use Rattle.stm_events.proofs.same.are_same_lines.Goals as goal

pub returns : goal.returns
returns c = search (rules, line_decides)
