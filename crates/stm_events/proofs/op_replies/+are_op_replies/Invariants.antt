use Rattle.std.proofs.Common.{length}
use Rattle.stm_events.proofs.op_replies.+are_op_replies.Given as goal

abbrev pub decreases-are_op_replies : goal.decreases-are_op_replies
decreases-are_op_replies l = length l.replies.now
