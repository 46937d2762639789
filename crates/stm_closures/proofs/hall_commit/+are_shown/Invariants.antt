use Rattle.std.proofs.Common.{length}
use Rattle.stm_closures.proofs.hall_commit.+are_shown.Given as goal

abbrev pub decreases-are_shown : goal.decreases-are_shown
decreases-are_shown l = length l.answers.now
