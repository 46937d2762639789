use Rattle.std.proofs.Common.{arith}
use Rattle.stm_workers.proofs.AuditLemmas.{first_of_two_fails, second_of_two_decides}
use Rattle.stm_workers.proofs.auditing.is_shown_at.Goals as goal

-- it is of another revision
pub returns-then-read-revision : goal.returns-then-read-revision
returns-then-read-revision c = first_of_two_fails _ _ (λ is. absurd (omega (arith, is, c.if-read-revision.true)))

pub returns : goal.returns
returns c = second_of_two_decides _ _ _ (omega (arith, c.if-read-revision.false)) c.shows.ensures
