use Rattle.std.proofs.Common.{sym, ◌∙◌}
use Rattle.stm_workers.proofs.AuditLemmas.{level_fails, third_fails, second_decides}
use Rattle.stm_workers.proofs.auditing.may_have_given_up.Goals as goal

-- the level compares nothing
pub returns-then-not-is_comparing : goal.returns-then-not-is_comparing
returns-then-not-is_comparing c = level_fails _ _ _ _ c.is_comparing.ensures c.if-not-is_comparing.true

-- the counter has not grown by that many
pub returns-then-not-has_grown_by : goal.returns-then-not-has_grown_by
returns-then-not-has_grown_by c = third_fails _ _ _ _ (rw c.revision.ensures at c.has_grown_by.ensures) c.if-not-has_grown_by.true

pub returns : goal.returns
returns c =
    second_decides _ _ _ _ c.is_changed_above.ensures (sym c.is_comparing.ensures ∙ c.if-not-is_comparing.false)
    ((rw c.revision.ensures at c.has_grown_by.ensures).0 c.if-not-has_grown_by.false)
