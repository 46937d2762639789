use Rattle.stm_storing.proofs.scripting.opened.Goals as goal

pub returns-in-Err-clause-hurt : goal.returns-in-Err-clause-hurt
returns-in-Err-clause-hurt g c = λ at is. c.in-Err.ensures.hurt at (c.of_opening.ensures.damaged at is)

pub returns-in-Err-clause-nowhere : goal.returns-in-Err-clause-nowhere
returns-in-Err-clause-nowhere g c = λ at is. c.in-Err.ensures.nowhere at (c.of_opening.ensures.spelled at is)
