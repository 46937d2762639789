use Rattle.std.proofs.Common.{rules}
use Rattle.stm_closures.proofs.OneBase.{answered_by_serving}
use Rattle.stm_closures.proofs.transaction.Transaction.answer.Goals as goal

-- it was read again
pub returns-in-Some-clause-answer : goal.returns-in-Some-clause-answer
returns-in-Some-clause-answer g c =
    answered_by_serving c.args.self.now c.self.inside.reads c.self.inside.again c.args.key.now c.in-Some.answer (search rules) (search rules) (search rules)
