use Rattle.std.proofs.Common.{rules}
use Rattle.stm_closures.proofs.OneBase.{one_base_in}
use Rattle.stm_closures.proofs.transaction.Transaction.record.Goals as goal

-- one answer more, of the base revision
pub invariant_of-self-2 : goal.invariant_of-self-2
invariant_of-self-2 g c =
    one_base_in c.args.self.now c.self.inside.level c.self.inside.reads c.add.new.self c.args.answer (search rules) (search rules) c.requires.of_base
    c.self.invariant (search rules)
