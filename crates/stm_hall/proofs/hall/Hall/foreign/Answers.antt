use Rattle.stm_hall.proofs.Keeping.{made_keeps}
use Rattle.stm_hall.proofs.hall.Hall.foreign.Goals as goal

pub invariant_of-self : goal.invariant_of-self
invariant_of-self c =
    (made_keeps c.self.inside.journal c.make_txn.new.self c.args.txn.now c.make_txn.result c.self.invariant c.make_txn.ensures.few c.make_txn.ensures.made).locked

pub returns-clause-goes_on : goal.returns-clause-goes_on
returns-clause-goes_on c =
    let kept = made_keeps c.self.inside.journal c.make_txn.new.self c.args.txn.now c.make_txn.result c.self.invariant c.make_txn.ensures.few c.make_txn.ensures.made in
    rw c.self.view_is at kept.goes
