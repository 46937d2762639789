use Rattle.stm_explore.proofs.orders.look.Goals as goal

pub returns-clause-far : goal.returns-clause-far
returns-clause-far g c = c.answer_by.ensures.far (record { world = c.args.world.now; others = c.args.others.now }) c.args.budget.now.left c.in_ok-found.ensures.far
