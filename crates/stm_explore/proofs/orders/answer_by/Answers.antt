use Rattle.stm_explore.proofs.orders.answer_by.Goals as goal

pub returns-in-Found-clause-far : goal.returns-in-Found-clause-far
returns-in-Found-clause-far g c = λ p made far. c.answer_about.ensures.far p made
