use Rattle.stm_retry.proofs.SlotLemmas.{taken_none}
use Rattle.stm_retry.proofs.slots.take_runner.Goals as goal

pub returns-clause-none : goal.returns-clause-none
returns-clause-none c =
    taken_none c.args.id c.args.slots.now.items c.take_at.new.slots.items c.take_at.result c.take_at.ensures.was c.take_at.ensures.left
