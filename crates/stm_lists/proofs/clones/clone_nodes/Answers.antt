use Rattle.stm_lists.proofs.Cloned.{slot_cloned}
use Rattle.stm_lists.proofs.clones.clone_nodes.Goals as goal

pub returns-clause-clones : goal.returns-clause-clones
returns-clause-clones g c = λ node. slot_cloned _ c.args.nodes.now.slots c.in_ok-copies.copies.slots node c.in_ok-copies.ensures.cases.slots
