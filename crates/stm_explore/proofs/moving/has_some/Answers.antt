use Rattle.stm_explore.proofs.MoveLemmas.{some_there}
use Rattle.stm_explore.proofs.moving.has_some.Goals as goal

pub returns : goal.returns
returns c = some_there c.args.moves.now c.is_empty.result c.is_empty.ensures
