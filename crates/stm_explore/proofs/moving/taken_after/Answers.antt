use Rattle.stm_explore.proofs.Walking.{rest_there}
use Rattle.stm_explore.proofs.moving.taken_after.Goals as goal

pub returns-then-taken-others : goal.returns-then-taken-others
returns-then-taken-others c = rest_there c.args.chosen c.args.taken c.args.others.now c.in-Other.is c.if-taken-others.true
