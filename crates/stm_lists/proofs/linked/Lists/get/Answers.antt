use Rattle.std.proofs.Common.{ap}
use Rattle.stm_lists.proofs.linked.Lists.get.Goals as goal

pub returns : goal.returns
returns g c = λ place at. ap (λ x. x.value) (c.stored.ensures place at)
