use Rattle.std.proofs.Common.{ap, ◌∙◌}
use Rattle.stm_lists.proofs.linked.Lists.prev.Goals as goal

pub returns : goal.returns
returns g c = λ place at. c.of_link.ensures ∙ ap (λ x. x.previous) (c.stored.ensures place at)
