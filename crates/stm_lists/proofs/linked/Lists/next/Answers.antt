use Rattle.std.proofs.Common.{ap, ◌∙◌}
use Rattle.stm_lists.proofs.linked.Lists.next.Goals as goal

pub returns : goal.returns
returns g c = λ place at. c.of_link.ensures ∙ ap (λ x. x.next) (c.stored.ensures place at)
