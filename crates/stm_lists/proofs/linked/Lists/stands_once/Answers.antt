use Rattle.stm_lists.proofs.Viewed.{apart-now, one_place, place-now}
use Rattle.stm_lists.proofs.linked.Lists.stands_once.Goals as goal

pub returns-clause-apart : goal.returns-clause-apart
returns-clause-apart g c = λ list. apart-now _ c.self.inside.heads _ _ c.self.view_is c.self.invariant.sound list

pub returns-clause-one_place : goal.returns-clause-one_place
returns-clause-one_place g c =
    λ node one other at there.
    one_place _ _ c.self.invariant.sound node one other (place-now _ c.self.inside.heads _ _ c.self.view_is node one at)
    (place-now _ c.self.inside.heads _ _ c.self.view_is node other there)
