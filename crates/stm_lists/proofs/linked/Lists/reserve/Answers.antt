use Rattle.std.proofs.Common.{Result, Ok, Err, OnErr, ap, ◌∙◌}
use Rattle.stm_lists.proofs.Viewed.{grown-sound, grown-view, grown-stored}
use Rattle.stm_lists.proofs.linked.Lists.reserve.Goals as goal

-- what holds at any rate holds at an `Err`
on_err : {T E P : Type 0} (r : Result T E) → P → OnErr r P
on_err (Ok x) p = tt
on_err (Err e) p = p

pub invariant_of-self : goal.invariant_of-self
invariant_of-self g c =
    grown-stored c.self.inside.nodes c.reserve.new.self c.reserve.ensures.rest_kept c.self.inside.heads c.self.inside.spare c.reserve.ensures.capacity
    c.self.invariant

pub returns-in_err-reserve-clause-lists : goal.returns-in_err-reserve-clause-lists
returns-in_err-reserve-clause-lists g c =
    ap (λ s. s.lists)
    (grown-view c.self.inside.nodes c.reserve.new.self c.reserve.ensures.rest_kept c.self.inside.heads c.self.inside.spare ∙ c.self.view_is)

pub returns-in_err-reserve-clause-err : goal.returns-in_err-reserve-clause-err
returns-in_err-reserve-clause-err g c =
    on_err c.from_residual.result
    (grown-view c.self.inside.nodes c.reserve.new.self c.reserve.ensures.rest_kept c.self.inside.heads c.self.inside.spare ∙ c.self.view_is)

pub invariant_of-self-then-additional-self : goal.invariant_of-self-then-additional-self
invariant_of-self-then-additional-self g c =
    record {
      sound = grown-sound c.self.inside.nodes c.reserve.new.self c.reserve.ensures.rest_kept c.self.inside.heads c.self.inside.spare c.self.invariant.sound;
      room = c.in_ok-reserve.ensures.room;
    }

pub returns-in_ok-reserve-clause-lists : goal.returns-in_ok-reserve-clause-lists
returns-in_ok-reserve-clause-lists g c =
    ap (λ s. s.lists)
    (grown-view c.self.inside.nodes c.reserve.new.self c.reserve.ensures.rest_kept c.self.inside.heads c.self.inside.spare ∙ c.self.view_is)
