use Rattle.std.proofs.Common.{◌≡◌, ◌∙◌}
use Rattle.stm_lists.specs.Chain.{view_of}
use Rattle.stm_lists.proofs.Viewed.{grown-sound, grown-view, grown-stored, fresh-now, shown-now, updates-now}
use Rattle.stm_lists.proofs.linked.Lists.push_back.Goals as goal

pub invariant_of-self : goal.invariant_of-self
invariant_of-self g c =
    grown-stored c.self.inside.nodes c.reserve.new.self c.reserve.ensures.rest_kept c.self.inside.heads c.self.inside.spare c.reserve.ensures.capacity
    c.self.invariant

pub returns-then-is_err-clause-err : goal.returns-then-is_err-clause-err
returns-then-is_err-clause-err g c =
    grown-view c.self.inside.nodes c.reserve.new.self c.reserve.ensures.rest_kept c.self.inside.heads c.self.inside.spare ∙ c.self.view_is

pub push-node-requires-clause-sound : goal.push-node-requires-clause-sound
push-node-requires-clause-sound g c =
    grown-sound c.self.inside.nodes c.reserve.new.self c.reserve.ensures.rest_kept c.self.inside.heads c.self.inside.spare c.self.invariant.sound

pub returns-clause-ok : goal.returns-clause-ok
returns-clause-ok g c =
    let seen : view_of c.reserve.new.self c.self.inside.heads c.self.inside.spare ≡ c.args.self.now =
    grown-view c.self.inside.nodes c.reserve.new.self c.reserve.ensures.rest_kept c.self.inside.heads c.self.inside.spare ∙ c.self.view_is in
    updates-now _ _ _ _ seen _ _ _ _ _ (c.push-node.ensures.shows _ (shown-now _ c.self.inside.heads _ _ seen c.args.list c.requires))

pub returns-clause-fresh : goal.returns-clause-fresh
returns-clause-fresh g c =
    let seen : view_of c.reserve.new.self c.self.inside.heads c.self.inside.spare ≡ c.args.self.now =
    grown-view c.self.inside.nodes c.reserve.new.self c.reserve.ensures.rest_kept c.self.inside.heads c.self.inside.spare ∙ c.self.view_is in
    let sound = grown-sound c.self.inside.nodes c.reserve.new.self c.reserve.ensures.rest_kept c.self.inside.heads c.self.inside.spare c.self.invariant.sound in
    fresh-now _ _ _ _ seen sound _ c.push-node.ensures.vacant
