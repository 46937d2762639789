use Rattle.std.proofs.Common.{◌∙◌}
use Rattle.stm_lists.proofs.Viewed.{contains_node, place-now, left_contains, moves-now}
use Rattle.stm_lists.proofs.linked.Lists.move_to.Goals as goal

pub unlink-value-requires-clause-there : goal.unlink-value-requires-clause-there
unlink-value-requires-clause-there g c = contains_node _ _ _ _ c.self.view_is c.self.invariant.sound _ c.requires.node

pub push-requires-clause-there : goal.push-requires-clause-there
push-requires-clause-there g c =
    let place = c.requires.node in
    left_contains c.self.inside.nodes c.self.inside.heads c.self.inside.spare _ c.self.view_is c.args.node place.0 place.1 c.unlink-value.new.nodes
    c.unlink-value.new.heads (c.unlink-value.ensures.shows place.0 (place-now _ c.self.inside.heads _ _ c.self.view_is c.args.node place.0 place.1))
    c.args.list c.requires.list

pub returns-clause-moved : goal.returns-clause-moved
returns-clause-moved g c =
    λ place at.
    moves-now c.self.inside.nodes c.self.inside.heads c.self.inside.spare _ c.self.view_is c.args.node place at c.unlink-value.new.nodes
    c.unlink-value.new.heads (c.unlink-value.ensures.shows place (place-now _ c.self.inside.heads _ _ c.self.view_is c.args.node place at)) c.push.new.nodes
    c.push.new.heads _ c.args.list c.push.result c.unlink-value.result c.requires.list (c.push.ensures.node ∙ c.unlink-value.ensures.next_key)
    (c.unlink-value.ensures.value place (place-now _ c.self.inside.heads _ _ c.self.view_is c.args.node place at)) c.push.ensures.shows
