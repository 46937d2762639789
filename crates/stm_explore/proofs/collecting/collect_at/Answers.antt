use Rattle.std.proofs.Common.{◌∙◌, sym}
use Rattle.stm_explore.proofs.Witnessing.{gathers_here, added_here}
use Rattle.stm_explore.proofs.collecting.collect_at.Goals as goal

pub returns-clause-gathers : goal.returns-clause-gathers
returns-clause-gathers c =
    gathers_here c.args.others.now c.args.r.now.place c.place-place.result.now c.rest_of-rest.result.now c.as_slice.result.now c.in_ok-it.it c.args.found.now.items
    c.add.new.found.items c.place-place.ensures c.rest_of-rest.ensures c.as_slice.ensures (sym c.in_ok-can_move.ensures ∙ c.if-branch.false) c.in_ok-it.ensures
    c.in_ok-add.ensures.gathers

pub returns-clause-added : goal.returns-clause-added
returns-clause-added c =
    added_here c.args.others.now c.args.r.now.place c.place-place.result.now c.rest_of-rest.result.now c.as_slice.result.now c.in_ok-it.it c.args.r.now.path
    c.args.found.now.items c.add.new.found.items c.args.schedules.now.items c.add.new.schedules.items c.place-place.ensures c.rest_of-rest.ensures c.as_slice.ensures
    (sym c.in_ok-can_move.ensures ∙ c.if-branch.false) c.in_ok-it.ensures c.in_ok-add.ensures.added
