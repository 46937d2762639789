use Rattle.std.proofs.Common.{◌∙◌, ap}
use Rattle.stm_schedules.specs.Outcomes.{shown}
use Rattle.stm_explore.proofs.Replays.{begun_there}
use Rattle.stm_explore.proofs.replaying.outcome_after.Goals as goal

pub returns : goal.returns
returns c =
    c.in_ok-it.ensures ∙ ap (shown c.in_ok-place.place.at.world) c.as_slice.ensures ∙ c.in_ok-place.ensures
    ∙ begun_there c.args.others.now c.args.moves.now c.in_ok-world.world c.args.world.now _ c.args.ends.now c.in_ok-world.ensures c.in_ok-ends.ensures
