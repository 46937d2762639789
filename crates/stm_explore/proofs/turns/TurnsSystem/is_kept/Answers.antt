use Rattle.std.proofs.Common.{◌∙◌, List, not, ap}
use Rattle.stm_schedules.specs.declared.moves.Move.{Move}
use Rattle.stm_schedules.specs.Outcomes.{shown}
use Rattle.stm_explore.specs.Turns.{comes_to}
use Rattle.stm_explore.proofs.turns.TurnsSystem.is_kept.Goals as goal

pub returns : goal.returns
returns c =
    ap not (c.in_ok-comes.ensures ∙ ap (λ (ms : List Move). comes_to c.args.self.now.goal.now ms (shown c.args.place.now.reported.at.world c.args.place.now.reported.ends))
    (c.as_slice.ensures.value ∙ c.in_ok-left.ensures 0))
