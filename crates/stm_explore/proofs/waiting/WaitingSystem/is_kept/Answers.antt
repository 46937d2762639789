use Rattle.std.proofs.Common.{◌≡◌, ◌∙◌, List, slice_get, subst}
use Rattle.std.specs.Prelude.{IfOk}
use Rattle.stm_schedules.specs.declared.moves.Move.{Move}
use Rattle.stm_explore.specs.Waiting.{asks_if_there}
use Rattle.stm_explore.proofs.waiting.WaitingSystem.is_kept.Goals as goal

pub returns : goal.returns
returns c =
    subst (λ (moves : List Move). IfOk c.asks_if_there.result (λ kept. kept ≡ asks_if_there c.args.self.now.when (slice_get c.args.self.now.rules.now c.args.rule) moves
    c.args.place.now.at.world.standing.history c.args.place.now.ends)) (c.as_slice.ensures.value ∙ c.in_ok-moves.ensures 0) c.asks_if_there.ensures
