use Rattle.std.proofs.Common.{filter, ap, ◌∙◌}
use Rattle.stm_schedules.specs.Outcomes.{Ends}
use Rattle.stm_explore.specs.Waiting.{is_allowed}
use Rattle.stm_explore.proofs.waiting.WaitingSystem.moves.Goals as goal

pub returns : goal.returns
returns c = λ rule.
    c.only_allowed.ensures ∙ ap (λ (ends : Ends). filter (is_allowed c.args.self.now.waits.now ends) c.in_ok-moves.moves.items) c.as_slice.ensures
    ∙ ap (filter (is_allowed c.args.self.now.waits.now c.args.place.now.ends)) (c.in_ok-moves.ensures rule)
