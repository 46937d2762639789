use Rattle.std.proofs.Common.{filter, ap, ◌∙◌}
use Rattle.stm_schedules.specs.Outcomes.{Ends}
use Rattle.stm_explore.specs.Turns.{is_in_turn}
use Rattle.stm_explore.proofs.turns.TurnsSystem.moves.Goals as goal

pub returns : goal.returns
returns c = λ rule.
    c.only_in_turn.ensures ∙ ap (λ (ends : Ends). filter (is_in_turn c.args.self.now.wanted.now c.args.place.now.last ends) c.in_ok-moves.moves.items) c.as_slice-ends.ensures
    ∙ ap (filter (is_in_turn c.args.self.now.wanted.now c.args.place.now.last c.args.place.now.reported.ends)) (c.in_ok-moves.ensures rule)
