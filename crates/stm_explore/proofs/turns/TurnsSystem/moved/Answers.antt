use Rattle.std.proofs.Common.{Option, ℕ, ap₂}
use Rattle.stm_explore.specs.declared.places.ReportedPlace.{ReportedPlace}
use Rattle.stm_explore.specs.declared.turns.TurnPlace.{TurnPlace}
use Rattle.stm_explore.proofs.turns.TurnsSystem.moved.Goals as goal

pub returns : goal.returns
returns c = λ rule.
    let place : ReportedPlace → Option ℕ → TurnPlace = λ q last. record { reported = q; last = last } in
    ap₂ place (c.in_ok-reported.ensures rule) c.turn_of.ensures
