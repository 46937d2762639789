use Rattle.std.proofs.Common.{◌≡◌, ◌∙◌, ap}
use Rattle.stm_txn.specs.Standing.{Standing}
use Rattle.stm_schedules.specs.Outcomes.{state_shown}
use Rattle.stm_explore.proofs.ShownLemmas.{kept_shows}
use Rattle.stm_explore.proofs.shown.outcome_of.Goals as goal

pub returns : goal.returns
returns c =
    let s : Standing = c.args.world.now.standing in
    let state : c.in_ok-state.state ≡ state_shown s.history =
    c.in_ok-state.ensures
    ∙ ap state_shown (c.keys.ensures.history ∙ ap (λ (x : Standing). x.history) c.store.ensures.standing)
    ∙ kept_shows s c.store.ensures.reached in
    λ i. record { state = state i; ends = c.in_ok-ends.ensures i }
