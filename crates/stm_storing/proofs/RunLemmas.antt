-- What the events of one program's run are.
use Rattle.std.proofs.Common.{◌≡◌, ⊎_elim, ℕ, ◌+◌, ◌<◌, slice_get, List, ap, ◌∙◌, subst, arith}
use Rattle.std.specs.Prelude.{Some}
use Rattle.std.proofs.lemmas.Bool.{cases_lt}
use Rattle.stm_events.specs.declared.event.WorldEvent.{WorldEvent}
use Rattle.stm_events.specs.declared.event.WorldEvent.TheVariants.{Step}

-- one event more that is a step of the runner
pub one_more_step : (runner : ℕ) (events : List WorldEvent) (i : ℕ) (event : WorldEvent) → slice_get events i ≡ Some event → event ≡ Step runner
    → ((k : ℕ) → k < i → slice_get events k ≡ Some (Step runner)) → (k : ℕ) → k < i + 1 → slice_get events k ≡ Some (Step runner)
one_more_step runner events i event stands is before k within =
    let this : slice_get events i ≡ Some (Step runner) = stands ∙ ap (λ (e : WorldEvent). Some e) is in
    ⊎_elim (λ less. before k less) (λ past. subst (λ (n : ℕ). slice_get events n ≡ Some (Step runner)) (omega (arith, within, past)) this) (cases_lt k i)
