-- Looking at the events of a scenario one after the other, as loops do.
use Rattle.std.proofs.Common.{◌≡◌, ℕ, zero, suc, ◌<◌, Bool, true, false, List, [], ◌∷◌, length, map, take, drop, get_or}
use Rattle.std.proofs.Common.{Option, Some, None, cond, not, refl, sym, ap, ◌∙◌, arith}
use Rattle.std.proofs.lemmas.Bool.{or_right}
use Rattle.stm_events.specs.declared.event.WorldEvent.{WorldEvent}
use Rattle.stm_schedules.specs.Scenarios.{at_level, is_start, has_start, up_to_last_start, after_last_start}
use Rattle.stm_events.specs.declared.event.WorldEvent.TheVariants.{Start, Step}
use Rattle.stm_program.specs.declared.level.Level.{Level}
use Rattle.stm_serial_search.specs.Started.{is_step, HaveNoStep}
use Rattle.stm_exploring.specs.Asking.{without_steps, events_at}

-- ---- no step

kept_stepless : (step : Bool) (e : WorldEvent) (es : List WorldEvent) → is_step e ≡ step → HaveNoStep es → HaveNoStep (cond (not step) (e ∷ es) es)
kept_stepless true e es is none = none
kept_stepless false e es is none = (is, none)

stepless : (es : List WorldEvent) → HaveNoStep (without_steps es)
stepless [] = tt
stepless (e ∷ es) = kept_stepless (is_step e) e (without_steps es) refl (stepless es)

step_at : (level : Level) (e : WorldEvent) → is_step e ≡ false → is_step (at_level level e) ≡ false
step_at level (Start program other limit) none = refl
step_at level (Step runner) none = absurd (cc)
step_at level _ none = refl

pub steps_at : (level : Level) (es : List WorldEvent) → HaveNoStep es → HaveNoStep (map (at_level level) es)
steps_at level [] none = tt
steps_at level (x ∷ es) none = (step_at level x none.0, steps_at level es none.1)

-- what is left of a scenario, at any level
pub stepless_at : (level : Option Level) (es : List WorldEvent) → HaveNoStep (events_at level (without_steps es))
stepless_at None es = stepless es
stepless_at (Some level) es = steps_at level (without_steps es) (stepless es)

-- ---- the last start

pub no_setup : (es : List WorldEvent) → has_start es ≡ false → (up_to_last_start es ≡ []) × (after_last_start es ≡ es)
no_setup [] none = (refl, refl)
no_setup (x ∷ es) none = (rw none refl, rw none refl)

-- a start after which no other stands is the last one
pub record LastStart (es : List WorldEvent) (i : ℕ) : Type 0 where
  pub some : has_start es ≡ true
  pub front : take (suc i) es ≡ up_to_last_start es
  pub rest : drop (suc i) es ≡ after_last_start es

pub last_start_at : (es : List WorldEvent) (i : ℕ) (e : WorldEvent) → i < length es → e ≡ get_or es i e → is_start e ≡ true
    → has_start (drop (suc i) es) ≡ false → LastStart es i
last_start_at [] i e within at is none = absurd (omega (arith, within))
last_start_at (x ∷ es) zero e within at is none =
    let some : has_start (x ∷ es) ≡ true = rw (sym (ap is_start at) ∙ is) refl in
    let behind = no_setup es none in
    record { some = some; front = rw (some, behind.0) refl; rest = rw (some, behind.1) refl }
last_start_at (x ∷ es) (suc i) e within at is none =
    let behind = last_start_at es i e (omega (arith, within)) at is none in
    let some : has_start (x ∷ es) ≡ true = or_right (is_start x) (has_start es) behind.some in
    record { some = some; front = rw (some, sym behind.front) refl; rest = rw (some, sym behind.rest) refl }
