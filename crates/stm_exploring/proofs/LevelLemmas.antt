-- Answers at the four levels, as loops come to them.
use Rattle.std.proofs.Common.{◌≡◌, ℕ, zero, suc, ◌+◌, ◌-◌, ◌<◌, false, List, [], ◌∷◌, ◌++◌, length, map, take, drop, All, refl, sym, ap, ap₂, ◌∙◌, subst, arith}
use Rattle.std.specs.List.{list_all}
use Rattle.std.proofs.lemmas.List.{take_rest}
use Rattle.std.proofs.lemmas.List.Elements.{All-push}
use Rattle.stm_program.specs.declared.level.Level.{Level}
use Rattle.stm_events.specs.declared.event.WorldEvent.{WorldEvent}
use Rattle.stm_events.specs.declared.event.WorldEvent.TheVariants.{Start}
use Rattle.stm_schedules.specs.Scenarios.{at_level}
use Rattle.stm_texts.specs.declared.scenario.Scenario.{Scenario}
use Rattle.stm_explore.specs.declared.waits.Wait.{Wait}
use Rattle.stm_exploring.specs.declared.leveled.LevelAnswers.{LevelAnswers}
use Rattle.stm_exploring.specs.declared.rules.Rule.{Rule}
use Rattle.stm_exploring.specs.Judging.{AreFound}
use Rattle.stm_exploring.specs.Levels.{leveled, all_kept, enough}

-- ---- the scenario

event_twice : (k l : Level) (e : WorldEvent) → at_level k (at_level l e) ≡ at_level k e
event_twice k l (Start program level limit) = refl
event_twice k l other = refl

events_twice : (k l : Level) (es : List WorldEvent) → map (at_level k) (map (at_level l) es) ≡ map (at_level k) es
events_twice k l [] = refl
events_twice k l (e ∷ es) = ap₂ (λ (x : WorldEvent) (xs : List WorldEvent). x ∷ xs) (event_twice k l e) (events_twice k l es)

-- the level that was put in last counts
leveled_twice : (k l : Level) (s : Scenario) → leveled k (leveled l s) ≡ leveled k s
leveled_twice k l s = ap (λ (es : List WorldEvent). record { opening = s.opening; events = es }) (events_twice k l s.events)

-- ---- the answers

-- after one more level
module _ (waits : List Wait) (rules : List Rule) (s : Scenario) where
  abbrev Holds : LevelAnswers → Type 0
  Holds a = AreFound waits rules (leveled a.level s) a.answers

  abbrev Same : Scenario → Type 0
  Same now = (k : Level) → leveled k now ≡ leveled k s

  pub same_more : (old new : Scenario) (level : Level) → new ≡ leveled level old → Same old → Same new
  same_more old new level is same k = ap (leveled k) is ∙ leveled_twice k level old ∙ same k

  pub levels_more : (at : List LevelAnswers) (a : LevelAnswers) (old new : Scenario) (level : Level) → new ≡ leveled level old → Same old → a.level ≡ level
      → AreFound waits rules new a.answers → All Holds at → All Holds (at ++ a ∷ [])
  levels_more at a old new level is same of found all =
      All-push Holds at a all
      (subst (λ (l : Level). AreFound waits rules (leveled l s) a.answers) (sym of)
      (subst (λ (it : Scenario). AreFound waits rules it a.answers) (is ∙ same level) found))

-- ---- the least that is enough

next_not : (at : List LevelAnswers) (i : ℕ) → i < length at → list_all all_kept (drop i at) ≡ false → enough (drop (suc i) at) ≡ enough (drop i at)
next_not [] i within less = absurd (omega (arith, within))
next_not (a ∷ at) zero within less = rw less refl
next_not (a ∷ at) (suc i) within less = next_not at i (omega (arith, within)) less

pub not_enough : (at : List LevelAnswers) (i : ℕ) → i < length at → list_all all_kept (take (length at - i) (drop i at)) ≡ false
    → enough (drop (i + 1) at) ≡ enough (drop i at)
not_enough at i within less =
    let step : i + 1 ≡ suc i = omega arith in
    ap (λ (n : ℕ). enough (drop n at)) step ∙ next_not at i within (ap (list_all all_kept) (sym (take_rest at i)) ∙ less)
