-- What is known at the four levels, as loops come to it.
use Rattle.std.proofs.Common.{◌≡◌, ℕ, zero, suc, ◌+◌, ◌-◌, ◌<◌, false, List, [], ◌∷◌, ◌++◌, length, take, drop, All, refl, sym, ap, ◌∙◌, subst, arith}
use Rattle.std.specs.List.{list_all}
use Rattle.std.proofs.lemmas.List.{take_rest}
use Rattle.std.proofs.lemmas.List.Elements.{All-push}
use Rattle.stm_program.specs.declared.level.Level.{Level}
use Rattle.stm_texts.specs.declared.scenario.Scenario.{Scenario}
use Rattle.stm_explore.specs.Orders.{IsSerialAnswer}
use Rattle.stm_exploring.specs.declared.serial_levels.SerialLevel.{SerialLevel}
use Rattle.stm_exploring.specs.Asking.{ends_of, place_of}
use Rattle.stm_exploring.specs.Levels.{leveled}
use Rattle.stm_exploring.specs.SerialLevels.{enough_serial, is_serial}

-- after one more level
module _ (s : Scenario) where
  abbrev Holds : SerialLevel → Type 0
  Holds a = IsSerialAnswer (place_of (leveled a.level s)) (ends_of (leveled a.level s)) a.answer

  pub serial_levels_more : (at : List SerialLevel) (a : SerialLevel) (old new : Scenario) (level : Level) → new ≡ leveled level old →
      ((k : Level) → leveled k old ≡ leveled k s) → a.level ≡ level → IsSerialAnswer (place_of new) (ends_of new) a.answer → All Holds at → All Holds (at ++ a ∷ [])
  serial_levels_more at a old new level is same of found all =
      All-push Holds at a all
      (subst (λ (l : Level). IsSerialAnswer (place_of (leveled l s)) (ends_of (leveled l s)) a.answer) (sym of)
      (subst (λ (it : Scenario). IsSerialAnswer (place_of it) (ends_of it) a.answer) (is ∙ same level) found))

-- ---- the least that is enough

next_not : (at : List SerialLevel) (i : ℕ) → i < length at → list_all is_serial (drop i at) ≡ false → enough_serial (drop (suc i) at) ≡ enough_serial (drop i at)
next_not [] i within less = absurd (omega (arith, within))
next_not (a ∷ at) zero within less = rw less refl
next_not (a ∷ at) (suc i) within less = next_not at i (omega (arith, within)) less

pub not_serial_yet : (at : List SerialLevel) (i : ℕ) → i < length at → list_all is_serial (take (length at - i) (drop i at)) ≡ false
    → enough_serial (drop (i + 1) at) ≡ enough_serial (drop i at)
not_serial_yet at i within less =
    let step : i + 1 ≡ suc i = omega arith in
    ap (λ (n : ℕ). enough_serial (drop n at)) step ∙ next_not at i within (ap (list_all is_serial) (sym (take_rest at i)) ∙ less)
