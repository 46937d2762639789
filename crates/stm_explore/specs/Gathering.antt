-- Outcomes that are gathered, each once.
use Rattle.std.specs.Prelude.{◌≡◌, ◌≢◌, ◌↔◌, ◌⊎◌, List, [], ◌∷◌, ◌++◌, Contains}
use Rattle.std.specs.List.{AllByRecursion}
use Rattle.stm_schedules.specs.declared.outcome.Outcome.{Outcome}
use Rattle.stm_schedules.specs.declared.moves.Move.{Move}

-- no two of these are the same
abbrev pub AreDistinct : {A : Type 0} → List A → Type 0
AreDistinct [] = Unit {0}
AreDistinct (x ∷ xs) = AllByRecursion (λ y. x ≢ y) xs × AreDistinct xs

-- These have come to those that there were, each once.
pub record Gathers (more old new : List Outcome) : Type 0 where
  pub each : (it : Outcome) → Contains new it ↔ (Contains old it ⊎ Contains more it)
  pub distinct : AreDistinct old → AreDistinct new

-- Nothing has come; or, at a place where these moves are left, which are none, an outcome that was not there has, with the path to it.
abbrev pub HasAdded : List Move → Outcome → List Move → List Outcome → List Outcome → List (List Move) → List (List Move) → Type 0
HasAdded left it path old new known more =
    ((new ≡ old) × (more ≡ known)) ⊎ ((left ≡ []) × (Contains old it → ⊥) × (new ≡ old ++ it ∷ []) × (more ≡ known ++ path ∷ []))
