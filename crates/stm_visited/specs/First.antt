-- A move that can be made first: nothing that is made before it makes a difference to it, nor it to that.
use Rattle.std.specs.Prelude.{◌≡◌, ◌⊎◌, true, [], ◌∷◌, Contains}
use Rattle.stm_visited.specs.Search.{Steps}
use Rattle.stm_visited.specs.Alike.{Respects}
use Rattle.stm_visited.specs.Layers.{AreEnough}

-- After another move it can still be made first, that one can still be made after it, and both orders lead to alike places.
pub record CanBeExchanged (P M O : Type 0) (s : Steps P M O) (Alike : P → P → Type 0) (IsFirst : M → P → Type 0) (m other : M) (p : P) : Type 0 where
  pub stays : IsFirst m (s.after other p)
  pub still : Contains (s.moves (s.after m p)) other
  pub alike : Alike (s.after other (s.after m p)) (s.after m (s.after other p))

-- so it is of each move that can be made first
pub record CanBeFirst (P M O : Type 0) (s : Steps P M O) (Alike : P → P → Type 0) (IsFirst : M → P → Type 0) : Type 0 where
  pub is_move : (m : M) (p : P) → IsFirst m p → Contains (s.moves p) m
  pub exchange : (m other : M) (p : P) → IsFirst m p → Contains (s.moves p) other → (m ≡ other) ⊎ CanBeExchanged P M O s Alike IsFirst m other p

-- Where no rule is asked, it is enough to make such a move.
abbrev pub FirstIsEnough : (P M O : Type 0) → Steps P M O → (P → P → Type 0) → (M → P → Type 0) → Type 0
FirstIsEnough P M O s Alike IsFirst =
    Respects P M O s Alike → CanBeFirst P M O s Alike IsFirst → ((p : P) → s.keeps p ≡ true) → (m : M) (p : P) → IsFirst m p → AreEnough P M O s p (m ∷ [])
