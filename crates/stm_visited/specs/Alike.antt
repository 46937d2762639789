-- Places that are alike: what can be seen from there on is the same.
use Rattle.std.specs.Prelude.{◌≡◌, ℕ}
use Rattle.stm_visited.specs.Search.{Steps, bad_at, first_bad, goes_on, shown_at}

-- Alike places have the same moves, after the same move they are alike again, both keep the rule or neither does, and they show the same.
pub record Respects (P M O : Type 0) (s : Steps P M O) (Alike : P → P → Type 0) : Type 0 where
  pub moves : (p q : P) → Alike p q → s.moves p ≡ s.moves q
  pub after : (m : M) (p q : P) → Alike p q → Alike (s.after m p) (s.after m q)
  pub keeps : (p q : P) → Alike p q → s.keeps p ≡ s.keeps q
  pub shows : (p q : P) → Alike p q → s.shows p ≡ s.shows q

-- So from alike places the same first schedule breaks the rule, schedules are as long, and whole ones come to the same.
pub record AlikeAreSame (P M O : Type 0) (s : Steps P M O) (Alike : P → P → Type 0) : Type 0 where
  pub bad : (n : ℕ) (p q : P) → Alike p q → bad_at s n p ≡ bad_at s n q
  pub first : (n : ℕ) (p q : P) → Alike p q → first_bad s n p ≡ first_bad s n q
  pub on : (n : ℕ) (p q : P) → Alike p q → goes_on s n p ≡ goes_on s n q
  pub shown : (n : ℕ) (p q : P) → Alike p q → shown_at s n p ≡ shown_at s n q
