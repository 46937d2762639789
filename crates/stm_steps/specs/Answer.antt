-- What a look-up says of a key.
use Rattle.std.specs.Prelude.{◌≡◌, ℕ, List, Option, Some}

-- the value and the modification revision of a key, "" and 0 of an absent one
pub record Answer : Type 0 where
  pub value : List ℕ
  pub mod_rev : ℕ

-- a look-up answers a key, or knows nothing of it
abbrev pub Lookup : Type 0
Lookup = List ℕ → Option Answer

-- each answer of the first look-up is that of the second, in value and modification revision
abbrev pub AgreesWith : Lookup → Lookup → Type 0
AgreesWith answers whole = (key : List ℕ) (a : Answer) → answers key ≡ Some a → whole key ≡ Some a
