-- What a clone of lists has.
use Rattle.std.specs.Prelude.{◌≡◌, ℕ, List, Option, Some, None, IsSomeAnd}
use Rattle.std.specs.List.{AllZip}
use Rattle.stm_lists.specs.Lists.{Lists}

module _ {T : Type 0} (is_clone : T → T → Type 0) where
  -- the same nodes in their order, each with a clone of its value
  abbrev pub AreClones : List (ℕ × T) → List (ℕ × T) → Type 0
  AreClones entries copies = AllZip (λ entry copy. (copy.0 ≡ entry.0) × is_clone entry.1 copy.1) entries copies

  -- there is such a list where there was one
  abbrev pub IsListClone : Option (List (ℕ × T)) → Option (List (ℕ × T)) → Type 0
  IsListClone None copy = copy ≡ None
  IsListClone (Some entries) copy = IsSomeAnd copy (AreClones entries)

  -- every list is cloned, and no push is certain of its room
  pub record AreListClones (s copy : Lists T) : Type 0 where
    pub lists : AllZip IsListClone s.lists copy.lists
    pub spare : copy.spare ≡ 0
