-- What contracts see of `Lists`: the lists themselves, as lists of nodes with their values.
use Rattle.std.specs.Prelude.{◌≡◌, ◌≢◌, ℕ, List, [], ◌∷◌, ◌++◌, Option, Some, None, IsSome, unwrap_or, slice_index_or, slice_set, refl}
use Rattle.std.specs.Coded.{Coded, code_by, coded×, coded_ℕ, coded_list, coded_option}

-- the nodes of each list from front to back, each with its value, where the list with number n
-- stands at n; and how many pushes are certain not to fail
pub record Lists (T : Type 0) : Type 0 where
  pub lists : List (Option (List (ℕ × T)))
  pub spare : ℕ

-- the lists are stored as the pair of the fields
abbrev pub lists_code : {T : Type 0} → Coded T → Coded (Lists T)
lists_code {T} code =
    code_by
    (List (Option (List (ℕ × T))) × ℕ)
    (coded× (coded_list (coded_option (coded_list (coded× coded_ℕ code)))) coded_ℕ)
    (λ s. (s.lists, s.spare))
    (λ p. record { lists = p.0; spare = p.1 })
    (λ _. refl)

-- a place on a list: the list, what stands before the place, the value there, and what stands after
pub record Place (T : Type 0) : Type 0 where
  pub list : ℕ
  pub before : List (ℕ × T)
  pub value : T
  pub after : List (ℕ × T)

module _ {T : Type 0} where
  -- the nodes of a list with their values, or nothing where there is no such list
  abbrev pub list_at : Lists T → ℕ → Option (List (ℕ × T))
  list_at s list = slice_index_or s.lists list None

  -- the same, where a list that is not there has no nodes
  abbrev pub entries_at : Lists T → ℕ → List (ℕ × T)
  entries_at s list = unwrap_or (list_at s list) []

  -- there is such a list
  abbrev pub HasList : Lists T → ℕ → Type 0
  HasList s list = IsSome (list_at s list)

  -- the node stands at this place
  pub record StandsAt (s : Lists T) (node : ℕ) (place : Place T) : Type 0 where
    pub stands : list_at s place.list ≡ Some (place.before ++ (node, place.value) ∷ place.after)

  -- the node stands on some list
  abbrev pub HasNode : Lists T → ℕ → Type 0
  HasNode s node = (place : Place T) × StandsAt s node place

  -- the node at the front, if there is one
  abbrev pub first_node : List (ℕ × T) → Option ℕ
  first_node [] = None
  first_node (entry ∷ rest) = Some entry.0

  -- the node at the back, if there is one
  abbrev pub last_node : List (ℕ × T) → Option ℕ
  last_node [] = None
  last_node (entry ∷ []) = Some entry.0
  last_node (entry ∷ (next ∷ rest)) = last_node (next ∷ rest)

  -- the node is not among these
  abbrev pub IsOff : ℕ → List (ℕ × T) → Type 0
  IsOff node [] = Unit {0}
  IsOff node (entry ∷ rest) = (entry.0 ≢ node) × IsOff node rest

  -- no node stands twice among these
  abbrev pub IsApart : List (ℕ × T) → Type 0
  IsApart [] = Unit {0}
  IsApart (entry ∷ rest) = IsOff entry.0 rest × IsApart rest

  -- the new lists have these entries as this list (or nothing: it is gone), and every other list is what it was
  pub record Updates (old new : Lists T) (list : ℕ) (entries : Option (List (ℕ × T))) : Type 0 where
    pub changed : list_at new list ≡ entries
    pub others : (other : ℕ) → other ≢ list → list_at new other ≡ list_at old other

  -- the lists with other entries for one list
  abbrev pub with_entries : Lists T → ℕ → List (ℕ × T) → Lists T
  with_entries s list entries = record s { lists = slice_set s.lists list (Some entries) }

  -- the node left its place for the back of this list, and nothing else changed
  abbrev pub MovesToBack : Lists T → Lists T → ℕ → Place T → ℕ → Type 0
  MovesToBack old new node place list =
      let left = with_entries old place.list (place.before ++ place.after) in
      Updates left new list (Some (entries_at left list ++ (node, place.value) ∷ []))
