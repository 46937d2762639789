-- How many nodes there are: a change of a node's links keeps the number, and no list is longer.
use Rattle.std.proofs.Common.{◌≡◌, ℕ, ◌≤◌, List, [], ◌∷◌, length, Option, Some, None, is_some, get_or, set, cond, count_by, ◌∙◌, arith}
use Rattle.std.proofs.lemmas.Bool.{cases_lt, Decides.nat_tests}
use Rattle.std.proofs.lemmas.List.{get_or-set_other, get_or_past, set_past}
use Rattle.std.proofs.lemmas.List.Sums.{sum_by-set}
use Rattle.slab.specs.Slab.{Slab, slab_len}
use Rattle.stm_lists.specs.Lists.{IsOff, IsApart}
use Rattle.stm_lists.specs.declared.links.Node.{Node}
use Rattle.stm_lists.specs.Links.{changed, next_set, previous_set}
use Rattle.stm_lists.specs.Chain.{IsSegment}
use Rattle.stm_lists.proofs.Segments.{apart}

-- one for a value
abbrev pub weight : {X : Type 0} → Option X → ℕ
weight o = cond (is_some o) 1 0

pub slab_len-changed : {X : Type 0} (s : Slab X) (key : ℕ) (f : X → X) → slab_len (changed s key f) ≡ slab_len s
slab_len-changed {X} s key f = grind (arith, nat_tests, cases_lt, sum_by-set, set_past)

module _ {T : Type 0} where
  pub slab_len-next_set : (s : Slab (Node T)) (link to : Option ℕ) → slab_len (next_set s link to) ≡ slab_len s
  slab_len-next_set s link to = grind (arith, nat_tests, slab_len-changed)

  pub slab_len-previous_set : (s : Slab (Node T)) (link to : Option ℕ) → slab_len (previous_set s link to) ≡ slab_len s
  slab_len-previous_set s link to = grind (arith, nat_tests, slab_len-changed)

  pub capacity-next_set : (s : Slab (Node T)) (link to : Option ℕ) → (next_set s link to).capacity ≡ s.capacity
  capacity-next_set s link to = grind (arith, nat_tests)

  pub capacity-previous_set : (s : Slab (Node T)) (link to : Option ℕ) → (previous_set s link to).capacity ≡ s.capacity
  capacity-previous_set s link to = grind (arith, nat_tests)

  pub vacant_key-next_set : (s : Slab (Node T)) (link to : Option ℕ) → (next_set s link to).vacant_key ≡ s.vacant_key
  vacant_key-next_set s link to = grind (arith, nat_tests)

  pub vacant_key-previous_set : (s : Slab (Node T)) (link to : Option ℕ) → (previous_set s link to).vacant_key ≡ s.vacant_key
  vacant_key-previous_set s link to = grind (arith, nat_tests)

  -- each of these nodes is in its slot
  abbrev AllThere : List (Option (Node T)) → List (ℕ × T) → Type 0
  AllThere slots [] = Unit {0}
  AllThere slots (entry ∷ rest) = ((x : Node T) × (get_or slots entry.0 None ≡ Some x)) × AllThere slots rest

  all_there : (s : Slab (Node T)) (list : ℕ) (before : Option ℕ) (xs : List (ℕ × T)) (after : Option ℕ) → IsSegment s list before xs after → AllThere s.slots xs
  unfolding IsSegment
  all_there s list before [] after p = tt
  all_there s list before (entry ∷ rest) after p = ((_, p.0), all_there s list (Some entry.0) rest after p.1)

  -- taking out another node leaves these
  there_off : (slots : List (Option (Node T))) (key : ℕ) (xs : List (ℕ × T)) → IsOff key xs → AllThere slots xs → AllThere (set slots key None) xs
  there_off slots key [] off p = tt
  there_off slots key (entry ∷ rest) off p =
      ((p.0.0, get_or-set_other slots key entry.0 None None off.0 ∙ p.0.1), there_off slots key rest off.1 p.1)

  no_more : (slots : List (Option (Node T))) (xs : List (ℕ × T)) → IsApart xs → AllThere slots xs → length xs ≤ count_by is_some slots
  no_more slots [] distinct p = omega arith
  no_more slots (entry ∷ rest) distinct p =
      grind (arith, nat_tests, there_off, cases_lt, sum_by-set, get_or_past, no_more (set slots entry.0 None) rest distinct.1 (there_off slots entry.0 rest distinct.0 p.1))

  -- a list has no more nodes than there are
  pub length-segment : (s : Slab (Node T)) (list : ℕ) (before : Option ℕ) (xs : List (ℕ × T)) → IsSegment s list before xs None → length xs ≤ slab_len s
  length-segment s list before xs p = no_more s.slots xs (apart s list before xs p) (all_there s list before xs None p)
