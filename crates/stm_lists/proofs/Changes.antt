-- How the change of one list keeps every other, and what each kind of change makes of the list.
use Rattle.std.proofs.Common.{arith, ◌≡◌, ◌≢◌, ◌⊎◌, ℕ, List, [], ◌∷◌, ◌++◌, Option, Some, None, option_map, refl, sym, ap, subst, ◌∙◌, inl, inr}
use Rattle.std.proofs.lemmas.Bool.{cases_eq, Decides.nat_tests}
use Rattle.std.proofs.lemmas.Option.{same_Some}
use Rattle.slab.specs.Slab.{Slab, get}
use Rattle.stm_lists.specs.Lists.{IsOff, IsApart}
use Rattle.stm_lists.specs.declared.links.Node.{Node}
use Rattle.stm_lists.specs.declared.links.Head.{Head}
use Rattle.stm_lists.specs.Links.{changed, next_set, previous_set}
use Rattle.stm_lists.specs.Chain.{first_or, last_or, IsSegment, IsList, IsOn, owner_at, entries_of, IsSound, Shows}
use Rattle.stm_lists.proofs.Segments.{get-changed_same, get-changed_other, first_or-append, last_or-append, walk-list, parted, segment_off}

module _ {T : Type 0} where
  -- one list is made anew: its head, its entries, and which nodes stand on it; whatever names another list stays
  pub record Rebuilds (nodes : Slab (Node T)) (heads : Slab Head) (new_nodes : Slab (Node T)) (new_heads : Slab Head) (list : ℕ) (h : Head)
      (entries : List (ℕ × T)) : Type 0 where
    pub head : get new_heads list ≡ Some h
    pub other_heads : (other : ℕ) → other ≢ list → get new_heads other ≡ get heads other
    pub made : IsList new_nodes list h entries
    pub kept : (node other : ℕ) → other ≢ list → owner_at nodes node ≡ Some other → get new_nodes node ≡ get nodes node
    pub back : (node other : ℕ) → other ≢ list → owner_at new_nodes node ≡ Some other → owner_at nodes node ≡ Some other
    pub here : (node : ℕ) → owner_at new_nodes node ≡ Some list → IsOn node entries

  -- a segment of another list stays
  segment_kept : (nodes new_nodes : Slab (Node T)) (other : ℕ) (before : Option ℕ) (xs : List (ℕ × T)) (after : Option ℕ)
      → ((node : ℕ) → owner_at nodes node ≡ Some other → get new_nodes node ≡ get nodes node) → IsSegment nodes other before xs after
      → IsSegment new_nodes other before xs after
  unfolding IsSegment
  segment_kept nodes new_nodes other before [] after kept p = tt
  segment_kept nodes new_nodes other before (entry ∷ rest) after kept p =
      (kept entry.0 (ap (option_map (λ (x : Node T). x.list)) p.0) ∙ p.0, segment_kept nodes new_nodes other (Some entry.0) rest after kept p.1)

  pub list_kept : (nodes new_nodes : Slab (Node T)) (other : ℕ) (h : Head) (xs : List (ℕ × T))
      → ((node : ℕ) → owner_at nodes node ≡ Some other → get new_nodes node ≡ get nodes node) → IsList nodes other h xs → IsList new_nodes other h xs
  list_kept nodes new_nodes other h xs kept p = grind (arith, nat_tests, segment_kept)

  module _ (nodes : Slab (Node T)) (heads : Slab Head) (new_nodes : Slab (Node T)) (new_heads : Slab Head) (list : ℕ) (h : Head) (entries : List (ℕ × T)) where
    -- a list that stays is walked as before
    same_walk : IsSound nodes heads → Rebuilds nodes heads new_nodes new_heads list h entries → (other : ℕ) (k : Head) → other ≢ list → get heads other ≡ Some k
        → entries_of new_nodes k ≡ entries_of nodes k
    same_walk sound p other k differs found =
        walk-list new_nodes other k (entries_of nodes k)
        (list_kept nodes new_nodes other k (entries_of nodes k) (λ node. p.kept node other differs) (sound.linked other k found))

    pub rebuilt-sound : IsSound nodes heads → Rebuilds nodes heads new_nodes new_heads list h entries → IsSound new_nodes new_heads
    rebuilt-sound sound p =
        record {
          linked = λ other k found. elim (cases_eq other list) [
            | inl same ↦
                let here : k ≡ h = same_Some k h (sym found ∙ ap (get new_heads) same ∙ p.head) in
                let walked : entries_of new_nodes k ≡ entries = ap (entries_of new_nodes) here ∙ walk-list new_nodes list h entries p.made in
                rw (walked, same, here) p.made
            | inr differs ↦
                let before : get heads other ≡ Some k = sym (p.other_heads other differs) ∙ found in
                rw (same_walk sound p other k differs before)
                (list_kept nodes new_nodes other k (entries_of nodes k) (λ node. p.kept node other differs) (sound.linked other k before))
          ];
          owned = λ node other owns. elim (cases_eq other list) [
            | inl same ↦
                let on : IsOn node entries = p.here node (owns ∙ ap Some same) in
                (h, ap (get new_heads) same ∙ p.head, subst (IsOn node) (sym (walk-list new_nodes list h entries p.made)) on)
            | inr differs ↦
                let found = sound.owned node other (p.back node other differs owns) in
                (found.0, p.other_heads other differs ∙ found.1, subst (IsOn node) (sym (same_walk sound p other found.0 differs found.1)) found.2)
          ];
        }

    pub rebuilt-shows : IsSound nodes heads → Rebuilds nodes heads new_nodes new_heads list h entries → Shows nodes heads new_nodes new_heads list entries
    rebuilt-shows sound p = grind (arith, nat_tests, walk-list, same_walk)

  -- a change that keeps what a node's list is
  owner-changed : (s : Slab (Node T)) (key : ℕ) (f : Node T → Node T) → ((x : Node T) → (f x).list ≡ x.list) → (node : ℕ)
      → owner_at (changed s key f) node ≡ owner_at s node
  owner-changed s key f keeps node = grind (arith, get-changed_same, get-changed_other, keeps)

  pub owner-next_set : (s : Slab (Node T)) (link to : Option ℕ) (node : ℕ) → owner_at (next_set s link to) node ≡ owner_at s node
  owner-next_set s link to node = grind (arith, nat_tests, owner-changed)

  pub owner-previous_set : (s : Slab (Node T)) (link to : Option ℕ) (node : ℕ) → owner_at (previous_set s link to) node ≡ owner_at s node
  owner-previous_set s link to node = grind (arith, nat_tests, owner-changed)

  -- a node that the link does not name stays
  pub get-next_set : (s : Slab (Node T)) (link to : Option ℕ) (node : ℕ) → ((key : ℕ) → link ≡ Some key → node ≢ key)
      → get (next_set s link to) node ≡ get s node
  get-next_set s link to node differs = grind (arith, nat_tests, get-changed_other)

  pub get-previous_set : (s : Slab (Node T)) (link to : Option ℕ) (node : ℕ) → ((key : ℕ) → link ≡ Some key → node ≢ key)
      → get (previous_set s link to) node ≡ get s node
  get-previous_set s link to node differs = grind (arith, nat_tests, get-changed_other)

  -- a segment that does not hold the named node stays
  pub segment-next_set : (s : Slab (Node T)) (link to : Option ℕ) (list : ℕ) (before : Option ℕ) (xs : List (ℕ × T)) (after : Option ℕ)
      → ((key : ℕ) → link ≡ Some key → IsOff key xs) → IsSegment s list before xs after → IsSegment (next_set s link to) list before xs after
  segment-next_set s None to list before xs after off p = p
  segment-next_set s (Some key) to list before xs after off p =
      segment_off s _ list before xs after key (λ m differs. get-changed_other s key m _ differs) (off key refl) p

  pub segment-previous_set : (s : Slab (Node T)) (link to : Option ℕ) (list : ℕ) (before : Option ℕ) (xs : List (ℕ × T)) (after : Option ℕ)
      → ((key : ℕ) → link ≡ Some key → IsOff key xs) → IsSegment s list before xs after → IsSegment (previous_set s link to) list before xs after
  segment-previous_set s None to list before xs after off p = p
  segment-previous_set s (Some key) to list before xs after off p =
      segment_off s _ list before xs after key (λ m differs. get-changed_other s key m _ differs) (off key refl) p

  -- the last node of a segment gets another follower
  relast : (s : Slab (Node T)) (list : ℕ) (before : Option ℕ) (front : List (ℕ × T)) (node : ℕ) (value : T) (after to : Option ℕ) → IsOff node front
      → IsSegment s list before (front ++ (node, value) ∷ []) after → IsSegment (next_set s (Some node) to) list before (front ++ (node, value) ∷ []) to
  unfolding IsSegment
  relast s list before [] node value after to off p = grind (arith, nat_tests, get-changed_same)
  relast s list before (entry ∷ rest) node value after to off p =
      grind (arith, nat_tests, first_or-append, get-changed_other, relast s list (Some entry.0) rest node value after to off.1 p.1)

  -- a list is empty or has a last node
  snoc_cases : (xs : List (ℕ × T)) → (xs ≡ []) ⊎ ((front : List (ℕ × T)) × (last : ℕ × T) × (xs ≡ front ++ last ∷ []))
  snoc_cases [] = inl refl
  snoc_cases (entry ∷ rest) =
      elim (snoc_cases rest) [
        | inl empty ↦ inr ([], entry, ap (λ more. entry ∷ more) empty)
        | inr more ↦ inr (entry ∷ more.0, more.1, ap (λ more. entry ∷ more) more.2)
      ]

  -- so does the last node of a whole front part, or nothing where it is empty
  pub segment-relast : (s : Slab (Node T)) (list : ℕ) (xs : List (ℕ × T)) (after to : Option ℕ) → IsApart xs → IsSegment s list None xs after
      → IsSegment (next_set s (last_or None xs) to) list None xs to
  unfolding IsSegment
  segment-relast s list xs after to distinct p =
      elim (snoc_cases xs) [
        | inl empty ↦ rw empty tt
        | inr split ↦
            let last : last_or None xs ≡ Some split.1.0 = ap (last_or None) split.2 ∙ last_or-append None split.0 (split.1 ∷ []) in
            let off = parted split.0 [] split.1.0 split.1.1 (subst IsApart split.2 distinct) in
            rw (last, split.2) (relast s list None split.0 split.1.0 split.1.1 after to off.off_before
            (subst (λ (ys : List (ℕ × T)). IsSegment s list None ys after) split.2 p))
      ]

  -- the first node of a back part gets another predecessor
  pub segment-refirst : (s : Slab (Node T)) (list : ℕ) (before to : Option ℕ) (xs : List (ℕ × T)) → IsApart xs → IsSegment s list before xs None
      → IsSegment (previous_set s (first_or xs None) to) list to xs None
  unfolding IsSegment
  segment-refirst s list before to xs distinct p = grind (arith, nat_tests, get-changed_same, segment_off, get-changed_other)
