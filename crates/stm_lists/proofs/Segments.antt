-- Lemmas on the parts of a list: how they join and divide, that no node stands twice, and which changes they survive.
use Rattle.std.proofs.Common.{◌≡◌, ◌≢◌, ◌⊎◌, ℕ, suc, ◌≤◌, List, [], ◌∷◌, ◌++◌, length, Option, Some, None, option_map, refl, sym, ap, subst, ◌∙◌, inl}
use Rattle.std.proofs.Common.{inr, arith}
use Rattle.std.proofs.lemmas.List.{get_or-set_same, get_or-set_other, get_or_past, length-set}
use Rattle.std.proofs.lemmas.Option.{same_Some}
use Rattle.std.proofs.lemmas.Bool.Decides.{nat_tests}
use Rattle.slab.specs.Slab.{Slab, get}
use Rattle.stm_lists.specs.Lists.{IsOff, IsApart}
use Rattle.stm_lists.specs.declared.links.Node.{Node}
use Rattle.stm_lists.specs.declared.links.Head.{Head}
use Rattle.stm_lists.specs.Links.{changed}
use Rattle.stm_lists.specs.Chain.{first_or, last_or, walk, IsSegment, IsList, IsOn, owner_at}

-- what a changed key has
pub get-changed_same : {X : Type 0} (s : Slab X) (key : ℕ) (f : X → X) → get (changed s key f) key ≡ option_map f (get s key)
get-changed_same s key f = grind (arith, get_or-set_same, get_or-set_other, get_or_past, length-set)

-- every other key keeps what it had
pub get-changed_other : {X : Type 0} (s : Slab X) (key other : ℕ) (f : X → X) → other ≢ key → get (changed s key f) other ≡ get s other
get-changed_other s key other f differs = get_or-set_other s.slots key other (option_map f (get s key)) None differs

module _ {T : Type 0} where
  pub off-on : (node : ℕ) (xs : List (ℕ × T)) → IsOff node xs → IsOn node xs → ⊥
  off-on node [] off on = on
  off-on node (entry ∷ rest) off on = elim on [ inl here ↦ off.0 here | inr there ↦ off-on node rest off.1 there ]

  pub off-append : (node : ℕ) (xs ys : List (ℕ × T)) → IsOff node (xs ++ ys) → IsOff node xs × IsOff node ys
  off-append node [] ys off = (tt, off)
  off-append node (entry ∷ rest) ys off = grind (arith, off-append node rest ys)

  pub first_or-append : (xs ys : List (ℕ × T)) (after : Option ℕ) → first_or (xs ++ ys) after ≡ first_or xs (first_or ys after)
  first_or-append xs ys after = grind (arith, nat_tests)

  pub last_or-append : (before : Option ℕ) (xs ys : List (ℕ × T)) → last_or before (xs ++ ys) ≡ last_or (last_or before xs) ys
  last_or-append before [] ys = refl
  last_or-append before (entry ∷ rest) ys = last_or-append (Some entry.0) rest ys

  -- where there is a node, the last one is a node
  pub last_or-some : (node : ℕ) (xs : List (ℕ × T)) → (m : ℕ) × (last_or (Some node) xs ≡ Some m)
  last_or-some node [] = (node, refl)
  last_or-some node (entry ∷ rest) = last_or-some entry.0 rest

  pub last_is_on : (before : Option ℕ) (xs : List (ℕ × T)) (m : ℕ) → last_or before xs ≡ Some m → (before ≡ Some m) ⊎ IsOn m xs
  last_is_on before [] m is = inl is
  last_is_on before (entry ∷ rest) m is = grind (arith, last_is_on (Some entry.0) rest m)

  pub first_is_on : (xs : List (ℕ × T)) (m : ℕ) → first_or xs None ≡ Some m → IsOn m xs
  first_is_on xs m is = grind (arith, nat_tests, same_Some)

  -- a segment divides
  pub segment-append : (s : Slab (Node T)) (list : ℕ) (before : Option ℕ) (xs ys : List (ℕ × T)) (after : Option ℕ) → IsSegment s list before (xs ++ ys) after
      → IsSegment s list before xs (first_or ys after) × IsSegment s list (last_or before xs) ys after
  unfolding IsSegment
  segment-append s list before [] ys after p = (tt, p)
  segment-append s list before (entry ∷ rest) ys after p = grind (arith, nat_tests, first_or-append, segment-append s list (Some entry.0) rest ys after p.1)

  -- two segments that fit join
  pub append-segment : (s : Slab (Node T)) (list : ℕ) (before : Option ℕ) (xs ys : List (ℕ × T)) (after : Option ℕ)
      → IsSegment s list before xs (first_or ys after) → IsSegment s list (last_or before xs) ys after → IsSegment s list before (xs ++ ys) after
  unfolding IsSegment
  append-segment s list before [] ys after p q = q
  append-segment s list before (entry ∷ rest) ys after p q = grind (arith, nat_tests, first_or-append, append-segment s list (Some entry.0) rest ys after p.1 q)

  -- one step of a walk
  walk-step : (s : Slab (Node T)) (count node : ℕ) (x : Node T) → get s node ≡ Some x → walk s (suc count) (Some node) ≡ (node, x.value) ∷ walk s count x.next
  unfolding walk
  walk-step s count node x found = grind (arith, nat_tests)

  -- a walk along a list finds its entries
  pub walk-segment : (s : Slab (Node T)) (list : ℕ) (before : Option ℕ) (xs : List (ℕ × T)) → IsSegment s list before xs None
      → walk s (length xs) (first_or xs None) ≡ xs
  unfolding IsSegment walk
  walk-segment s list before [] p = refl
  walk-segment s list before (entry ∷ rest) p = grind (arith, nat_tests, walk-step, walk-segment s list (Some entry.0) rest p.1)

  pub walk-list : (s : Slab (Node T)) (list : ℕ) (h : Head) (xs : List (ℕ × T)) → IsList s list h xs → walk s h.len h.first ≡ xs
  walk-list s list h xs p = rw (p.len, p.first) (walk-segment s list None xs p.linked)

  -- each node of a segment names its list
  pub segment_owner : (s : Slab (Node T)) (list : ℕ) (before : Option ℕ) (xs : List (ℕ × T)) (after : Option ℕ) (node : ℕ) → IsSegment s list before xs after
      → IsOn node xs → owner_at s node ≡ Some list
  unfolding IsSegment
  segment_owner s list before [] after node p on = absurd on
  segment_owner s list before (entry ∷ rest) after node p on = grind (arith, segment_owner s list (Some entry.0) rest after node)

  -- from one node on there is one way to the end
  pub same_way : (s : Slab (Node T)) (list : ℕ) (b c : Option ℕ) (xs ys : List (ℕ × T)) → IsSegment s list b xs None → IsSegment s list c ys None
      → first_or xs None ≡ first_or ys None → length xs ≡ length ys
  unfolding IsSegment
  same_way s list b c [] [] p q same = refl
  same_way s list b c [] (y ∷ ys) p q same = absurd (cc)
  same_way s list b c (x ∷ xs) [] p q same = absurd (cc)
  same_way s list b c (x ∷ xs) (y ∷ ys) p q same =
      let node = same_Some x.0 y.0 same in
      let links : ◌≡◌ {A = Option (Option ℕ)} (Some (first_or xs None)) (Some (first_or ys None)) =
      sym (ap (option_map (λ (x : Node T). x.next)) p.0) ∙ ap (λ n. option_map (λ (x : Node T). x.next) (get s n)) node
      ∙ ap (option_map (λ (x : Node T). x.next)) q.0 in
      ap suc (same_way s list (Some x.0) (Some y.0) xs ys p.1 q.1 (same_Some _ _ links))

  -- a node is not among those after it
  off_later : (s : Slab (Node T)) (list : ℕ) (b c : Option ℕ) (entry : ℕ × T) (rest post : List (ℕ × T)) → IsSegment s list b (entry ∷ rest) None
      → IsSegment s list c post None → length post ≤ length rest → IsOff entry.0 post
  unfolding IsSegment
  off_later s list b c entry rest [] p q shorter = tt
  off_later s list b c entry rest (x ∷ post) p q shorter = grind (arith, nat_tests, same_way, off_later s list b (Some x.0) entry rest post p q.1 (omega arith))

  -- no node stands twice on a list
  pub apart : (s : Slab (Node T)) (list : ℕ) (before : Option ℕ) (xs : List (ℕ × T)) → IsSegment s list before xs None → IsApart xs
  unfolding IsSegment
  apart s list before [] p = tt
  apart s list before (entry ∷ rest) p = (
    off_later s list before (Some entry.0) entry rest rest p p.1 (omega arith),
    apart s list (Some entry.0) rest p.1,
  )

  -- what it says of a node between two parts that no node stands twice
  pub record IsParted (before : List (ℕ × T)) (node : ℕ) (after : List (ℕ × T)) : Type 0 where
    pub before_apart : IsApart before
    pub after_apart : IsApart after
    pub off_before : IsOff node before
    pub off_after : IsOff node after
    pub before_off_after : (m : ℕ) → IsOn m before → IsOff m after
    pub after_off_before : (m : ℕ) → IsOn m after → IsOff m before

  pub parted : (before after : List (ℕ × T)) (node : ℕ) (value : T) → IsApart (before ++ (node, value) ∷ after) → IsParted before node after
  parted [] after node value p =
      record {
        before_apart = tt;
        after_apart = p.1;
        off_before = tt;
        off_after = p.0;
        before_off_after = λ m on. absurd on;
        after_off_before = λ m on. tt;
      }
  parted (entry ∷ before) after node value p =
      let more = parted before after node value p.1 in
      let off = off-append entry.0 before ((node, value) ∷ after) p.0 in
      record {
        before_apart = (off.0, more.before_apart);
        after_apart = more.after_apart;
        off_before = (λ same. off.1.0 (sym same), more.off_before);
        off_after = more.off_after;
        before_off_after = λ m on. elim on [
          | inl here ↦ subst (λ (k : ℕ). IsOff k after) here off.1.1
          | inr there ↦ more.before_off_after m there
        ];
        after_off_before = λ m on. (λ same. off-on m after (subst (λ (k : ℕ). IsOff k after) same off.1.1) on, more.after_off_before m on);
      }

  -- a segment survives a change that is made at another node
  pub segment_off : (s t : Slab (Node T)) (list : ℕ) (before : Option ℕ) (xs : List (ℕ × T)) (after : Option ℕ) (node : ℕ)
      → ((m : ℕ) → m ≢ node → get t m ≡ get s m) → IsOff node xs → IsSegment s list before xs after → IsSegment t list before xs after
  unfolding IsSegment
  segment_off s t list before [] after node same off p = tt
  segment_off s t list before (entry ∷ rest) after node same off p =
      (same entry.0 off.0 ∙ p.0, segment_off s t list (Some entry.0) rest after node same off.1 p.1)
