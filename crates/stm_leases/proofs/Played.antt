-- What the root of a played tournament holds.
use Rattle.std.proofs.Common.{◌≡◌, ◌⊎◌, ℕ, zero, suc, ◌+◌, ◌-◌, ◌*◌, ◌/◌, ◌<◌, ◌≤◌, List, Option, Some, None, refl, sym, ap, subst, ◌∙◌, inl, inr, arith}
use Rattle.std.proofs.lemmas.Bool.{cases_lt, cases_eq, eqb-true, eqb-false, ltb-true, ltb-false, Decides.nat_tests}
use Rattle.std.proofs.lemmas.List.{get_or_past}
use Rattle.std.proofs.lemmas.Option.{same_Some}
use Rattle.stm_leases.specs.declared.tournament.DueAt.{DueAt}
use Rattle.stm_leases.specs.Tournament.{first_of, winner, node_in, ArePlayedBut, NoLater}

abbrev Nodes : Type 0
Nodes = List (Option DueAt)

-- the earlier of two is one of them, and no later than either
pub record IsEarlier (one other chosen : DueAt) : Type 0 where
  pub among : (chosen ≡ one) ⊎ (chosen ≡ other)
  pub over_one : NoLater chosen one
  pub over_other : NoLater chosen other

chosen : (one other : DueAt) → IsEarlier one other (first_of one other)
chosen one other = grind (arith, nat_tests, ltb-true, eqb-true, ltb-false, eqb-false)

no_later-trans : (a b c : DueAt) → NoLater a b → NoLater b c → NoLater a c
no_later-trans a b c p q = grind (arith, nat_tests)

-- what a child holds, the winner is no later than
pub record HasLead (o : Option DueAt) (d : DueAt) : Type 0 where
  pub lead : DueAt
  pub is : o ≡ Some lead
  pub no_later : NoLater lead d

won_right : (o r : Option DueAt) (d : DueAt) → r ≡ Some d → HasLead (winner o r) d
won_right o r d is = grind (arith, nat_tests, same_Some, chosen)

-- the winner is one of the two
won_from : (o r : Option DueAt) (d : DueAt) → winner o r ≡ Some d → (o ≡ Some d) ⊎ (r ≡ Some d)
won_from o r d is = grind (arith, nat_tests, chosen)

module _ (xs : Nodes) (slots : ℕ) (played : ArePlayedBut xs slots 0) where
  -- the node above has a lead over what a node holds
  above : (k : ℕ) (d : DueAt) → 2 ≤ k → k < 2 * slots → node_in xs k ≡ Some d → HasLead (node_in xs (k / 2)) d
  above k d inner within is = grind (arith, nat_tests, cases_eq, won_right, same_Some, chosen)

  -- the root has a lead over what any node holds
  root_leads : (fuel k : ℕ) (d : DueAt) → k ≤ fuel → 1 ≤ k → k < 2 * slots → node_in xs k ≡ Some d → HasLead (node_in xs 1) d
  root_leads zero k d enough inner within is = absurd (omega arith)
  root_leads (suc fuel) k d enough inner within is = by_place (cases_lt 1 k) (root_leads fuel)
    where
      by_place : (1 < k) ⊎ (k ≤ 1) → ((j : ℕ) (e : DueAt) → j ≤ fuel → 1 ≤ j → j < 2 * slots → node_in xs j ≡ Some e → HasLead (node_in xs 1) e)
          → HasLead (node_in xs 1) d
      by_place (inr root) rest =
          let place : k ≡ 1 = omega arith in
          record { lead = d; is = ap (node_in xs) (sym place) ∙ is; no_later = (omega arith, λ same. omega arith) }
      by_place (inl deeper) rest =
          let up = above k d (omega arith) within is in
          let top = rest (k / 2) up.lead (omega arith) (omega arith) (omega arith) up.is in
          record { lead = top.lead; is = top.is; no_later = no_later-trans top.lead up.lead d top.no_later up.no_later }

  -- what a node holds stands in some slot
  stands : (fuel k : ℕ) (d : DueAt) → 2 * slots ≤ k + fuel → 1 ≤ k → k < 2 * slots → node_in xs k ≡ Some d → (slot : ℕ) × (node_in xs (slots + slot) ≡ Some d)
  stands zero k d enough inner within is = absurd (omega arith)
  stands (suc fuel) k d enough inner within is = by_place (cases_lt k slots) (stands fuel)
    where
      by_place : (k < slots) ⊎ (slots ≤ k)
          → ((j : ℕ) (e : DueAt) → 2 * slots ≤ j + fuel → 1 ≤ j → j < 2 * slots → node_in xs j ≡ Some e → (slot : ℕ) × (node_in xs (slots + slot) ≡ Some e)) →
          (slot : ℕ) × (node_in xs (slots + slot) ≡ Some d)
      by_place (inr leaf) rest = (k - slots, let place : slots + (k - slots) ≡ k = omega arith in ap (node_in xs) place ∙ is)
      by_place (inl inside) rest = elim (won_from (node_in xs (2 * k)) (node_in xs (2 * k + 1)) d (sym (played.won k inner inside (omega arith)) ∙ is)) [
        | inl left ↦ rest (2 * k) d (omega arith) (omega arith) (omega arith) left
        | inr right ↦ rest (2 * k + 1) d (omega arith) (omega arith) (omega arith) right
      ]

  -- the root over each slot
  slot_below : (slot : ℕ) (d : DueAt) → node_in xs (slots + slot) ≡ Some d → HasLead (node_in xs 1) d
  slot_below slot d is = by_bound (cases_lt (slots + slot) (2 * slots))
    where
      by_bound : (slots + slot < 2 * slots) ⊎ (2 * slots ≤ slots + slot) → HasLead (node_in xs 1) d
      by_bound (inl within) = root_leads (slots + slot) (slots + slot) d (omega arith) (omega arith) within is
      by_bound (inr past) = let size = played.size in let none : None ≡ Some d = sym (get_or_past xs (slots + slot) None (omega arith)) ∙ is in absurd (cc)

  pub root_of_slots : (d : DueAt) → 0 < slots → node_in xs 1 ≡ Some d → (slot : ℕ) × (node_in xs (slots + slot) ≡ Some d)
  root_of_slots d some is = stands (2 * slots) 1 d (omega arith) (omega arith) (omega arith) is

  pub root_is_first : (d : DueAt) → node_in xs 1 ≡ Some d → (slot : ℕ) (other : DueAt) → node_in xs (slots + slot) ≡ Some other → NoLater d other
  root_is_first d root slot other is =
      let top = slot_below slot other is in
      subst (λ (x : DueAt). NoLater x other) (same_Some top.lead d (sym top.is ∙ root)) top.no_later

  pub empty_root : node_in xs 1 ≡ None → (slot : ℕ) → node_in xs (slots + slot) ≡ None
  empty_root root slot = by_slot (node_in xs (slots + slot)) refl
    where
      by_slot : (o : Option DueAt) → node_in xs (slots + slot) ≡ o → o ≡ None
      by_slot None is = refl
      by_slot (Some d) is = let top = slot_below slot d is in let never : None ≡ Some top.lead = sym root ∙ top.is in absurd (cc)
