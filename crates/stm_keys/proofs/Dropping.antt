-- One revision after another is dropped.
use Rattle.std.proofs.Common.{◌≡◌, ℕ, ◌+◌, ◌≤◌, ◌<◌, ◌∙◌, ◌∷◌, ◌++◌, [], List, Option, true, refl, sym, ap, subst, arith, length, reverse, is_some}
use Rattle.std.specs.HashMap.{HashMap}
use Rattle.std.specs.declared.string.String.{String}
use Rattle.std.proofs.lemmas.List.{reverse-append}
use Rattle.std.proofs.lemmas.Bool.Decides.{nat_tests}
use Rattle.indexmap.specs.IndexMap.{get_by_text}
use Rattle.stm_history.specs.declared.key_state.KeyState.{KeyState}
use Rattle.stm_history.specs.History.{History, now, key_after}
use Rattle.stm_history.specs.Cut.{cut}
use Rattle.stm_history.proofs.CutLaws.{cut_twice, cut_keeps_now, cut_at_the_opening}
use Rattle.stm_keys.specs.declared.event.Event.{Event}
use Rattle.stm_keys.specs.Events.{event_about}
use Rattle.stm_keys.specs.Keys.{Contents, IsKept, changes_of, without_up_to}
use Rattle.stm_keys.specs.Chains.{Chain, versions_in, versions_of, forgotten, DropsAbsent, StandFirst, present_among, names_of, opening_of}
use Rattle.stm_keys.proofs.Forgetting.{forgotten_kept, key_same, next_opened, next_history, has_oldest}
use Rattle.stm_keys.proofs.Order.{same_presence}
use Rattle.stm_keys.proofs.Walked.{seen, unchanged_key}

-- contents with another history
with_history : Contents → History → Contents
with_history c h = record { history = h; present = c.present; opened = c.opened; floor = c.floor }

-- to drop the oldest revision and then the rest is to drop all
pub dropped_on : (c next : Contents) (number : ℕ) → next ≡ without_up_to (c.history.opening.number + 1) c → c.history.opening.number < number →
    number ≤ now c.history → (number ≤ now next.history) × (without_up_to number next ≡ without_up_to number c)
unfolding with_history
dropped_on c next number is less reached = grind (arith, nat_tests, cut_keeps_now, with_history, cut_twice)

-- where all up to the number are gone nothing is dropped
pub dropped_none : (c : Contents) (number : ℕ) → number ≤ c.history.opening.number → without_up_to number c ≡ c
unfolding with_history
dropped_none c number le = ap (with_history c) (cut_at_the_opening c.history number le)

-- the oldest revision is forgotten: its events, in the chains, and then the revision itself
pub reversed_front : (xs rest : List (List Event)) (x : List Event) → xs ≡ x ∷ rest → reverse xs ≡ reverse rest ++ x ∷ []
reversed_front xs rest x is = ap reverse is ∙ reverse-append (x ∷ []) rest

-- its keys have versions
pub have_versions : {Y S : Type 0} (m : HashMap (String Y) Chain S) (below : ℕ) (xs rest : List (List Event)) (oldest : List Event) → xs ≡ oldest ∷ rest →
    IsKept (opening_of below m) (reverse xs) (get_by_text m) → (k : List ℕ) → is_some (event_about k oldest) ≡ true →
    0 < length (versions_in (get_by_text m k)).numbers
have_versions m below xs rest oldest is kept k some =
    subst (λ v. 0 < length v.numbers)
    (sym (kept.versions k ∙ ap (versions_of (opening_of below m) k) (reversed_front xs rest oldest is)))
    (has_oldest (opening_of below m) k (reverse rest) oldest some)

module _ {Y S R : Type 0} (m : HashMap (String Y) Chain S) (n : HashMap (String Y) Chain R) (below opened floor present : ℕ) (xs rest : List (List Event))
    (oldest : List Event) (is : xs ≡ oldest ∷ rest) (kept : IsKept (opening_of below m) (reverse xs) (get_by_text m))
    (reported : (k : List ℕ) → versions_in (get_by_text n k) ≡ forgotten (event_about k oldest) (versions_in (get_by_text m k)))
    (first : StandFirst (λ key. is_some (key_after (opening_of below m) key (changes_of (reverse xs)))) present (names_of m))
    (drops : DropsAbsent (λ k. versions_in (get_by_text n k)) (names_of m) (names_of n)) (low : floor ≤ below + length xs) where
  kept_whole : IsKept (opening_of below m) (reverse rest ++ oldest ∷ []) (get_by_text m)
  kept_whole = subst (λ (l : List (List Event)). IsKept (opening_of below m) l (get_by_text m)) (reversed_front xs rest oldest is) kept

  kept_next : IsKept (opening_of (below + 1) n) (reverse rest) (get_by_text n)
  kept_next =
      forgotten_kept (opening_of below m) (opening_of (below + 1) n) oldest refl
      (next_opened (opening_of below m) n (reverse rest) oldest (get_by_text m) kept_whole reported)
      (reverse rest) (get_by_text m) (get_by_text n) kept_whole reported

  same_now : (key : List ℕ) → key_after (opening_of (below + 1) n) key (changes_of (reverse rest))
      ≡ key_after (opening_of below m) key (changes_of (reverse xs))
  same_now key =
      key_same (opening_of below m) (opening_of (below + 1) n) oldest refl
      (next_opened (opening_of below m) n (reverse rest) oldest (get_by_text m) kept_whole reported) key (reverse rest)
      ∙ ap (λ (l : List (List Event)). key_after (opening_of below m) key (changes_of l)) (sym (reversed_front xs rest oldest is))

  dropped : StandFirst (λ key. is_some (key_after (opening_of below m) key (changes_of (reverse xs)))) present (names_of n)
      × (present_among (λ key. key_after (opening_of below m) key (changes_of (reverse xs))) (names_of n)
      ≡ present_among (λ key. key_after (opening_of below m) key (changes_of (reverse xs))) (names_of m))
  dropped =
      drops (λ key. key_after (opening_of below m) key (changes_of (reverse xs))) present
      (λ key none. sym (same_now key) ∙ unchanged_key (opening_of (below + 1) n) (reverse rest) (get_by_text n) key kept_next none) first

  pub forgotten_fields : IsKept (opening_of (below + 1) n) (reverse rest) (get_by_text n)
      × StandFirst (λ key. is_some (key_after (opening_of (below + 1) n) key (changes_of (reverse rest)))) present (names_of n)
      × (floor ≤ below + 1 + length rest)
  forgotten_fields = (
    kept_next,
    same_presence (λ key. is_some (key_after (opening_of below m) key (changes_of (reverse xs))))
        (λ key. is_some (key_after (opening_of (below + 1) n) key (changes_of (reverse rest)))) present (names_of n)
        (λ key. ap (λ (s : Option KeyState). is_some s) (same_now key)) dropped.0,
    (let long : length xs ≡ length rest + 1 = ap (λ (l : List (List Event)). length l) is ∙ omega arith in omega (arith, low, long)),
  )

  contents : History → List (List ℕ × KeyState) → Contents
  contents h p = record { history = h; present = p; opened = opened; floor = floor }

  pub forgotten_view : seen (opening_of (below + 1) n) opened floor rest (names_of n)
      ≡ without_up_to (below + 1) (seen (opening_of below m) opened floor xs (names_of m))
  unfolding contents
  forgotten_view =
      ap (λ (h : History). contents h (present_among (λ key. key_after (opening_of (below + 1) n) key (changes_of (reverse rest))) (names_of n)))
      (next_history (opening_of below m) n (reverse rest) oldest (get_by_text m) kept_whole reported
      ∙ ap (λ (l : List (List Event)). cut (below + 1) (let h : History = record { opening = opening_of below m; revisions = changes_of l } in h))
      (sym (reversed_front xs rest oldest is)))
      ∙ ap (contents (cut (below + 1) (record { opening = opening_of below m; revisions = changes_of (reverse xs) })))
      ((λ i. present_among (λ key. same_now key i) (names_of n)) ∙ dropped.1)
