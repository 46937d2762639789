-- What two schedules leave is shown alike from both of two places that agree, or from neither.
use Rattle.std.proofs.Common.{◌≡◌, ℕ, ◌<◌, Bool, true, false, List, [], ◌∷◌, length, map, get_or, Option, None, Some, refl, sym, ◌∙◌, ap, subst, arith}
use Rattle.std.specs.Prelude.{is_some, Contains}
use Rattle.std.proofs.lemmas.List.{get_or-map}
use Rattle.std.proofs.lemmas.Bool.Decides.{nat_tests}
use Rattle.stm_history.specs.declared.key_state.KeyState.{KeyState}
use Rattle.stm_history.specs.History.{History, key_now, value_of}
use Rattle.stm_txn.specs.PresentKeys.{keys_present}
use Rattle.stm_txn.proofs.Naming.{present_ascend, present_each, present_listed}
use Rattle.stm_schedules.specs.declared.moves.Move.{Move}
use Rattle.stm_schedules.specs.declared.outcome.KeyValue.{KeyValue}
use Rattle.stm_schedules.specs.Outcomes.{state_shown}
use Rattle.stm_schedules.specs.Places.{Place}
use Rattle.stm_schedules.specs.Schedules.{place_after}
use Rattle.stm_narrow.specs.AgreeingPlaces.{PlacesAgree, SchedulesShowAlike}
use Rattle.stm_narrow.proofs.Histories.{same_now}
use Rattle.stm_narrow.proofs.Searching.{after_same, turned_places}
use Rattle.stm_narrow.proofs.Staying.{schedule_stays}

-- a key is shown the same of two states: it is there in both or in neither, with the same value
record ShownAlike (s t : Option KeyState) : Type 0 where
  there : is_some s ≡ is_some t
  value : value_of s ≡ value_of t

same_state : (s t : Option KeyState) → s ≡ t → ShownAlike s t
same_state s t same = record { there = ap (λ (o : Option KeyState). is_some o) same; value = ap value_of same }

then_alike : (s t u : Option KeyState) → ShownAlike s t → ShownAlike t u → ShownAlike s u
then_alike s t u first second = record { there = first.there ∙ second.there; value = first.value ∙ second.value }

-- ---- from the list to each key

abbrev shown_of : History → List ℕ → KeyValue
shown_of h key = record { key = key; value = value_of (key_now h key) }

keys_shown : (f : List ℕ → List ℕ) (keys : List (List ℕ)) →
    map (λ (kv : KeyValue). kv.key) (map (λ (key : List ℕ). (let kv : KeyValue = record { key = key; value = f key } in kv)) keys) ≡ keys
keys_shown f [] = refl
keys_shown f (key ∷ keys) = ap (λ (rest : List (List ℕ)). key ∷ rest) (keys_shown f keys)

module _ (g h : History) (same : state_shown g ≡ state_shown h) where
  same_keys : keys_present g ≡ keys_present h
  same_keys =
      sym (keys_shown (λ key. value_of (key_now g key)) (keys_present g)) ∙ ap (map (λ (kv : KeyValue). kv.key)) same
      ∙ keys_shown (λ key. value_of (key_now h key)) (keys_present h)

  -- a key that is there has the same value
  same_value : (key : List ℕ) → Contains (keys_present g) key → value_of (key_now g key) ≡ value_of (key_now h key)
  same_value key has =
      let i : ℕ = has.0 in
      let there : i < length (keys_present h) = subst (λ (keys : List (List ℕ)). i < length keys) same_keys has.1 in
      let first : KeyValue = shown_of g key in
      ap (λ (kv : KeyValue). kv.value)
      (sym (ap (shown_of g) has.2) ∙ sym (get_or-map (shown_of g) (keys_present g) i key first has.1) ∙ ap (λ (state : List KeyValue). get_or state i first) same
      ∙ get_or-map (shown_of h) (keys_present h) i key first there ∙ ap (λ (keys : List (List ℕ)). shown_of h (get_or keys i key)) (sym same_keys) ∙ ap (shown_of h) has.2)

  each_alike : (key : List ℕ) → ShownAlike (key_now g key) (key_now h key)
  each_alike key = by (is_some (key_now g key)) refl (is_some (key_now h key)) refl
    where
      in_g : is_some (key_now g key) ≡ true → Contains (keys_present g) key
      in_g is = (present_each g key).1 is

      in_h : is_some (key_now h key) ≡ true → Contains (keys_present h) key
      in_h is = (present_each h key).1 is

      absent : (s t : Option KeyState) → is_some s ≡ false → is_some t ≡ false → value_of s ≡ value_of t
      absent None None is also = refl
      absent None (Some t) is also = absurd (cc)
      absent (Some s) t is also = absurd (cc)

      by : (b : Bool) → is_some (key_now g key) ≡ b → (c : Bool) → is_some (key_now h key) ≡ c → ShownAlike (key_now g key) (key_now h key)
      by true is true also = record { there = is ∙ sym also; value = same_value key (in_g is) }
      by true is false also =
          let there : is_some (key_now h key) ≡ true = (present_each h key).0 (subst (λ (keys : List (List ℕ)). Contains keys key) same_keys (in_g is)) in absurd (cc)
      by false is true also =
          let there : is_some (key_now g key) ≡ true = (present_each g key).0 (subst (λ (keys : List (List ℕ)). Contains keys key) (sym same_keys) (in_h also)) in absurd (cc)
      by false is false also = record { there = is ∙ sym also; value = absent (key_now g key) (key_now h key) is also }

-- ---- from each key to the list

state_alike : (g h : History) → ((key : List ℕ) → ShownAlike (key_now g key) (key_now h key)) → state_shown g ≡ state_shown h
state_alike g h alike = grind (arith, nat_tests, present_listed, present_ascend, present_each)

-- ---- schedules

module _ (touched : List ℕ → Bool) (leased : ℕ → Bool) (since : ℕ) where
  abbrev history_after : List Move → Place → History
  history_after ms p = (place_after ms p).world.standing.history

  shown_alike : (one other : List Move) (p q : Place) → PlacesAgree touched leased since p q →
      state_shown (history_after one p) ≡ state_shown (history_after other p) → state_shown (history_after one q) ≡ state_shown (history_after other q)
  shown_alike one other p q same shown = state_alike (history_after one q) (history_after other q) (λ key. by key (touched key) refl)
    where
      turned : PlacesAgree touched leased since q p
      turned = turned_places touched leased since p q same

      far : (ms : List Move) (key : List ℕ) → touched key ≡ true → key_now (history_after ms p) key ≡ key_now (history_after ms q) key
      far ms key is = same_now touched since (history_after ms p) (history_after ms q) (after_same touched leased since ms p q same).worlds.store.history key is

      by : (key : List ℕ) (b : Bool) → touched key ≡ b → ShownAlike (key_now (history_after one q) key) (key_now (history_after other q) key)
      by key true is =
          then_alike _ _ _ (same_state _ _ (sym (far one key is)))
          (then_alike _ _ _ (each_alike (history_after one p) (history_after other p) shown key) (same_state _ _ (far other key is)))
      by key false is = same_state _ _ (schedule_stays touched leased since one q p turned key is ∙ sym (schedule_stays touched leased since other q p turned key is))

pub schedules_show_alike : SchedulesShowAlike
schedules_show_alike touched leased since p q same one other shown = shown_alike touched leased since one other p q same shown
