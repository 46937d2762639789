-- What a new revision makes of the watchers, key by key.
use Rattle.std.proofs.Common.{◌≡◌, ◌⊎◌, ℕ, zero, suc, ◌≤◌, Bool, true, false, ◌&&◌}
use Rattle.std.proofs.Common.{List, [], ◌∷◌, ◌++◌, length, map, Option, Some, None, is_some, option_map, slice_index_or, slice_set}
use Rattle.std.proofs.Common.{refl, sym, ap, subst, ◌∙◌, inl, inr, arith}
use Rattle.std.specs.Prelude.{nat_lt}
use Rattle.std.proofs.lemmas.Bool.{cases_Bool, cases_eq, ltb-true, Decides.nat_tests}
use Rattle.std.proofs.lemmas.List.{get_or-set_other, length-set, length-map, map-append, same_lists}
use Rattle.std.proofs.lemmas.List.Folds.{list_any-append}
use Rattle.std.proofs.lemmas.Option.{same_Some}
use Rattle.std.proofs.lemmas.Slice.Eq.{bytes_eq-Decides}
use Rattle.indexmap.specs.IndexMap.{get_by_text}
use Rattle.stm_keys.specs.declared.event.Event.{Event}
use Rattle.stm_keys.specs.Events.{change_of_event, key_of_event}
use Rattle.stm_watch.specs.declared.watched.Watched.{Watched}
use Rattle.stm_watch.specs.declared.watched.Watched.TheVariants.{Key, Range}
use Rattle.stm_watch.specs.declared.watched.Watcher.{Watcher}
use Rattle.stm_watch.specs.Keys.{is_watched}
use Rattle.stm_watch.specs.declared.ranges.Ranges.{Ranges}
use Rattle.stm_watch.specs.declared.groups.Groups.{Groups}
use Rattle.stm_watch.specs.declared.page.RangeEntry.{RangeEntry}
use Rattle.stm_watch.specs.declared.page.Reach.{Reach}
use Rattle.stm_watch.specs.declared.shelf.Shelf.{Shelf}
use Rattle.stm_watch.specs.Pages.{IsAny, IsOneOf, IsIn, IsLooked, IsMet, IsShelved, StandsOn, At, HasIn, Reaches, ReachesIn, ReachesOn, ReachesOver, ReachesAt, IsTouched, IsEntryOf, IsGrouped, AreEntered}
use Rattle.stm_watch.specs.Touch.{touch, touch_key, touch_at, touch_each, first_with, wants}
use Rattle.stm_watch.proofs.Entered.{any-left, any-right, any-parts, any-map, at-map}
use Rattle.stm_watch.proofs.At.{not_some, read_at, slot_of_map}
use Rattle.stm_watch.proofs.Ordered.{both}

-- ---- one place

touched_twice : (revision : ℕ) (key : List ℕ) (o : Option Watcher) →
    option_map (touch_key revision key) (option_map (touch_key revision key) o) ≡ option_map (touch_key revision key) o
touched_twice revision key o = grind (arith, nat_tests)

-- nothing changes past the last place
pub touched_past : (revision : ℕ) (key : List ℕ) (i : ℕ) (ws : List (Option Watcher)) → length ws ≤ i → ws ≡ touch_at revision key i ws
touched_past revision key i ws past = set_past ws i (option_map (touch_key revision key) (slice_index_or ws i None)) past
  where
    set_past : (xs : List (Option Watcher)) (j : ℕ) (x : Option Watcher) → length xs ≤ j → xs ≡ slice_set xs j x
    set_past [] j x past = refl
    set_past (y ∷ xs) zero x past = absurd (omega arith)
    set_past (y ∷ xs) (suc j) x past = ap (λ l. y ∷ l) (set_past xs j x (omega arith))

-- an idle watcher wants to know of it
pub wanted : (revision : ℕ) (key : List ℕ) (o : Option Watcher) → wants revision key o ≡ true → (w : Watcher) × (o ≡ Some w)
wanted revision key o is = grind (arith, nat_tests)

never : (revision : ℕ) (o : Option ℕ) (b : Bool) → first_with revision (b && false) o ≡ o
never revision o b = grind (arith, nat_tests)

module _ (revision : ℕ) (key : List ℕ) where
  -- ---- several places

  pub length_each : (is : List ℕ) (ws : List (Option Watcher)) → length (touch_each revision key is ws) ≡ length ws
  length_each [] ws = refl
  length_each (i ∷ is) ws = grind (arith, nat_tests, length-set, length_each is (touch_at revision key i ws))

  -- what stands at the place that was touched
  touched_here : (i : ℕ) (ws : List (Option Watcher)) →
      slice_index_or (touch_at revision key i ws) i None ≡ option_map (touch_key revision key) (slice_index_or ws i None)
  touched_here zero [] = refl
  touched_here (suc i) [] = refl
  touched_here zero (w ∷ ws) = refl
  touched_here (suc i) (w ∷ ws) = touched_here i ws

  at_either : (i j : ℕ) (ws : List (Option Watcher)) →
      (slice_index_or (touch_at revision key i ws) j None ≡ slice_index_or ws j None)
      ⊎ (slice_index_or (touch_at revision key i ws) j None ≡ option_map (touch_key revision key) (slice_index_or ws j None))
  at_either i j ws = grind (arith, nat_tests, cases_eq, touched_here, get_or-set_other)

  each_either : (is : List ℕ) (j : ℕ) (ws : List (Option Watcher)) →
      (slice_index_or (touch_each revision key is ws) j None ≡ slice_index_or ws j None)
      ⊎ (slice_index_or (touch_each revision key is ws) j None ≡ option_map (touch_key revision key) (slice_index_or ws j None))
  each_either [] j ws = inl refl
  each_either (i ∷ is) j ws = grind (arith, nat_tests, at_either, touched_twice, each_either is j (touch_at revision key i ws))

  again : (x o : Option Watcher) → (x ≡ o) ⊎ (x ≡ option_map (touch_key revision key) o)
      → option_map (touch_key revision key) x ≡ option_map (touch_key revision key) o
  again x o either = grind (arith, nat_tests, touched_twice)

  -- what was touched once stays so
  each_after : (is : List ℕ) (j : ℕ) (ws : List (Option Watcher)) (o : Option Watcher) → slice_index_or ws j None ≡ option_map (touch_key revision key) o
      → slice_index_or (touch_each revision key is ws) j None ≡ option_map (touch_key revision key) o
  each_after is j ws o was = grind (arith, nat_tests, each_either, touched_twice)

  each_append : (is js : List ℕ) (ws : List (Option Watcher)) → touch_each revision key (is ++ js) ws ≡ touch_each revision key js (touch_each revision key is ws)
  each_append [] js ws = refl
  each_append (i ∷ is) js ws = each_append is js (touch_at revision key i ws)

  -- each of the places is touched
  each_among : (is : List ℕ) (j : ℕ) (ws : List (Option Watcher)) → IsOneOf j is
      → slice_index_or (touch_each revision key is ws) j None ≡ option_map (touch_key revision key) (slice_index_or ws j None)
  each_among [] j ws any = absurd any
  each_among (i ∷ is) j ws any = elim any [
    | inl here ↦
        each_after is j (touch_at revision key i ws) (slice_index_or ws j None)
        (subst (λ (k : ℕ). slice_index_or (touch_at revision key i ws) k None ≡ option_map (touch_key revision key) (slice_index_or ws k None)) here
        (touched_here i ws))
    | inr there ↦ each_among is j (touch_at revision key i ws) there
        ∙ again (slice_index_or (touch_at revision key i ws) j None) (slice_index_or ws j None) (at_either i j ws)
  ]

  -- ---- places that are reached

  pub touched_none : (at : ℕ → Type 0) (ws : List (Option Watcher)) → ((i : ℕ) → at i → ⊥) → IsTouched revision key at ws ws
  touched_none at ws none = record { places = []; done = refl; all = λ i reached. absurd (none i reached) }

  pub touched_one : (at : ℕ → Type 0) (place : ℕ) (old new : List (Option Watcher)) → new ≡ touch_at revision key place old
      → ((i : ℕ) → at i → place ≡ i) → IsTouched revision key at old new
  touched_one at place old new is only = record { places = place ∷ []; done = is; all = λ i reached. inl (only i reached) }

  -- those that were reached before, and those of one more
  pub touched_more : {A : Type 0} (reaches : ℕ → A → Type 0) (so_far more : List A) (x : A) (old mid new : List (Option Watcher)) → more ≡ so_far ++ x ∷ []
      → IsTouched revision key (λ i. IsAny (reaches i) so_far) old mid → IsTouched revision key (λ i. reaches i x) mid new
      → IsTouched revision key (λ i. IsAny (reaches i) more) old new
  touched_more reaches so_far more x old mid new is one other = record {
    places = one.places ++ other.places;
    done = other.done ∙ ap (touch_each revision key other.places) one.done ∙ sym (each_append one.places other.places old);
    all = λ i reached. elim (any-parts (reaches i) so_far (x ∷ []) (subst (λ xs. IsAny (reaches i) xs) is reached)) [
      | inl before ↦ any-left (λ j. j ≡ i) one.places other.places (one.all i before)
      | inr last ↦ elim last [ inl here ↦ any-right (λ j. j ≡ i) one.places other.places (other.all i here) | inr nothing ↦ absurd nothing ]
    ];
  }

  pub touched_as : (at so : ℕ → Type 0) (old new : List (Option Watcher)) → ((i : ℕ) → so i → at i) → IsTouched revision key at old new
      → IsTouched revision key so old new
  touched_as at so old new to touched = record { places = touched.places; done = touched.done; all = λ i reached. touched.all i (to i reached) }

  -- ---- all that a key concerns

  -- a ready watcher stays as it is
  stays : (w : Watcher) → is_some w.first ≡ true → touch_key revision key w ≡ w
  stays w some = grind (arith, nat_tests)

  -- an idle watcher that is due is reached in the group of its entry
  in_group : (ws : List (Option Watcher)) (w : Watcher) (j : ℕ) (watched : Watched) (groups : List Ranges) (g : ℕ) (e : RangeEntry)
      → slice_index_or ws j None ≡ Some w → is_some w.first ≡ false → nat_lt w.seen revision ≡ true → is_watched watched key ≡ true
      → IsEntryOf watched j e → HasIn ws groups g e → At (ReachesIn revision key j) groups g
  in_group ws w j watched groups g e is idle begun matches its =
      at-map (IsIn ws e) (ReachesIn revision key j) (λ group. any-map (IsShelved ws e) (ReachesOver revision key j) over group.shelves.items) groups g
    where
      reaches : Reaches key j e
      reaches = (its.stands, its.all key matches)

      looked : (reach : Reach) → IsMet ws e reach → IsLooked revision e reach
      looked reach met =
          elim (met w (subst (λ (n : ℕ). slice_index_or ws n None ≡ Some w) (sym its.stands) is) (not_some w.first idle)) [
            | inl le ↦ inl (let less = ltb-true w.seen revision begun in omega (arith, le, less))
            | inr inside ↦ inr inside
          ]

      over : (shelf : Shelf) → IsShelved ws e shelf → ReachesOver revision key j shelf
      over shelf had = record {
        entry = e;
        its = reaches;
        looked = looked shelf.reach had.met;
        pages = any-map (StandsOn ws e) (ReachesOn revision key j) (λ page stands. (e, stands.there, reaches, looked page.reach stands.met)) shelf.pages.items had.there;
      }

  -- The watchers of the key are in a group of their own, and those of ranges in another. Once those of both groups that are due were touched, all are.
  module _ (groups : Groups) (rest : List Ranges) (ws mid new : List (Option Watcher)) (entered : AreEntered groups ws)
      (own : IsTouched revision key (λ i. ReachesAt revision key i groups.groups.items (get_by_text groups.keys key)) ws mid)
      (kept : (e : RangeEntry) → HasIn ws groups.groups.items 0 e → HasIn ws rest 0 e)
      (ranges : IsTouched revision key (λ i. ReachesAt revision key i rest (Some 0)) mid new) where
    abbrev after : List (Option Watcher)
    after = touch_each revision key ranges.places (touch_each revision key own.places ws)

    reached : (w : Watcher) (j : ℕ) (watched : Watched) → slice_index_or ws j None ≡ Some w → is_some w.first ≡ false → w.watched ≡ watched
        → nat_lt w.seen revision ≡ true → is_watched watched key ≡ true
        → slice_index_or after j None ≡ option_map (touch_key revision key) (slice_index_or ws j None)
    reached w j (Key k) is idle what begun matches =
        let has = subst (λ (x : Watched). IsGrouped groups x j ws) what (entered j w is) in
        let same : k ≡ key = (bytes_eq-Decides k key).0 matches in
        let its : get_by_text groups.keys key ≡ Some has.group = ap (get_by_text groups.keys) (sym same) ∙ has.its in
        let on = in_group ws w j (Key k) groups.groups.items has.group has.entered.entry is idle begun matches has.entered.its has.entered.there in
        each_after ranges.places j (touch_each revision key own.places ws) (slice_index_or ws j None)
        (each_among own.places j ws (own.all j (subst (ReachesAt revision key j groups.groups.items) (sym its) on)))
    reached w j (Range first end) is idle what begun matches =
        let has = subst (λ (x : Watched). IsGrouped groups x j ws) what (entered j w is) in
        let first_is : has.group ≡ 0 = sym (same_Some 0 has.group has.its) in
        let on = in_group ws w j (Range first end) rest 0 has.entered.entry is idle begun matches has.entered.its
        (kept has.entered.entry (subst (λ (g : ℕ). HasIn ws groups.groups.items g has.entered.entry) first_is has.entered.there)) in
        each_among ranges.places j (touch_each revision key own.places ws) (ranges.all j on)
        ∙ again (slice_index_or (touch_each revision key own.places ws) j None) (slice_index_or ws j None) (each_either own.places j ws)

    slot_touched : (j : ℕ) → slice_index_or after j None ≡ option_map (touch_key revision key) (slice_index_or ws j None)
    slot_touched j = grind (arith, nat_tests, cases_Bool, stays, both, reached, never, each_after, each_either)

    pub all_touched : new ≡ map (option_map (touch_key revision key)) ws
    all_touched = grind (arith, nat_tests, same_lists, length-map, read_at, slot_touched, slot_of_map, length_each)

-- ---- one event after the other

touch_one_more : (revision : ℕ) (e : Event) (es : List Event) (o : Option Watcher) →
    option_map (touch_key revision (key_of_event e)) (option_map (touch revision (map change_of_event es)) o)
    ≡ option_map (touch revision (map change_of_event (es ++ e ∷ []))) o
touch_one_more revision e es o = grind (arith, nat_tests, map-append, list_any-append)

pub touch_next : (revision : ℕ) (e : Event) (es : List Event) (ws : List (Option Watcher)) →
    map (option_map (touch_key revision (key_of_event e))) (map (option_map (touch revision (map change_of_event es))) ws)
    ≡ map (option_map (touch revision (map change_of_event (es ++ e ∷ [])))) ws
touch_next revision e es [] = refl
touch_next revision e es (o ∷ ws) = grind (arith, nat_tests, touch_one_more, touch_next revision e es ws)

pub touch_none : (revision : ℕ) (ws : List (Option Watcher)) → ws ≡ map (option_map (touch revision [])) ws
touch_none revision [] = refl
touch_none revision (None ∷ ws) = ap (λ l. None ∷ l) (touch_none revision ws)
touch_none revision (Some w ∷ ws) = grind (arith, nat_tests, never, touch_none revision ws)
