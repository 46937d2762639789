-- The entries on pages after each change.
use Rattle.std.proofs.Common.{◌≡◌, ◌≢◌, ◌⊎◌, ℕ, zero, suc, ◌<◌, ◌≤◌, Bool, true, cond, ◌&&◌, nat_eq, List, [], ◌∷◌, ◌++◌, take, drop, length, map, Option, Some, None}
use Rattle.std.proofs.Common.{IsSome, option_map, slice_index_or, slice_set, refl, sym, ap, subst, ◌∙◌, inl, inr, arith}
use Rattle.std.specs.Prelude.{nat_lt}
use Rattle.std.specs.Str.{bytes_eq}
use Rattle.std.proofs.lemmas.Bool.{cases_Bool, cases_eq, ne_eqb, Decides.nat_tests}
use Rattle.std.proofs.lemmas.List.{get_or-set_same, get_or-set_other}
use Rattle.std.proofs.lemmas.Option.{same_Some}
use Rattle.std.proofs.lemmas.Slice.Eq.{bytes_eq-Decides}
use Rattle.indexmap.specs.IndexMap.{get_by_text}
use Rattle.stm_watch.specs.declared.page.RangeEntry.{RangeEntry}
use Rattle.stm_watch.specs.declared.page.Page.{Page}
use Rattle.stm_watch.specs.declared.watched.Watched.{Watched}
use Rattle.stm_watch.specs.declared.watched.Watched.TheVariants.{Key}
use Rattle.stm_watch.specs.declared.watched.Watcher.{Watcher}
use Rattle.stm_watch.specs.Keys.{is_watched, first_key}
use Rattle.stm_watch.specs.Touch.{first_with, touch_key}
use Rattle.stm_watch.specs.declared.groups.Groups.{Groups}
use Rattle.stm_watch.specs.declared.ranges.Ranges.{Ranges}
use Rattle.stm_watch.specs.declared.shelf.Shelf.{Shelf}
use Rattle.stm_watch.specs.Pages.{IsAny, IsOneOf, IsIn, IsShelved, StandsOn, HasEntry, At, HasIn, GroupsKeep, IsGrouped, AreEntered, group_of}
use Rattle.stm_watch.proofs.At.{within, slot_of_map, slot_of_more}

-- ---- one of a list

module _ {A : Type 0} (is : A → Type 0) where
  pub any-left : (xs ys : List A) → IsAny is xs → IsAny is (xs ++ ys)
  any-left [] ys any = absurd any
  any-left (x ∷ xs) ys any = elim any [ inl here ↦ inl here | inr there ↦ inr (any-left xs ys there) ]

  pub any-right : (xs ys : List A) → IsAny is ys → IsAny is (xs ++ ys)
  any-right [] ys any = any
  any-right (x ∷ xs) ys any = inr (any-right xs ys any)

  pub any-parts : (xs ys : List A) → IsAny is (xs ++ ys) → IsAny is xs ⊎ IsAny is ys
  any-parts [] ys any = inr any
  any-parts (x ∷ xs) ys any =
      elim any [
        | inl here ↦ inl (inl here)
        | inr there ↦ elim (any-parts xs ys there) [ inl left ↦ inl (inr left) | inr right ↦ inr right ]
      ]

  -- one is put in between
  pub any-with : (xs : List A) (i : ℕ) (y : A) → IsAny is xs → IsAny is (take i xs ++ y ∷ drop i xs)
  any-with [] i y any = absurd any
  any-with (x ∷ xs) zero y any = inr any
  any-with (x ∷ xs) (suc i) y any = elim any [ inl here ↦ inl here | inr there ↦ inr (any-with xs i y there) ]

  pub any-new : (xs : List A) (i : ℕ) (y : A) → is y → IsAny is (take i xs ++ y ∷ drop i xs)
  any-new [] zero y so = inl so
  any-new [] (suc i) y so = inl so
  any-new (x ∷ xs) zero y so = inl so
  any-new (x ∷ xs) (suc i) y so = inr (any-new xs i y so)

  -- one is taken out
  pub any-without : (xs : List A) (i : ℕ) (d : A) → (is (slice_index_or xs i d) → ⊥) → IsAny is xs → IsAny is (take i xs ++ drop (suc i) xs)
  any-without [] i d not any = absurd any
  any-without (x ∷ xs) zero d not any = elim any [ inl here ↦ absurd (not here) | inr there ↦ there ]
  any-without (x ∷ xs) (suc i) d not any = elim any [ inl here ↦ inl here | inr there ↦ inr (any-without xs i d not there) ]

  -- one is changed
  pub any-set : (xs : List A) (i : ℕ) (y d : A) → (is (slice_index_or xs i d) → is y) → IsAny is xs → IsAny is (slice_set xs i y)
  any-set [] i y d to any = absurd any
  any-set (x ∷ xs) zero y d to any = elim any [ inl here ↦ inl (to here) | inr there ↦ inr there ]
  any-set (x ∷ xs) (suc i) y d to any = elim any [ inl here ↦ inl here | inr there ↦ inr (any-set xs i y d to there) ]

  pub any-at : (xs : List A) (i : ℕ) (y : A) → i < length xs → is y → IsAny is (slice_set xs i y)
  any-at [] i y below so = absurd (omega arith)
  any-at (x ∷ xs) zero y below so = inl so
  any-at (x ∷ xs) (suc i) y below so = inr (any-at xs i y (omega arith) so)

  -- one is parted in two
  pub any-two : (xs : List A) (i : ℕ) (y z d : A) → (is (slice_index_or xs i d) → is y ⊎ is z) → IsAny is xs
      → IsAny is (take (suc i) (slice_set xs i y) ++ z ∷ drop (suc i) (slice_set xs i y))
  any-two [] i y z d to any = absurd any
  any-two (x ∷ xs) zero y z d to any = grind (arith, nat_tests)
  any-two (x ∷ xs) (suc i) y z d to any = elim any [ inl here ↦ inl here | inr there ↦ inr (any-two xs i y z d to there) ]

  pub any-read : (xs : List A) (i : ℕ) (d : A) → i < length xs → is (slice_index_or xs i d) → IsAny is xs
  any-read [] i d below so = absurd (omega arith)
  any-read (x ∷ xs) zero d below so = inl so
  any-read (x ∷ xs) (suc i) d below so = inr (any-read xs i d (omega arith) so)

  -- which one it is
  pub any-found : (xs : List A) → IsAny is xs → (x : A) × is x × IsOneOf x xs
  any-found [] any = absurd any
  any-found (x ∷ xs) any = elim any [ inl here ↦ (x, here, inl refl) | inr there ↦ let rest = any-found xs there in (rest.0, rest.1, inr rest.2) ]

  -- there is none
  pub any-none : (xs : List A) → nat_eq (length xs) 0 ≡ true → IsAny is xs → ⊥
  any-none [] empty any = any
  any-none (x ∷ xs) empty any = let never = sym (ne_eqb (length (x ∷ xs)) 0 (λ (is : length (x ∷ xs) ≡ 0). omega (arith, is))) ∙ empty in absurd (cc)

pub any-map : {A : Type 0} (is so : A → Type 0) → ((x : A) → is x → so x) → (xs : List A) → IsAny is xs → IsAny so xs
any-map is so to [] any = absurd any
any-map is so to (x ∷ xs) any = elim any [ inl here ↦ inl (to x here) | inr there ↦ inr (any-map is so to xs there) ]

-- ---- one at a place

module _ {A : Type 0} (is : A → Type 0) where
  pub at-read : (xs : List A) (i : ℕ) (d : A) → d ≡ slice_index_or xs i d → At is xs i → is d
  at-read [] i d here at = absurd at
  at-read (x ∷ xs) zero d here at = subst is (sym here) at
  at-read (x ∷ xs) (suc i) d here at = at-read xs i d here at

  pub at-past : (xs : List A) (i : ℕ) → length xs ≤ i → At is xs i → ⊥
  at-past [] i past at = at
  at-past (x ∷ xs) zero past at = omega (arith, past)
  at-past (x ∷ xs) (suc i) past at = at-past xs i (omega arith) at

  pub at-new : (xs : List A) (i : ℕ) (y : A) → i < length xs → is y → At is (slice_set xs i y) i
  at-new [] i y below so = absurd (omega arith)
  at-new (x ∷ xs) zero y below so = so
  at-new (x ∷ xs) (suc i) y below so = at-new xs i y (omega arith) so

  -- one is changed
  pub at-set : (xs : List A) (i j : ℕ) (d y : A) → d ≡ slice_index_or xs i d → (is d → is y) → At is xs j → At is (slice_set xs i y) j
  at-set [] i j d y here to at = at
  at-set (x ∷ xs) zero zero d y here to at = to (subst is (sym here) at)
  at-set (x ∷ xs) zero (suc j) d y here to at = at
  at-set (x ∷ xs) (suc i) zero d y here to at = at
  at-set (x ∷ xs) (suc i) (suc j) d y here to at = at-set xs i j d y here to at

  pub at-more : (xs ys : List A) (i : ℕ) → At is xs i → At is (xs ++ ys) i
  at-more [] ys i at = absurd at
  at-more (x ∷ xs) ys zero at = at
  at-more (x ∷ xs) ys (suc i) at = at-more xs ys i at

pub at-map : {A : Type 0} (is so : A → Type 0) → ((x : A) → is x → so x) → (xs : List A) (i : ℕ) → At is xs i → At so xs i
at-map is so to [] i at = at
at-map is so to (x ∷ xs) zero at = to x at
at-map is so to (x ∷ xs) (suc i) at = at-map is so to xs i at

-- ---- groups

pub kept_twice : (old mid new : Groups) → GroupsKeep old mid → GroupsKeep mid new → GroupsKeep old new
kept_twice old mid new one other = grind (arith, nat_tests)

-- what has no group is a key
pub watched_key : (of_key : List ℕ → Option ℕ) (w : Watched) → group_of of_key w ≡ None → (of_key (first_key w) ≡ None) × (w ≡ Key (first_key w))
watched_key of_key w none = grind (arith, nat_tests)

-- a key got a group that had none
pub keys_more : (of_key new_of_key : List ℕ → Option ℕ) (group : ℕ) (key : List ℕ) → of_key key ≡ None
    → ((q : List ℕ) → new_of_key q ≡ cond (bytes_eq key q) (Some group) (of_key q)) → (k : List ℕ) (g : ℕ) → of_key k ≡ Some g → new_of_key k ≡ Some g
keys_more of_key new_of_key group key none keys k g is = grind (arith, nat_tests, cases_Bool, bytes_eq-Decides)

-- ---- all watchers

-- an entry stands on a page that is looked at for each change
pub unsettled : (ws : List (Option Watcher)) (e : RangeEntry) (page : Page) → page.reach.until ≡ 0 → IsOneOf e page.entries.items → StandsOn ws e page
unsettled ws e page none there = record { met = λ w at idle. inl (omega (arith, none)); there = there }

-- and on a shelf of which all pages are
pub unsettled_shelf : (ws : List (Option Watcher)) (e : RangeEntry) (shelf : Shelf) → shelf.reach.until ≡ 0 → HasEntry ws shelf.pages.items e → IsShelved ws e shelf
unsettled_shelf ws e shelf none there = record { met = λ w at idle. inl (omega (arith, none)); there = there }

-- the entry of a watcher stays in its group
pub grouped_same : (old new : Groups) (ws after : List (Option Watcher)) (w : Watched) (i : ℕ)
    → ((key : List ℕ) (g : ℕ) → get_by_text old.keys key ≡ Some g → get_by_text new.keys key ≡ Some g)
    → ((g : ℕ) (e : RangeEntry) → e.place ≡ i → HasIn ws old.groups.items g e → HasIn after new.groups.items g e)
    → IsGrouped old w i ws → IsGrouped new w i after
grouped_same old new ws after w i keys entries had = grind (arith, nat_tests)

pub entered_same : (old new : Groups) (ws : List (Option Watcher)) → ((key : List ℕ) (g : ℕ) → get_by_text old.keys key ≡ Some g → get_by_text new.keys key ≡ Some g)
    → ((g : ℕ) (e : RangeEntry) → HasIn ws old.groups.items g e → HasIn ws new.groups.items g e) → AreEntered old ws → AreEntered new ws
entered_same old new ws keys entries entered i w at =
    grouped_same old new ws ws w.watched i keys (λ g e its. entries g e) (entered i w at)

pub entered_kept : (old new : Groups) (ws : List (Option Watcher)) → GroupsKeep old new → AreEntered old ws → AreEntered new ws
entered_kept old new ws keep = entered_same old new ws keep.keys (keep.entries ws)

-- one that is idle at a place was idle there before, and has seen what it had
abbrev IsStill : List (Option Watcher) → List (Option Watcher) → ℕ → Type 0
IsStill old new i =
    (v : Watcher) → slice_index_or new i None ≡ Some v → v.first ≡ None
    → (u : Watcher) × (slice_index_or old i None ≡ Some u) × (u.first ≡ None) × (u.seen ≡ v.seen)

same_still : (old new : List (Option Watcher)) (i : ℕ) → slice_index_or new i None ≡ slice_index_or old i None → IsStill old new i
same_still old new i same v at idle = (v, sym same ∙ at, idle, refl)

grouped_still : (groups : Groups) (old new : List (Option Watcher)) (w : Watched) (i : ℕ) → IsStill old new i → IsGrouped groups w i old → IsGrouped groups w i new
grouped_still groups old new w i still grouped =
    grouped_same groups groups old new w i (λ key g is. is)
    (λ g e place. at-map (IsIn old e) (IsIn new e) (λ group. in_still e place group) groups.groups.items g) grouped
  where
    stands_still : (e : RangeEntry) → e.place ≡ i → (page : Page) → StandsOn old e page → StandsOn new e page
    stands_still e place page stands = grind (arith, nat_tests)

    shelved_still : (e : RangeEntry) → e.place ≡ i → (shelf : Shelf) → IsShelved old e shelf → IsShelved new e shelf
    shelved_still e place shelf had = record {
      met = λ v at idle. grind (arith, nat_tests, had.met);
      there = any-map (StandsOn old e) (StandsOn new e) (stands_still e place) shelf.pages.items had.there;
    }

    in_still : (e : RangeEntry) → e.place ≡ i → (group : Ranges) → IsIn old e group → IsIn new e group
    in_still e place group had = any-map (IsShelved old e) (IsShelved new e) (shelved_still e place) group.shelves.items had

-- after a change of a key
pub entered_touched : (revision : ℕ) (key : List ℕ) (groups : Groups) (ws : List (Option Watcher)) → AreEntered groups ws
    → AreEntered groups (map (option_map (touch_key revision key)) ws)
entered_touched revision key groups ws entered i w at =
    let was = before (slice_index_or ws i None) w (sym (slot_of_map (touch_key revision key) ws i) ∙ at) in
    subst (λ (x : Watched). IsGrouped groups x i (map (option_map (touch_key revision key)) ws)) was.2
    (grouped_still groups ws (map (option_map (touch_key revision key)) ws) was.0.watched i
    (λ v is idle.
    let had = before (slice_index_or ws i None) v (sym (slot_of_map (touch_key revision key) ws i) ∙ is) in
    (had.0, had.1, had.4 idle, had.3))
    (entered i was.0 was.1))
  where
    unmade : (b : Bool) (o : Option ℕ) → first_with revision b o ≡ None → o ≡ None
    unmade b None none = refl
    unmade b (Some n) none = absurd (cc)

    before : (o : Option Watcher) (v : Watcher) → option_map (touch_key revision key) o ≡ Some v
        → (u : Watcher) × (o ≡ Some u) × (u.watched ≡ v.watched) × (u.seen ≡ v.seen) × (v.first ≡ None → u.first ≡ None)
    before None v is = absurd (cc)
    before (Some u) v is =
        let same : touch_key revision key u ≡ v = same_Some (touch_key revision key u) v is in (
          u,
          refl,
          ap (λ (x : Watcher). x.watched) same,
          ap (λ (x : Watcher). x.seen) same,
          λ none. unmade (nat_lt u.seen revision && is_watched u.watched key) u.first (ap (λ (x : Watcher). x.first) same ∙ none),
        )

-- one watcher more
pub entered_more : (groups : Groups) (ws : List (Option Watcher)) (w : Watcher)
    → ((all : List (Option Watcher)) → IsGrouped groups w.watched (length ws) all) → AreEntered groups ws → AreEntered groups (ws ++ Some w ∷ [])
entered_more groups ws w new entered i v at =
    elim (slot_of_more ws w v i at) [
      | inl before ↦ grouped_still groups ws (ws ++ Some w ∷ []) v.watched i (same_still ws (ws ++ Some w ∷ []) i (at ∙ sym before)) (entered i v before)
      | inr here ↦ subst (λ (x : Watcher). IsGrouped groups x.watched i (ws ++ Some w ∷ [])) here.1
          (subst (λ (k : ℕ). IsGrouped groups w.watched k (ws ++ Some w ∷ [])) (sym here.0) (new (ws ++ Some w ∷ [])))
    ]

-- those at other places
others : (old new : Groups) (ws : List (Option Watcher)) (place : ℕ) (slot : Option Watcher) (i : ℕ) (w : Watcher)
    → ((key : List ℕ) (g : ℕ) → get_by_text old.keys key ≡ Some g → get_by_text new.keys key ≡ Some g)
    → ((g : ℕ) (e : RangeEntry) → e.place ≢ place → HasIn ws old.groups.items g e → HasIn ws new.groups.items g e)
    → AreEntered old ws → i ≢ place → slice_index_or (slice_set ws place slot) i None ≡ Some w → IsGrouped new w.watched i (slice_set ws place slot)
others old new ws place slot i w keys entries entered differs at =
    let same = get_or-set_other ws place i slot None differs in
    grouped_still new ws (slice_set ws place slot) w.watched i (same_still ws (slice_set ws place slot) i same)
    (grouped_same old new ws ws w.watched i keys (λ g e is. entries g e (λ here. differs (sym is ∙ here))) (entered i w (sym same ∙ at)))

-- one watcher less
pub entered_less : (old new : Groups) (ws : List (Option Watcher)) (place : ℕ) → new.keys ≡ old.keys
    → ((ws : List (Option Watcher)) (g : ℕ) (e : RangeEntry) → e.place ≢ place → HasIn ws old.groups.items g e → HasIn ws new.groups.items g e)
    → IsSome (slice_index_or ws place None) → AreEntered old ws → AreEntered new (slice_set ws place None)
entered_less old new ws place keys entries some entered i w at =
    elim (cases_eq i place) [
      | inl same ↦
          let none : slice_index_or (slice_set ws place None) place None ≡ None = get_or-set_same ws place None None (within ws place some) in
          let here : slice_index_or (slice_set ws place None) place None ≡ Some w =
          subst (λ (n : ℕ). slice_index_or (slice_set ws place None) n None ≡ Some w) same at in
          absurd (cc)
      | inr differs ↦ others old new ws place None i w (λ key g is. ap (λ m. get_by_text m key) keys ∙ is) (entries ws) entered differs at
    ]

-- one that was polled, and may be idle now
pub entered_polled : (old new : Groups) (ws : List (Option Watcher)) (place : ℕ) (was is : Watcher) → slice_index_or ws place None ≡ Some was
    → is.watched ≡ was.watched → GroupsKeep old new
    → ((one other : List (Option Watcher)) → IsGrouped old is.watched place one → IsGrouped new is.watched place other)
    → AreEntered old ws → AreEntered new (slice_set ws place (Some is))
entered_polled old new ws place was is there watched keeps woken entered i w at =
    elim (cases_eq i place) [
      | inl same ↦
          let all : List (Option Watcher) = slice_set ws place (Some is) in
          let here : is ≡ w = same_Some is w (sym (get_or-set_same ws place (Some is) None (within ws place (subst IsSome (sym there) refl)))
          ∙ subst (λ (n : ℕ). slice_index_or all n None ≡ Some w) same at) in
          subst (λ (n : ℕ). IsGrouped new w.watched n all) (sym same)
          (subst (λ (x : Watcher). IsGrouped new x.watched place all) here
          (woken ws all (subst (λ (x : Watched). IsGrouped old x place ws) (sym watched) (entered place was there))))
      | inr differs ↦ others old new ws place (Some is) i w keeps.keys (λ g e other. keeps.entries ws g e) entered differs at
    ]
