-- Keys in the order of their bytes, and the bounds of ranges.
use Rattle.std.proofs.Common.{◌≡◌, ◌⊎◌, ◌<◌, ℕ, Bool, true, false, ◌&&◌, ◌||◌, List, [], ◌∷◌, ◌++◌, refl, sym, subst, ap, ◌∙◌, arith}
use Rattle.std.specs.Prelude.{nat_lt}
use Rattle.std.proofs.Math.Bool.{or-true}
use Rattle.std.proofs.lemmas.Bool.{cases_Bool, lt-ltb, Decides.nat_tests}
use Rattle.std.proofs.lemmas.Cmp.{nat_list_cmp_total, nat_cmp_total}
use Rattle.std.proofs.lemmas.Slice.Eq.{bytes_eq-Decides}
use Rattle.std.specs.Cmp.{tied_itself}
use Rattle.std.specs.Cmp.Lexicographic.{slice_cmp}
use Rattle.std.specs.declared.cmp.Ordering.{Ordering}
use Rattle.std.specs.Ordering.{nat_cmp, is_lt, is_le, is_gt, ordering_reverse, ordering_then}
use Rattle.stm_keys.specs.declared.event.Event.{Event}
use Rattle.stm_keys.specs.Within.{is_within, those_within}
use Rattle.stm_watch.specs.declared.page.Bounds.{Bounds}
use Rattle.stm_watch.specs.declared.page.RangeEntry.{RangeEntry}
use Rattle.stm_watch.specs.declared.page.Reach.{Reach}
use Rattle.stm_watch.specs.declared.watched.Watched.{Watched}
use Rattle.stm_watch.specs.declared.watched.Watched.TheVariants.{Key, Range}
use Rattle.stm_watch.specs.Keys.{is_watched, first_key, last_key}
use Rattle.stm_watch.specs.Pending.{matching}
use Rattle.stm_watch.specs.Pages.{IsInside, IsWithin, HasAll, end_of, may_have}

-- ---- one comparison

turned : (r : Ordering) → is_lt r ≡ false → is_le (ordering_reverse r) ≡ true
turned r never = grind (arith, nat_tests)

reversed : (r : Ordering) → is_gt r ≡ true → is_le (ordering_reverse r) ≡ true
reversed r gt = grind (arith, nat_tests)

-- ---- keys

pub le_itself : (x : List ℕ) → is_le (slice_cmp nat_cmp x x) ≡ true
le_itself x = ap is_le (tied_itself nat_list_cmp_total x)

pub le_turned : (x y : List ℕ) → is_lt (slice_cmp nat_cmp x y) ≡ false → is_le (slice_cmp nat_cmp y x) ≡ true
le_turned x y never = ap is_le (nat_list_cmp_total.antisymm y x) ∙ turned (slice_cmp nat_cmp x y) never

pub le_from_gt : (x y : List ℕ) → is_gt (slice_cmp nat_cmp x y) ≡ true → is_le (slice_cmp nat_cmp y x) ≡ true
le_from_gt x y gt = ap is_le (nat_list_cmp_total.antisymm y x) ∙ reversed (slice_cmp nat_cmp x y) gt

pub le_chain : (x y z : List ℕ) → is_le (slice_cmp nat_cmp x y) ≡ true → is_le (slice_cmp nat_cmp y z) ≡ true → is_le (slice_cmp nat_cmp x z) ≡ true
le_chain x y z one other = grind (arith, nat_tests, nat_list_cmp_total)

-- ---- a key of a range

pub both : (a b : Bool) → (a && b) ≡ true → (a ≡ true) × (b ≡ true)
both a b is = grind (arith, nat_tests)

-- a key of a range is in the bounds that the range is within
pub in_bounds : (e : RangeEntry) (bounds : Bounds) (key : List ℕ) → IsWithin e bounds → is_watched (Range e.first e.end) key ≡ true
    → is_watched (Range bounds.low bounds.high) key ≡ true
in_bounds e bounds key within has = grind (arith, nat_tests, both, le_chain, nat_list_cmp_total)

-- what is within bounds is within wider ones
pub within_wider : (e : RangeEntry) (old new : Bounds) → is_le (slice_cmp nat_cmp new.low old.low) ≡ true → is_le (slice_cmp nat_cmp old.high new.high) ≡ true
    → IsWithin e old → IsWithin e new
within_wider e old new lower higher within = grind (arith, nat_tests, le_chain)

-- a page is looked at for a range within its bounds, and where the revision is past those of the bounds
pub is_concerned : (e : RangeEntry) (reach : Reach) (revision : ℕ) (key : List ℕ) → is_watched (Range e.first e.end) key ≡ true
    → (reach.until < revision) ⊎ IsInside e reach.bounds → (nat_lt reach.until revision || may_have reach.bounds key) ≡ true
is_concerned e reach revision key has looked = grind (arith, nat_tests, lt-ltb, or-true, in_bounds)

-- what is watched is within its first and last key
pub watched_within : (watched : Watched) (key : List ℕ) → is_watched watched key ≡ true → is_within (first_key watched) (last_key watched) key ≡ true
watched_within (Key watched) key is =
    subst (λ (k : List ℕ). is_within watched watched k ≡ true) ((bytes_eq-Decides watched key).0 is)
    (ap (λ b. b && b) (le_itself watched))
watched_within (Range first end) key is = grind (arith, nat_tests, both)

matching_again : (watched : Watched) (events : List Event) →
    matching watched (those_within (first_key watched) (last_key watched) events) ≡ matching watched events
matching_again watched [] = refl
matching_again watched (e ∷ es) = grind (arith, nat_tests, cases_Bool, watched_within, matching_again watched es)

-- so that events match that are among those within
pub matching_same : (watched : Watched) (some all : List Event) →
    those_within (first_key watched) (last_key watched) some ≡ those_within (first_key watched) (last_key watched) all → matching watched some ≡ matching watched all
matching_same watched some all same = sym (matching_again watched some) ∙ ap (matching watched) same ∙ matching_again watched all

-- ---- a range of one key

then_less : (x : ℕ) (r : Ordering) → is_lt r ≡ true → is_lt (ordering_then (nat_cmp x x) r) ≡ true
then_less x r lt = ap (λ o. is_lt (ordering_then o r)) (tied_itself nat_cmp_total x) ∙ lt

below_longer : (key : List ℕ) (last : ℕ) → is_lt (slice_cmp nat_cmp key (key ++ last ∷ [])) ≡ true
below_longer [] last = refl
below_longer (x ∷ key) last = then_less x (slice_cmp nat_cmp key (key ++ last ∷ [])) (below_longer key last)

-- a range has all keys that it is made for
pub has_its_own : (watched : Watched) (place : ℕ)
    → HasAll (let e : RangeEntry = record { first = first_key watched; end = end_of watched; place = place } in e) watched
has_its_own watched place key is = grind (arith, nat_tests, bytes_eq-Decides, le_itself, below_longer)
