-- What runs tell of a range of keys, and the next change of a range.
use Rattle.std.proofs.Common.{◌≡◌, ℕ, ◌+◌, ◌-◌, ◌≤◌, ◌<◌, max, Bool, true, false, cond, not, ◌&&◌, ◌||◌, List, [], ◌∷◌, ◌++◌, length, map, reverse, get_or, drop, suc}
use Rattle.std.proofs.Common.{Option, Some, None, zero, refl, sym, ◌∙◌, ap, subst, arith, ⊎_elim, eqb-true, eq-eqb}
use Rattle.std.specs.Prelude.{nat_eq}
use Rattle.std.specs.Option.{option_or}
use Rattle.std.specs.List.{list_any, AllByRecursion}
use Rattle.std.specs.List.Sorted.{IsSorted, IsSortedByKey, IsPartitionedBy, IsPartitionPoint}
use Rattle.std.specs.Ordering.{nat_cmp, is_lt, is_le, ordering_reverse}
use Rattle.std.specs.declared.cmp.Ordering.{Ordering}
use Rattle.std.specs.declared.cmp.Ordering.TheVariants.{Less, Equal, Greater}
use Rattle.std.specs.Cmp.{IsStrictWeakOrder}
use Rattle.std.specs.Cmp.Lexicographic.{slice_cmp, nat_list_cmp_total}
use Rattle.std.proofs.lemmas.Bool.{cases_Bool, cases_lt, eqb-false, lt-ltb, le-ltb, Decides.nat_tests}
use Rattle.std.proofs.lemmas.List.{get_or_append_left, get_or_default, length_push}
use Rattle.std.proofs.lemmas.List.Elements.{All-from_get_or}
use Rattle.std.proofs.lemmas.List.Folds.{list_any_none, list_any_at, list_any-append}
use Rattle.std.proofs.lemmas.List.MinMax.{ranks_by}
use Rattle.std.proofs.lemmas.List.Sorted.{sorted_far}
use Rattle.stm_history.specs.declared.change.Change.{Change}
use Rattle.stm_history.specs.declared.key_state.KeyState.{KeyState}
use Rattle.stm_history.specs.Opening.{Opening}
use Rattle.stm_history.specs.History.{number_of_last, key_after}
use Rattle.stm_keys.specs.declared.event.Event.{Event}
use Rattle.stm_keys.specs.declared.run.Ahead.{Ahead}
use Rattle.stm_keys.specs.declared.run.Ahead.TheVariants.{Idle, Unknown}
use Rattle.stm_keys.specs.Events.{event_of, events_above, events_numbered, key_of_event}
use Rattle.stm_keys.specs.Keys.{changes_of, IsKept}
use Rattle.stm_keys.specs.Chains.{Chain, events_with}
use Rattle.stm_keys.specs.NextChange.{changed_above, first_change, changes_any, is_between}
use Rattle.stm_keys.specs.Runs.{Run, is_any_about, HasKeysOf, SumsUp, IsAhead, IsPassed}
use Rattle.stm_keys.proofs.Recorded.{key_of_event-event_of, none_numbered}
use Rattle.stm_keys.proofs.Showing.{none_above}
use Rattle.stm_keys.proofs.Fields.{events_at}

-- ---- the keys of a range, by halves

comes_before : List ℕ → List ℕ → Bool
comes_before x y = is_lt (slice_cmp nat_cmp x y)

ordered : IsStrictWeakOrder comes_before
unfolding comes_before
ordered = ranks_by nat_list_cmp_total (λ (x : List ℕ). x)

not_both : (b : Bool) → b ≡ true → b ≡ false → ⊥
not_both b is not = grind (arith, nat_tests)

pub not_true : (b : Bool) → not b ≡ true → b ≡ false
not_true b is = grind (arith, nat_tests)

module _ {X : Type 0} (key : X → List ℕ) (bound : List ℕ) (xs : List X) (sorted : IsSortedByKey key (slice_cmp nat_cmp) xs) where
  -- what stands behind does not come before
  far : (i j : ℕ) (d : X) → i ≤ j → j < length xs → comes_before (key (get_or xs j d)) (key (get_or xs i d)) ≡ false
  unfolding comes_before
  far = sorted_far (λ x y. is_lt (slice_cmp nat_cmp (key x) (key y))) (ranks_by nat_list_cmp_total key) xs sorted

  -- what is in order is parted by whether it comes before a bound
  pub parted : IsPartitionedBy (λ x. is_lt (slice_cmp nat_cmp (key x) bound)) xs
  unfolding comes_before
  parted i j d le within before =
      ⊎_elim (λ is. is)
      (λ not. absurd (not_both (comes_before (key (get_or xs j d)) bound) before
      (ordered.chain (key (get_or xs j d)) (key (get_or xs i d)) bound (far i j d le within) not)))
      (cases_Bool (comes_before (key (get_or xs i d)) bound))

  -- and by whether it does not come behind one
  pub parted_behind : IsPartitionedBy (λ x. not (is_lt (slice_cmp nat_cmp bound (key x)))) xs
  unfolding comes_before
  parted_behind i j d le within is =
      ap not (ordered.chain bound (key (get_or xs j d)) (key (get_or xs i d))
      (not_true (comes_before bound (key (get_or xs j d))) is) (far i j d le within))

pub turned : (o : Ordering) → is_lt o ≡ true → is_le (ordering_reverse o) ≡ false
turned Less before = refl
turned Equal before = cc
turned Greater before = cc

-- a key before the first is not in the range, nor is one that is not before the end
too_low : (first end key : List ℕ) → is_lt (slice_cmp nat_cmp key first) ≡ true → is_between first end key ≡ false
too_low first end key before =
    ap (λ b. b && is_lt (slice_cmp nat_cmp key end)) (ap is_le (nat_list_cmp_total.antisymm first key) ∙ turned (slice_cmp nat_cmp key first) before)

too_high : (first end key : List ℕ) → is_lt (slice_cmp nat_cmp key end) ≡ false → is_between first end key ≡ false
too_high first end key past = grind (arith, nat_tests, cases_Bool)

unturned : (o : Ordering) → is_lt o ≡ false → is_le (ordering_reverse o) ≡ true
unturned Less past = cc
unturned Equal past = refl
unturned Greater past = refl

-- a key that is not before the first and is below the end is in the range
falls_between : (first end key : List ℕ) → is_lt (slice_cmp nat_cmp key first) ≡ false → is_lt (slice_cmp nat_cmp key end) ≡ true → is_between first end key ≡ true
falls_between first end key past before =
    ap (λ b. b && is_lt (slice_cmp nat_cmp key end)) (ap is_le (nat_list_cmp_total.antisymm first key) ∙ unturned (slice_cmp nat_cmp key first) past) ∙ before

module _ (first end : List ℕ) (keys : List (List ℕ)) (place : ℕ) (sorted : IsSorted (slice_cmp nat_cmp) keys)
    (cut : IsPartitionPoint (λ key. is_lt (slice_cmp nat_cmp key first) ≡ true) (λ key. is_lt (slice_cmp nat_cmp key first) ≡ false) keys place) where
  -- no key is in the range where the one at the place is not below the end, or there is none
  pub none_between : ((d : List ℕ) → place < length keys → is_lt (slice_cmp nat_cmp (get_or keys place d) end) ≡ false) →
      list_any (is_between first end) keys ≡ false
  unfolding comes_before
  none_between past =
      list_any_none (is_between first end) keys
      (All-from_get_or (λ key. is_between first end key ≡ false) keys [] (λ j within.
      ⊎_elim (λ low. too_low first end (get_or keys j []) (cut.0 j [] (omega arith) low))
      (λ high. too_high first end (get_or keys j [])
      (ordered.chain (get_or keys j []) (get_or keys place []) end (sorted_far comes_before ordered keys sorted place j [] (omega arith) within)
      (past [] (omega arith))))
      (cases_lt j place)))

  -- and the one at the place is in it where it is below the end
  pub one_between : place < length keys → is_lt (slice_cmp nat_cmp (get_or keys place []) end) ≡ true → list_any (is_between first end) keys ≡ true
  one_between within before =
      list_any_at (is_between first end) keys place [] within (falls_between first end (get_or keys place []) (cut.1 place [] (omega arith) within) before)

-- ---- the keys of a run

either_false : (a b : Bool) → (a || b) ≡ false → (a ≡ false) × (b ≡ false)
either_false a b none = grind (arith, nat_tests)

pub any_of_keys : (passes : List ℕ → Bool) (events : List Event) → list_any passes (map key_of_event events) ≡ is_any_about passes events
any_of_keys passes [] = refl
any_of_keys passes (e ∷ es) = grind (arith, nat_tests, any_of_keys passes es)

-- more keys are those of the same events
pub more_keys : (keys more : List (List ℕ)) (events : List Event) → HasKeysOf keys events → HasKeysOf (keys ++ more) events
more_keys keys more events has = λ passes none.
    has passes (either_false (list_any passes keys) (list_any passes more) (sym (list_any-append passes keys more) ∙ none)).0

-- and with their own keys of others
pub own_keys : (keys : List (List ℕ)) (events : List Event) → HasKeysOf (keys ++ map key_of_event events) events
own_keys keys events = λ passes none.
    sym (any_of_keys passes events)
    ∙ (either_false (list_any passes keys) (list_any passes (map key_of_event events))
    (sym (list_any-append passes keys (map key_of_event events)) ∙ none)).1

pub each_more : {X : Type 0} (P : X → Type 0) (xs : List X) (x : X) → AllByRecursion P xs → P x → AllByRecursion P (xs ++ x ∷ [])
each_more P [] x all is = (is, tt)
each_more P (y ∷ ys) x all is = (all.0, each_more P ys x all.1 is)

pub each_at : {X : Type 0} (P : X → Type 0) (xs : List X) (i : ℕ) (d : X) → AllByRecursion P xs → i < length xs → P (get_or xs i d)
each_at P [] i d all within = absurd (omega arith)
each_at P (y ∷ ys) zero d all within = all.0
each_at P (y ∷ ys) (suc i) d all within = each_at P ys i d all.1 (omega arith)

pub each_rest : {X : Type 0} (P : X → Type 0) (xs : List X) → AllByRecursion P xs → AllByRecursion P (drop 1 xs)
each_rest P [] all = tt
each_rest P (x ∷ xs) all = all.1

each_so : {X : Type 0} (P Q : X → Type 0) → ((x : X) → P x → Q x) → (xs : List X) → AllByRecursion P xs → AllByRecursion Q xs
each_so P Q so [] all = tt
each_so P Q so (x ∷ xs) all = (so x all.0, each_so P Q so xs all.1)

-- they stay so with one more revision
pub summed_with : (below : ℕ) (xs ys : List (List Event)) (events : List Event) (runs : List Run) → ys ≡ xs ++ events ∷ [] →
    AllByRecursion (SumsUp below xs) runs → AllByRecursion (SumsUp below ys) runs
summed_with below xs ys events runs is =
    each_so (SumsUp below xs) (SumsUp below ys) (λ run sums. record {
      reached = (let long : length ys ≡ length xs + 1 = ap (λ (l : List (List Event)). length l) is ∙ length_push xs events in omega (arith, sums.reached, long));
      each = λ number above from upto.
          subst (HasKeysOf run.keys)
          (sym (ap (λ (l : List (List Event)). events_with below l number) is
          ∙ get_or_append_left xs (events ∷ []) [] (number - below - 1) (omega (arith, sums.reached))))
          (sums.each number above from upto);
    }) runs

-- and without the oldest
pub summed_without : (below : ℕ) (xs rest : List (List Event)) (events : List Event) (runs : List Run) → xs ≡ events ∷ rest →
    AllByRecursion (SumsUp below xs) runs → AllByRecursion (SumsUp (below + 1) rest) runs
summed_without below xs rest events runs is =
    each_so (SumsUp below xs) (SumsUp (below + 1) rest) (λ run sums. record {
      reached = (let long : length xs ≡ suc (length rest) = ap (λ (l : List (List Event)). length l) is in omega (arith, sums.reached, long));
      each = λ number above from upto.
          let place : number - below - 1 ≡ suc (number - (below + 1) - 1) = omega arith in
          subst (HasKeysOf run.keys)
          (ap (λ (l : List (List Event)). events_with below l number) is ∙ ap (λ (i : ℕ). get_or (events ∷ rest) i []) place)
          (sums.each number (omega arith) from upto);
    }) runs

-- ---- the next change of a range

any_shown : (n : ℕ) (before : List ℕ → Option KeyState) (passes : List ℕ → Bool) (cs : List Change) →
    is_any_about passes (map (event_of n before) cs) ≡ changes_any passes cs
any_shown n before passes [] = refl
any_shown n before passes (c ∷ cs) = grind (arith, nat_tests, key_of_event-event_of, any_shown n before passes cs)

-- whether the newest of these revisions, of which the number is n, changes such a key
newest_shown : (opening : Opening) (n : ℕ) (passes : List ℕ → Bool) (changes : List Change) (older : List (List Change)) (b : Bool) →
    n ≡ number_of_last opening (changes ∷ older) → is_any_about passes (events_numbered opening n (changes ∷ older)) ≡ b → changes_any passes changes ≡ b
newest_shown opening n passes changes older b is shown =
    let last : ℕ = number_of_last opening (changes ∷ older) in
    sym (any_shown last (λ key. key_after opening key older) passes changes)
    ∙ ap (λ b. is_any_about passes (cond b (events_above opening changes older) (events_numbered opening n older))) (sym (eq-eqb last n (sym is)))
    ∙ shown

-- what the older ones show is what all of them do, where the newest has another number
older_shown : (opening : Opening) (n : ℕ) (passes : List ℕ → Bool) (changes : List Change) (older : List (List Change)) →
    is_any_about passes (events_numbered opening n (changes ∷ older)) ≡ false → is_any_about passes (events_numbered opening n older) ≡ false
older_shown opening n passes changes older none =
    let last : ℕ = number_of_last opening (changes ∷ older) in
    ⊎_elim (λ same. ap (is_any_about passes) (none_above opening n older (let is = eqb-true last n same in omega arith)))
    (λ other. ap (λ b. is_any_about passes (cond b (events_above opening changes older) (events_numbered opening n older))) (sym other) ∙ none)
    (cases_Bool (nat_eq last n))

same_above : (above upto number : ℕ) (passes : List Change → Bool) (changes : List Change) → above ≤ upto →
    (above < number → number ≤ upto → passes changes ≡ false) → changed_above above passes number changes ≡ changed_above upto passes number changes
same_above above upto number passes changes le none = grind (arith, nat_tests, cases_lt, lt-ltb, le-ltb)

-- revisions that change no such key are passed over
pub idle_passed : (opening : Opening) (above upto : ℕ) (passes : List ℕ → Bool) (revisions : List (List Change)) → above ≤ upto →
    ((n : ℕ) → above < n → n ≤ upto → is_any_about passes (events_numbered opening n revisions) ≡ false) →
    first_change opening above (changes_any passes) revisions ≡ first_change opening upto (changes_any passes) revisions
idle_passed opening above upto passes [] le none = refl
idle_passed opening above upto passes (changes ∷ older) le none =
    let last : ℕ = number_of_last opening (changes ∷ older) in
    ap (λ (o : Option ℕ). option_or o (changed_above above (changes_any passes) last changes))
    (idle_passed opening above upto passes older le (λ n later reached. older_shown opening n passes changes older (none n later reached)))
    ∙ ap (option_or (first_change opening upto (changes_any passes) older))
    (same_above above upto last (changes_any passes) changes le
    (λ later reached. newest_shown opening last passes changes older false refl (none last later reached)))

-- those up to the opening number are none
pub from_the_later : (opening : Opening) (above : ℕ) (passes : List ℕ → Bool) (revisions : List (List Change)) →
    first_change opening above (changes_any passes) revisions ≡ first_change opening (max above opening.number) (changes_any passes) revisions
from_the_later opening above passes revisions =
    ⊎_elim
    (λ less. idle_passed opening above opening.number passes revisions (omega arith)
    (λ n later reached. ap (is_any_about passes) (none_numbered opening n revisions reached))
    ∙ ap (λ (m : ℕ). first_change opening m (changes_any passes) revisions) (omega arith))
    (λ more. ap (λ (m : ℕ). first_change opening m (changes_any passes) revisions) (omega arith))
    (cases_lt above opening.number)

pub nothing_later : (opening : Opening) (above : ℕ) (passes : List Change → Bool) (revisions : List (List Change)) → number_of_last opening revisions ≤ above →
    first_change opening above passes revisions ≡ None
nothing_later opening above passes [] past = refl
nothing_later opening above passes (changes ∷ older) past = grind (arith, nat_tests, le-ltb, nothing_later opening above passes older (omega arith))

newest_found : (above number : ℕ) (passes : List Change → Bool) (changes : List Change) (o : Option ℕ) → o ≡ None → above < number → passes changes ≡ true →
    option_or o (changed_above above passes number changes) ≡ Some number
newest_found above number passes changes o none less is = grind (arith, nat_tests, lt-ltb)

-- the next one that changes such a key is found
pub next_is : (opening : Opening) (passed : ℕ) (passes : List ℕ → Bool) (revisions : List (List Change)) → opening.number ≤ passed →
    passed < number_of_last opening revisions → is_any_about passes (events_numbered opening (suc passed) revisions) ≡ true →
    first_change opening passed (changes_any passes) revisions ≡ Some (suc passed)
next_is opening passed passes [] opened reached any = absurd (omega arith)
next_is opening passed passes (changes ∷ older) opened reached any =
    let last : ℕ = number_of_last opening (changes ∷ older) in
    ⊎_elim
    (λ same.
    let is : last ≡ suc passed = eqb-true last (suc passed) same in
    newest_found passed last (changes_any passes) changes (first_change opening passed (changes_any passes) older)
    (nothing_later opening passed (changes_any passes) older (omega arith)) (omega arith)
    (newest_shown opening (suc passed) passes changes older true (sym is) any)
    ∙ ap (λ (n : ℕ). Some n) is)
    (λ other.
    let apart = eqb-false last (suc passed) other in
    ap (λ (o : Option ℕ). option_or o (changed_above passed (changes_any passes) last changes))
    (next_is opening passed passes older opened (omega arith)
    (ap (λ b. is_any_about passes (cond b (events_above opening changes older) (events_numbered opening (suc passed) older))) (sym other) ∙ any)))
    (cases_Bool (nat_eq last (suc passed)))

-- what runs say of recorded revisions is so in the history
module _ (opening : Opening) (xs : List (List Event)) (chains : List ℕ → Option Chain) (passes : List ℕ → Bool) (passed : ℕ)
    (kept : IsKept opening (reverse xs) chains) (opened : opening.number ≤ passed) where
  same_events : (n : ℕ) → passed < n → n ≤ opening.number + length xs →
      is_any_about passes (events_numbered opening n (changes_of (reverse xs))) ≡ is_any_about passes (events_with opening.number xs n)
  same_events n later reached =
      let place : ℕ = n - opening.number - 1 in
      let within : place < length xs = omega arith in
      ap (is_any_about passes)
      (events_at opening n xs chains place kept within (omega arith) (get_or xs place []) (get_or_default xs place [] (get_or xs place []) within))

  pub ahead_in : (ahead : Ahead) → IsAhead opening.number xs passes passed ahead →
      IsPassed (record { opening = opening; revisions = changes_of (reverse xs) }) passes passed ahead
  ahead_in (Idle upto) idle = (
    idle.later,
    idle_passed opening passed upto passes (changes_of (reverse xs)) (omega (arith, idle.later))
        (λ n later reached. same_events n later (omega (arith, idle.reached)) ∙ idle.none n (omega arith) later reached),
  )
  ahead_in (Unknown upto) known = tt
