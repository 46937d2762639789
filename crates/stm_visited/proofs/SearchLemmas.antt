-- What each step of the search shows.
use Rattle.std.proofs.Common.{◌≡◌, ℕ, zero, suc, ◌+◌, ◌<◌, ◌≤◌, Bool, true, false, ◌||◌, cond, List, [], ◌∷◌, ◌++◌, length, get_or, map, take, drop, Contains, Option, Some, None, is_some, inl, inr, ◌⊎◌}
use Rattle.std.proofs.Common.{option_map, flat_map, refl, sym, ◌∙◌, ap, subst, arith, append_assoc}
use Rattle.std.proofs.Math.Seq.{drop-cons}
use Rattle.std.proofs.lemmas.List.{get_or_default}
use Rattle.std.specs.Prelude.{not, ◌==◌}
use Rattle.std.specs.Cmp.{unsigned_Decides}
use Rattle.std.specs.List.{list_any, list_all}
use Rattle.std.specs.Option.{option_or}
use Rattle.std.proofs.lemmas.Bool.Decides.{nat_tests}
use Rattle.stm_visited.specs.declared.visited.Visited.TheVariants.{Broken}
use Rattle.stm_visited.specs.Search.{Steps, first_of, bad_at, first_bad, goes_on, total, count_at, count_up_to}
use Rattle.stm_visited.specs.Alike.{Respects}
use Rattle.stm_visited.specs.Layers.{Reached, bad_among, on_among, count_among, StandFor, AreEnough, reached_by_each, moved_from, moved_from_each, IsLayer}
use Rattle.stm_visited.specs.declared.breaks.Ending.TheVariants as ending
use Rattle.stm_visited.specs.Answers.{IsVisited, OpenIsSpent, OpenIsFar, EachIs, answer_of}
use Rattle.stm_visited.proofs.Founds.{total_append, total_ones}
use Rattle.stm_visited.proofs.LayerLemmas.{joined, layers_go_on}

pub some_there : {A : Type 0} (xs : List A) (b : Bool) → b ≡ (length xs == 0) → not b ≡ list_any (λ x. true) xs
some_there [] true is = refl
some_there [] false is = absurd (cc)
some_there (x ∷ xs) true is = let none : length (x ∷ xs) ≡ 0 = (unsigned_Decides (length (x ∷ xs)) 0).0 (sym is) in absurd (omega (arith, none))
some_there (x ∷ xs) false is = refl

-- places that are the same are alike
alike_to_itself : {P M O : Type 0} (s : Steps P M O) → Respects P M O s (λ p q. p ≡ q)
alike_to_itself s = grind (arith, nat_tests)

-- ---- each of several with its number

pub each_map : {A B : Type 0} (f : A → B) (Q : ℕ → A → Type 0) (R : ℕ → B → Type 0) (xs : List A) → ((n : ℕ) (x : A) → Q n x → R n (f x)) → EachIs Q xs → EachIs R (map f xs)
each_map f Q R [] step each n d within = absurd (omega (arith, within))
each_map f Q R (x ∷ xs) step each zero d within = step 0 x (each 0 x (omega arith))
each_map f Q R (x ∷ xs) step each (suc n) d within =
    each_map f (λ k. Q (suc k)) (λ k. R (suc k)) xs (λ k. step (suc k)) (λ k e w. each (suc k) e (omega (arith, w))) n d (omega (arith, within))

pub each_push : {A : Type 0} (Q : ℕ → A → Type 0) (xs : List A) (x : A) → EachIs Q xs → Q (length xs) x → EachIs Q (xs ++ x ∷ [])
each_push Q [] x each more zero d within = more
each_push Q [] x each more (suc n) d within = absurd (omega (arith, within))
each_push Q (y ∷ ys) x each more zero d within = each 0 y (omega arith)
each_push Q (y ∷ ys) x each more (suc n) d within = grind (arith, nat_tests, each_push (λ k. Q (suc k)) ys x (λ k e w. each (suc k) e (omega (arith, w))) more)

-- ---- one place more

pub appended : {P M O : Type 0} (s : Steps P M O) (rs others : List (Reached P M)) (r : Reached P M) → StandFor P M O s rs others → StandFor P M O s (rs ++ r ∷ []) (others ++ r ∷ [])
appended {P} {M} {O} s rs others r stand = (layers_go_on s (λ p q. p ≡ q) (alike_to_itself s)).added rs others (r ∷ []) stand

pub left_out : {P M O : Type 0} (s : Steps P M O) (Alike : P → P → Type 0) → Respects P M O s Alike → (rs others : List (Reached P M)) (r : Reached P M) → StandFor P M O s rs others →
    (it : Reached P M) × Contains rs it × Alike r.place it.place → StandFor P M O s rs (others ++ r ∷ [])
left_out s Alike re rs others r stand seen = (layers_go_on s Alike re).skipped rs others r seen.0 stand seen.1 seen.2

-- ---- the moves of one place more

append_nil : {A : Type 0} (xs : List A) → xs ++ [] ≡ xs
append_nil [] = refl
append_nil (x ∷ xs) = ap (λ ys. x ∷ ys) (append_nil xs)

flat_append : {A B : Type 0} (f : A → List B) (xs : List A) (x : A) → flat_map f (xs ++ x ∷ []) ≡ flat_map f xs ++ f x
flat_append f [] x = append_nil (f x)
flat_append f (y ∷ xs) x = ap (λ ys. f y ++ ys) (flat_append f xs x) ∙ sym (append_assoc (f y) (flat_map f xs) (f x))

-- ---- the answers

pub on_from_here : {P M O : Type 0} (s : Steps P M O) (rs : List (Reached P M)) (i : ℕ) (r : Reached P M) (p : P) → i < length rs → r ≡ get_or rs i r → p ≡ r.place →
    list_any (λ m. true) (s.moves p) ≡ true → on_among s 1 rs ≡ on_among s 1 (drop i rs) → on_among s 1 rs ≡ true
on_from_here {P} {M} {O} s rs i r p within is same some on = grind (arith, nat_tests, drop-cons)

long : {P M O : Type 0} (s : Steps P M O) (n : ℕ) (p : P) (ms : List M) → bad_at s n p ≡ Some ms → length ms ≡ n
long s zero p ms is = by_test (s.keeps p) ms is
  where
    by_test : {M : Type 0} (b : Bool) (ms : List M) → cond b None (Some []) ≡ Some ms → length ms ≡ 0
    by_test true ms is = absurd (cc)
    by_test false ms is = let e : [] ≡ ms = cc in ap length (sym e)
long {P} {M} {O} s (suc n) p ms is = in_one (λ m. bad_at s n (s.after m p)) n (λ m rest e. long s n (s.after m p) rest e) (s.moves p) ms is
  where
    in_one : {M : Type 0} (f : M → Option (List M)) (n : ℕ) → ((m : M) (rest : List M) → f m ≡ Some rest → length rest ≡ n) → (xs : List M) (ms : List M) →
        first_of (λ m. option_map (λ (rest : List M). m ∷ rest) (f m)) xs ≡ Some ms → length ms ≡ suc n
    in_one f n each [] ms is = absurd (cc)
    in_one {M} f n each (x ∷ xs) ms is = elim (f x) as (λ o. f x ≡ o → option_or (option_map (λ (rest : List M). x ∷ rest) o) (first_of (λ m. option_map (λ (rest : List M). m ∷ rest) (f m)) xs) ≡ Some ms → length ms ≡ suc n) [
      | None ↦ λ at e. in_one f n each xs ms e
      | Some rest ↦ λ at e. let same : (x ∷ rest) ≡ ms = cc in ap length (sym same) ∙ ap suc (each x rest at)
    ] refl is

-- what was found at a layer was found after as many moves
bad_of : {P M O : Type 0} (s : Steps P M O) (start : P) (k : ℕ) (rs : List (Reached P M)) → IsLayer P M O s start k rs → bad_among s 0 rs ≡ bad_at s k start
bad_of s start k rs layer = layer.bad 0 ∙ (let e : k + 0 ≡ k = omega arith in ap (λ j. bad_at s j start) e)

pub next_at : {P M O : Type 0} (s : Steps P M O) (start : P) (k : ℕ) (rs next : List (Reached P M)) → IsLayer P M O s start k rs → StandFor P M O s next (moved_from_each s rs) →
    IsLayer P M O s start (suc k) next
next_at s start k rs next layer stand = (layers_go_on s (λ p q. p ≡ q) (alike_to_itself s)).next start k rs next layer stand

pub none_at : {P M O : Type 0} (s : Steps P M O) (start : P) (k : ℕ) (next : List (Reached P M)) → IsLayer P M O s start (suc k) next → first_bad s k start ≡ None →
    bad_among s 0 next ≡ None → first_bad s (suc k) start ≡ None
none_at {P} {M} {O} s start k next layer none kept = grind (arith, nat_tests, bad_of)

pub broken_at : {P M O : Type 0} (s : Steps P M O) (start : P) (k : ℕ) (next : List (Reached P M)) (ms : List M) → IsLayer P M O s start (suc k) next → first_bad s k start ≡ None →
    bad_among s 0 next ≡ Some ms → IsVisited s start (Broken (ms))
broken_at {P} {M} {O} s start k next ms layer none found = grind (arith, nat_tests, bad_of, long)

pub nothing_there : {P M O : Type 0} (s : Steps P M O) (rs : List (Reached P M)) → rs ≡ [] → on_among s 1 rs ≡ false
nothing_there s rs is = ap (on_among s 1) is

-- ---- from one layer to the next

pub off_here : {P M O : Type 0} (s : Steps P M O) (rs : List (Reached P M)) (i : ℕ) (r : Reached P M) (p : P) → i < length rs → r ≡ get_or rs i r → p ≡ r.place →
    list_any (λ m. true) (s.moves p) ≡ false → on_among s 1 rs ≡ on_among s 1 (drop i rs) → on_among s 1 rs ≡ on_among s 1 (drop (i + 1) rs)
off_here {P} {M} {O} s rs i r p within is same none on =
    let e : drop i rs ≡ r ∷ drop (suc i) rs = drop-cons rs i r within ∙ ap (λ x. x ∷ drop (suc i) rs) (sym is) in
    let here : list_any (λ m. true) (s.moves r.place) ≡ false = ap (λ q. list_any (λ m. true) (s.moves q)) (sym same) ∙ none in
    let more : suc i ≡ i + 1 = omega arith in
    on ∙ ap (on_among s 1) e ∙ ap (λ b. b || on_among s 1 (drop (suc i) rs)) here ∙ ap (λ j. on_among s 1 (drop j rs)) more

-- a layer from which a move can be made
pub record HasCome (P M O : Type 0) (s : Steps P M O) (start : P) (k : ℕ) (rs : List (Reached P M)) : Type 0 where
  pub layer : IsLayer P M O s start k rs
  pub on : goes_on s (suc k) start ≡ true

-- whether a move can be made from a layer
on_from : {P M O : Type 0} (s : Steps P M O) (start : P) (k : ℕ) (rs : List (Reached P M)) → IsLayer P M O s start k rs → on_among s 1 rs ≡ goes_on s (suc k) start
on_from s start k rs layer = layer.on 1 ∙ (let e : k + 1 ≡ suc k = omega arith in ap (λ j. goes_on s j start) e)

-- ---- where the search starts

opened : {P M O : Type 0} (s : Steps P M O) (start : P) → IsLayer P M O s start 0 (record { place = start; path = [] } ∷ [])
opened s start = (layers_go_on s (λ p q. p ≡ q) (alike_to_itself s)).opens start

-- what is known of a rule after the schedules of up to k moves, by the one that was found to break it
abbrev pub IsKnown : {P M O : Type 0} → Steps P M O → P → ℕ → Option (List M) → Type 0
IsKnown s start k None = first_bad s k start ≡ None
IsKnown s start k (Some ms) = IsVisited s start (Broken ms)

known_at_once : {P M O : Type 0} (s : Steps P M O) (start : P) (o : Option (List M)) → bad_at s 0 start ≡ o → IsKnown s start 0 o
known_at_once s start o is = grind (arith, nat_tests, long)

known_further : {P M O : Type 0} (s : Steps P M O) (start : P) (k : ℕ) (next : List (Reached P M)) (before : Option (List M)) → IsLayer P M O s start (suc k) next →
    IsKnown s start k before → IsKnown s start (k + 1) (option_or before (bad_among s 0 next))
known_further s start k next before layer known = grind (arith, nat_tests, none_at, broken_at)

-- one rule more of those that are asked at a layer
pub founds_more : {P M O : Type 0} (s : ℕ → Steps P M O) (layer : List (Reached P M)) (before founds : List (Option (List M))) (rule : ℕ) (old found : Option (List M)) →
    length founds ≡ rule → rule < length before → old ≡ get_or before rule old → found ≡ option_or old (bad_among (s rule) 0 layer) →
    EachIs (λ n it. it ≡ option_or (get_or before n None) (bad_among (s n) 0 layer)) founds →
    EachIs (λ n it. it ≡ option_or (get_or before n None) (bad_among (s n) 0 layer)) (founds ++ found ∷ [])
founds_more {P} {M} {O} s layer before founds rule old found long within at is each =
    each_push (λ n it. it ≡ option_or (get_or before n None) (bad_among (s n) 0 layer)) founds found each
    (subst (λ n. found ≡ option_or (get_or before n None) (bad_among (s n) 0 layer)) (sym long)
    (is ∙ ap (λ (o : Option (List M)). option_or o (bad_among (s rule) 0 layer)) (at ∙ get_or_default before rule old None within)))

-- of none there is one before
pub founds_begin : {P M O : Type 0} (s : ℕ → Steps P M O) (layer : List (Reached P M)) (none founds : List (Option (List M))) → length founds ≡ length none →
    EachIs (λ n it. it ≡ None) none → EachIs (λ n it. it ≡ option_or (get_or none n None) (bad_among (s n) 0 layer)) founds →
    EachIs (λ n it. it ≡ bad_among (s n) 0 layer) founds
founds_begin {P} {M} {O} s layer none founds long empty each n d within = grind (arith, nat_tests, long)

-- what is known of each rule
module _ {P M O : Type 0} (s : ℕ → Steps P M O) (start : P) where
  abbrev pub AreKnown : ℕ → List (Option (List M)) → Type 0
  AreKnown k founds = EachIs (λ n. IsKnown (s n) start k) founds

  abbrev pub HaveCome : ℕ → List (Reached P M) → Type 0
  HaveCome k rs = (n : ℕ) → HasCome P M O (s n) start k rs

  pub known_at_start : (layer : List (Reached P M)) (founds : List (Option (List M))) → layer ≡ record { place = start; path = [] } ∷ [] →
      EachIs (λ n found. found ≡ bad_among (s n) 0 layer) founds → AreKnown 0 founds
  known_at_start layer founds is each n d within = grind (arith, nat_tests, known_at_once, bad_of, opened)

  pub known_next : (k : ℕ) (rs next : List (Reached P M)) (before founds : List (Option (List M))) → length founds ≡ length before → HaveCome k rs →
      ((n : ℕ) → StandFor P M O (s n) next (moved_from_each (s n) rs)) → AreKnown k before →
      EachIs (λ n found. found ≡ option_or (get_or before n None) (bad_among (s n) 0 next)) founds → AreKnown (k + 1) founds
  known_next k rs next before founds as_long come stand known each n d within = grind (arith, nat_tests, known_further, next_at)

  pub come_to_start : (layer : List (Reached P M)) → layer ≡ record { place = start; path = [] } ∷ [] → ((n : ℕ) → on_among (s n) 1 layer ≡ true) → HaveCome 0 layer
  come_to_start layer is on n =
      subst (λ (rs : List (Reached P M)). HasCome P M O (s n) start 0 rs) (sym is) (record {
        layer = opened (s n) start;
        on = sym (on_from (s n) start 0 _ (opened (s n) start)) ∙ ap (on_among (s n) 1) (sym is) ∙ on n;
      })

  pub went_on : (k : ℕ) (rs next : List (Reached P M)) → HaveCome k rs → ((n : ℕ) → StandFor P M O (s n) next (moved_from_each (s n) rs)) →
      ((n : ℕ) → on_among (s n) 1 next ≡ true) → HaveCome (k + 1) next
  went_on k rs next come stand on n =
      let later : IsLayer P M O (s n) start (suc k) next = next_at (s n) start k rs next (come n).layer (stand n) in
      let e : suc k ≡ k + 1 = omega arith in
      subst (λ j. HasCome P M O (s n) start j next) e (record { layer = later; on = sym (on_from (s n) start (suc k) next later) ∙ on n })

  -- ---- the answers

  -- the search has ended: there is a schedule for each rule, or none is longer
  abbrev pub IsOver : ℕ → List (Option (List M)) → Type 0
  IsOver k founds = (list_all is_some founds ≡ true) ⊎ ((n : ℕ) → goes_on (s n) (suc k) start ≡ false)

  all_some : (founds : List (Option (List M))) (n : ℕ) (d : Option (List M)) → list_all is_some founds ≡ true → n < length founds → get_or founds n d ≡ None → ⊥
  all_some [] n d all within none = omega (arith, within)
  all_some (None ∷ founds) n d all within none = absurd (cc)
  all_some (Some ms ∷ founds) zero d all within none = absurd (cc)
  all_some (Some ms ∷ founds) (suc n) d all within none = all_some founds n d all (omega (arith, within)) none

  no_longer : (k : ℕ) (founds : List (Option (List M))) (n : ℕ) (d : Option (List M)) → IsOver k founds → n < length founds → get_or founds n d ≡ None →
      goes_on (s n) (suc k) start ≡ false
  no_longer k founds n d h5 within none = grind (arith, nat_tests, all_some)

  always_one : (n k : ℕ) (found : Option (List M)) → IsKnown (s n) start k found → goes_on (s n) k start ≡ true →
      (found ≡ None → goes_on (s n) (suc k) start ≡ false) → IsVisited (s n) start (answer_of (ending.Always k) found)
  always_one n k found known as_long over = grind (arith, nat_tests)

  pub always_kept : (k : ℕ) (founds : List (Option (List M))) → AreKnown k founds → ((n : ℕ) → goes_on (s n) k start ≡ true) → IsOver k founds →
      EachIs (λ n. IsVisited (s n) start) (map (answer_of (ending.Always k)) founds)
  always_kept k founds known as_long over =
      each_map (answer_of (ending.Always k))
      (λ n found. IsKnown (s n) start k found × (found ≡ None → goes_on (s n) (suc k) start ≡ false)) (λ n. IsVisited (s n) start) founds
      (λ n found is. always_one n k found is.0 (as_long n) is.1)
      (λ n d within. (known n d within, no_longer k founds n d over within))

  open_one : (n k : ℕ) (found : Option (List M)) → IsKnown (s n) start k found → goes_on (s n) (suc k) start ≡ true →
      IsVisited (s n) start (answer_of (ending.Open k) found)
  open_one n k found known on = grind (arith, nat_tests)

  pub open_at : (k : ℕ) (rs : List (Reached P M)) (founds : List (Option (List M))) → AreKnown k founds → HaveCome k rs →
      EachIs (λ n. IsVisited (s n) start) (map (answer_of (ending.Open k)) founds)
  open_at k rs founds known come =
      each_map (answer_of (ending.Open k)) (λ n. IsKnown (s n) start k) (λ n. IsVisited (s n) start) founds
      (λ n found is. open_one n k found is (come n).on) known

  -- where the first layer is the last one
  pub over_at_start : (layer : List (Reached P M)) (founds : List (Option (List M))) → layer ≡ record { place = start; path = [] } ∷ [] →
      (list_all is_some founds ≡ true) ⊎ ((n : ℕ) → on_among (s n) 1 layer ≡ false) → IsOver 0 founds
  over_at_start layer founds is (inl all) = inl all
  over_at_start layer founds is (inr none_on) =
      inr (λ n. sym (on_from (s n) start 0 _ (opened (s n) start)) ∙ ap (on_among (s n) 1) (sym is) ∙ none_on n)

  pub over_next : (k : ℕ) (rs next : List (Reached P M)) (founds : List (Option (List M))) → HaveCome k rs →
      ((n : ℕ) → StandFor P M O (s n) next (moved_from_each (s n) rs)) → (list_all is_some founds ≡ true) ⊎ ((n : ℕ) → on_among (s n) 1 next ≡ false) →
      IsOver (k + 1) founds
  over_next k rs next founds come stand (inl all) = inl all
  over_next k rs next founds come stand (inr none_on) = inr (λ n.
      let later : IsLayer P M O (s n) start (suc k) next = next_at (s n) start k rs next (come n).layer (stand n) in
      let e : suc k ≡ k + 1 = omega arith in
      subst (λ j. goes_on (s n) (suc j) start ≡ false) e (sym (on_from (s n) start (suc k) next later) ∙ none_on n))

  pub longest_next : (k : ℕ) (rs : List (Reached P M)) → HaveCome k rs → (n : ℕ) → goes_on (s n) (k + 1) start ≡ true
  longest_next k rs come n = let e : suc k ≡ k + 1 = omega arith in subst (λ j. goes_on (s n) j start ≡ true) e (come n).on

-- an answer that is not open says nothing of the budget
pub always_spent : {M : Type 0} (left k : ℕ) (founds : List (Option (List M))) → EachIs (λ n. OpenIsSpent left) (map (answer_of (ending.Always k)) founds)
always_spent {M} left k founds =
    each_map (answer_of (ending.Always k)) (λ n found. Unit {0}) (λ n. OpenIsSpent left) founds (λ n found is. one found) (λ n d within. tt)
  where
    one : (found : Option (List M)) → OpenIsSpent left (answer_of (ending.Always k) found)
    one None = tt
    one (Some ms) = tt

pub always_far : {P M O : Type 0} (s : ℕ → Steps P M O) (start : P) (made k : ℕ) (founds : List (Option (List M))) →
    EachIs (λ n. OpenIsFar (s n) start made) (map (answer_of (ending.Always k)) founds)
always_far {P} {M} {O} s start made k founds =
    each_map (answer_of (ending.Always k)) (λ n found. Unit {0}) (λ n. OpenIsFar (s n) start made) founds (λ n found is. one n found) (λ n d within. tt)
  where
    one : (n : ℕ) (found : Option (List M)) → OpenIsFar (s n) start made (answer_of (ending.Always k) found)
    one n None = tt
    one n (Some ms) = tt

pub open_far : {P M O : Type 0} (s : ℕ → Steps P M O) (start : P) (made k : ℕ) (founds : List (Option (List M))) → ((n : ℕ) → made ≤ count_up_to (s n) (suc k) start) →
    EachIs (λ n. OpenIsFar (s n) start made) (map (answer_of (ending.Open k)) founds)
open_far {P} {M} {O} s start made k founds far =
    each_map (answer_of (ending.Open k)) (λ n found. Unit {0}) (λ n. OpenIsFar (s n) start made) founds (λ n found is. one n found) (λ n d within. tt)
  where
    one : (n : ℕ) (found : Option (List M)) → OpenIsFar (s n) start made (answer_of (ending.Open k) found)
    one n None = far n
    one n (Some ms) = tt

-- ---- how many moves are made

-- those of some places, and of others
count_of_both : {P M O : Type 0} (s : Steps P M O) (rs more : List (Reached P M)) → count_among s 1 (rs ++ more) ≡ count_among s 1 rs + count_among s 1 more
count_of_both {P} {M} {O} s rs more = total_append (λ (r : Reached P M). count_at s 1 r.place) rs more

-- those of a layer are no more than the schedules of one move more
pub count_next : {P M O : Type 0} (s : Steps P M O) (start : P) (k : ℕ) (rs : List (Reached P M)) (old left more : ℕ) → IsLayer P M O s start k rs →
    old ≤ left + count_up_to s k start → left ≤ more + count_among s 1 rs → old ≤ more + count_up_to s (suc k) start
count_next s start k rs old left more layer before spent = grind (arith, nat_tests)

-- so many of the moves that are enough at a place are made
pub made_here : {P M O : Type 0} (s : Steps P M O) (r : Reached P M) (choices : List M) (i old left : ℕ) → AreEnough P M O s r.place choices → left + i ≡ old → i ≤ length choices →
    old ≤ left + count_among s 1 (r ∷ [])
made_here {P} {M} {O} s r choices i old left enough made within =
    let all : length choices ≤ count_among s 1 (r ∷ []) =
    (let few : total (λ m. 1) choices ≤ count_at s 1 r.place = enough.fewer 0 in
    let each : total (λ m. 1) choices ≡ length choices = total_ones choices in omega (arith, few, each)) in
    omega (arith, made, within, all)

whole_list : {A : Type 0} (xs : List A) (i : ℕ) → length xs ≤ i → take i xs ≡ xs
whole_list [] zero within = refl
whole_list [] (suc i) within = refl
whole_list (x ∷ xs) zero within = absurd (omega (arith, within))
whole_list (x ∷ xs) (suc i) within = ap (λ ys. x ∷ ys) (whole_list xs i (omega (arith, within)))

-- all of them are made: what stands for where they lead to stands for where all moves lead to
pub all_made : {P M O : Type 0} (s : Steps P M O) (others next : List (Reached P M)) (r : Reached P M) (choices : List M) (i : ℕ) → AreEnough P M O s r.place choices →
    length choices ≤ i → StandFor P M O s next (others ++ reached_by_each s r (take i choices)) → StandFor P M O s next (others ++ moved_from s r)
all_made {P} {M} {O} s others next r choices i enough all stand =
    joined s next (others ++ reached_by_each s r choices) (others ++ moved_from s r)
    (subst (λ (ms : List M). StandFor P M O s next (others ++ reached_by_each s r ms)) (whole_list choices i all) stand)
    ((layers_go_on s (λ p q. p ≡ q) (alike_to_itself s)).enough others r choices enough)

-- ---- from a layer to the next one, place by place

-- These places of a layer are left. From those before them it was gone on: `next` stands for where one move leads from there, and of `old` moves `now` are left.
pub record HasGoneOn (P M O : Type 0) (s : ℕ → Steps P M O) (layer left next : List (Reached P M)) (old now : ℕ) : Type 0 where
  pub before : List (Reached P M)
  pub split : before ++ left ≡ layer
  pub stand : (rule : ℕ) → StandFor P M O (s rule) next (moved_from_each (s rule) before)
  pub made : (rule : ℕ) → old ≤ now + count_among (s rule) 1 before

pub gone_first : {P M O : Type 0} (s : ℕ → Steps P M O) (layer : List (Reached P M)) (old : ℕ) → HasGoneOn P M O s layer layer [] old old
gone_first s layer old = grind (arith, nat_tests, layers_go_on, alike_to_itself)

pub gone_next : {P M O : Type 0} (s : ℕ → Steps P M O) (layer left next more : List (Reached P M)) (r : Reached P M) (old now then : ℕ) → HasGoneOn P M O s layer (r ∷ left) next old now →
    ((rule : ℕ) (others : List (Reached P M)) → StandFor P M O (s rule) next others → StandFor P M O (s rule) more (others ++ moved_from (s rule) r)) →
    ((rule : ℕ) → now ≤ then + count_among (s rule) 1 (r ∷ [])) → HasGoneOn P M O s layer left more old then
gone_next {P} {M} {O} s layer left next more r old now then gone stand made = record {
  before = gone.before ++ r ∷ [];
  split = append_assoc gone.before (r ∷ []) left ∙ gone.split;
  stand = λ rule. subst (λ (l : List (Reached P M)). StandFor P M O (s rule) more l) (sym (flat_append (moved_from (s rule)) gone.before r))
      (stand rule (moved_from_each (s rule) gone.before) (gone.stand rule));
  made = λ rule. let both : count_among (s rule) 1 (gone.before ++ r ∷ []) ≡ count_among (s rule) 1 gone.before + count_among (s rule) 1 (r ∷ []) =
      count_of_both (s rule) gone.before (r ∷ []) in omega (arith, both, gone.made rule, made rule);
}

-- no more moves are made than lead from the layer
pub gone_made : {P M O : Type 0} (s : ℕ → Steps P M O) (layer left next : List (Reached P M)) (old now : ℕ) → HasGoneOn P M O s layer left next old now →
    (rule : ℕ) → old ≤ now + count_among (s rule) 1 layer
gone_made {P} {M} {O} s layer left next old now gone rule = grind (arith, nat_tests, count_of_both)

-- nor where it stopped amid the moves from a place
pub gone_made_amid : {P M O : Type 0} (s : ℕ → Steps P M O) (layer left next : List (Reached P M)) (r : Reached P M) (old now then : ℕ) →
    HasGoneOn P M O s layer (r ∷ left) next old now → (rule : ℕ) → now ≤ then + count_among (s rule) 1 (r ∷ []) → old ≤ then + count_among (s rule) 1 layer
gone_made_amid {P} {M} {O} s layer left next r old now then gone rule made = grind (arith, nat_tests, count_of_both)

pub nothing_left : {A : Type 0} (xs : List A) → length xs ≡ 0 → xs ≡ []
nothing_left [] none = refl
nothing_left (x ∷ xs) none = absurd (omega (arith, none))

-- none is left
pub gone_all : {P M O : Type 0} (s : ℕ → Steps P M O) (layer next : List (Reached P M)) (old now : ℕ) → HasGoneOn P M O s layer [] next old now →
    (rule : ℕ) → StandFor P M O (s rule) next (moved_from_each (s rule) layer)
gone_all {P} {M} {O} s layer next old now gone rule = grind (arith, nat_tests, append_nil)

-- where the search has come to
pub far_on : {P M O : Type 0} (s : Steps P M O) (start : P) (k : ℕ) (rs : List (Reached P M)) (old left more : ℕ) → HasCome P M O s start k rs →
    old ≤ left + count_up_to s k start → left ≤ more + count_among s 1 rs → old ≤ more + count_up_to s (k + 1) start
far_on s start k rs old left more come before spent = grind (arith, nat_tests, count_next)

pub far_open : {P M O : Type 0} (s : Steps P M O) (start : P) (k : ℕ) (rs : List (Reached P M)) (old left more : ℕ) → HasCome P M O s start k rs →
    old ≤ left + count_up_to s k start → left ≤ more + count_among s 1 rs → more ≡ 0 → old ≤ count_up_to s (suc k) start
far_open s start k rs old left more come before spent none = grind (arith, nat_tests, count_next)

pub far_without : {P M O : Type 0} (s : Steps P M O) (start : P) (k old left : ℕ) → old ≤ left + count_up_to s k start → left ≡ 0 → old ≤ count_up_to s (suc k) start
far_without s start k old left far none = omega (arith, far, none)
