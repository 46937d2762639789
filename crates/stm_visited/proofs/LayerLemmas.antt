-- Alike places, and layers of places.
use Rattle.std.proofs.Common.{◌≡◌, ◌↔◌, ◌≤◌, inl, inr, subst, flat_map, ℕ, zero, suc, ◌+◌, Bool, false, ◌||◌, cond, List, [], ◌∷◌, ◌++◌, length, Contains, Option, Some, None}
use Rattle.std.proofs.Common.{option_map, refl, sym, ◌∙◌, ap, arith, append_assoc}
use Rattle.std.proofs.lemmas.Grind.{flat_map-append}
use Rattle.std.proofs.lemmas.List.Elements.{Contains-append_left, Contains-append_right, Contains-append_cases}
use Rattle.std.proofs.lemmas.List.Folds.{flat_map-map}
use Rattle.std.specs.List.{list_any}
use Rattle.std.specs.Option.{option_or}
use Rattle.std.proofs.lemmas.Bool.Decides.{nat_tests}
use Rattle.stm_visited.specs.Search.{Steps, Leads, first_of, bad_at, first_bad, goes_on, if_whole, shown_at, total, count_at}
use Rattle.stm_visited.specs.Alike.{Respects, AlikeAreSame}
use Rattle.stm_visited.specs.Layers.{Reached, bad_from, bad_among, on_among, shown_among, count_among, StandFor, AreEnough, reached_by, reached_by_each, moved_from}
use Rattle.stm_visited.specs.Layers.{moved_from_each, IsLayer, LayersGoOn}
use Rattle.stm_visited.proofs.Founds.{first_append, first_one, first_same, first_mapped, first_through, first_flat, none_found}
use Rattle.stm_visited.proofs.Founds.{or_false, any_append, any_same, any_through, any_flat, none_passes, flat_same, flat_flat, append_nil_here, in_flat, of_mapped, is_mapped, of_flat}
use Rattle.stm_visited.proofs.Founds.{total_append, total_same, total_through, total_flat}

-- ---- alike places

alike_bad : {P M O : Type 0} (s : Steps P M O) (Alike : P → P → Type 0) → Respects P M O s Alike → (n : ℕ) (p q : P) → Alike p q → bad_at s n p ≡ bad_at s n q
alike_bad {P} {M} {O} s Alike r zero p q a = ap (λ (b : Bool). cond b None (let none : Option (List M) = Some [] in none)) (r.keeps p q a)
alike_bad {P} {M} {O} s Alike r (suc n) p q a =
    ap (first_of (λ m. option_map (λ (ms : List M). m ∷ ms) (bad_at s n (s.after m p)))) (r.moves p q a)
    ∙ first_same (λ m. option_map (λ (ms : List M). m ∷ ms) (bad_at s n (s.after m p))) (λ m. option_map (λ (ms : List M). m ∷ ms) (bad_at s n (s.after m q)))
    (s.moves q) (λ m. ap (option_map (λ (ms : List M). m ∷ ms)) (alike_bad s Alike r n (s.after m p) (s.after m q) (r.after m p q a)))

alike_first : {P M O : Type 0} (s : Steps P M O) (Alike : P → P → Type 0) → Respects P M O s Alike → (n : ℕ) (p q : P) → Alike p q → first_bad s n p ≡ first_bad s n q
alike_first s Alike r zero p q a = alike_bad s Alike r zero p q a
alike_first {P} {M} {O} s Alike r (suc n) p q a = grind (arith, nat_tests, alike_bad, alike_first s Alike r n p q a)

alike_on : {P M O : Type 0} (s : Steps P M O) (Alike : P → P → Type 0) → Respects P M O s Alike → (n : ℕ) (p q : P) → Alike p q → goes_on s n p ≡ goes_on s n q
alike_on s Alike r zero p q a = refl
alike_on s Alike r (suc n) p q a =
    ap (list_any (λ m. goes_on s n (s.after m p))) (r.moves p q a)
    ∙ any_same (λ m. goes_on s n (s.after m p)) (λ m. goes_on s n (s.after m q)) (s.moves q)
    (λ m. alike_on s Alike r n (s.after m p) (s.after m q) (r.after m p q a))

alike_shown : {P M O : Type 0} (s : Steps P M O) (Alike : P → P → Type 0) → Respects P M O s Alike → (n : ℕ) (p q : P) → Alike p q → shown_at s n p ≡ shown_at s n q
alike_shown s Alike r zero p q a = ap (λ ms. if_whole ms (s.shows p)) (r.moves p q a) ∙ ap (if_whole (s.moves q)) (r.shows p q a)
alike_shown s Alike r (suc n) p q a =
    ap (flat_map (λ m. shown_at s n (s.after m p))) (r.moves p q a)
    ∙ flat_same (λ m. shown_at s n (s.after m p)) (λ m. shown_at s n (s.after m q)) (s.moves q)
    (λ m. alike_shown s Alike r n (s.after m p) (s.after m q) (r.after m p q a))

pub alike_are_same : {P M O : Type 0} (s : Steps P M O) (Alike : P → P → Type 0) → Respects P M O s Alike → AlikeAreSame P M O s Alike
alike_are_same s Alike r = record { bad = alike_bad s Alike r; first = alike_first s Alike r; on = alike_on s Alike r; shown = alike_shown s Alike r }

-- ---- one move more

-- what a place comes to by one move and n more, with the path to it in front
step_bad : {P M O : Type 0} (s : Steps P M O) (n : ℕ) (r : Reached P M) (m : M) →
    bad_from s n (reached_by s r m) ≡ option_map (λ (ms : List M). r.path ++ ms) (option_map (λ (ms : List M). m ∷ ms) (bad_at s n (s.after m r.place)))
step_bad {P} {M} {O} s n r m = elim (bad_at s n (s.after m r.place)) as (λ o.
    option_map (λ (ms : List M). (r.path ++ m ∷ []) ++ ms) o ≡ option_map (λ (ms : List M). r.path ++ ms) (option_map (λ (ms : List M). m ∷ ms) o)) [
      | None ↦ refl
      | Some ms ↦ ap (λ (all : List M). Some all) (append_assoc r.path (m ∷ []) ms)
    ]

-- of some of the moves
few_bad : {P M O : Type 0} (s : Steps P M O) (n : ℕ) (r : Reached P M) (few : List M) → bad_among s n (reached_by_each s r few)
    ≡ option_map (λ (ms : List M). r.path ++ ms) (first_of (λ m. option_map (λ (ms : List M). m ∷ ms) (bad_at s n (s.after m r.place))) few)
few_bad {P} {M} {O} s n r few = grind (arith, nat_tests, first_through, first_same, step_bad, first_mapped)

few_on : {P M O : Type 0} (s : Steps P M O) (n : ℕ) (r : Reached P M) (few : List M) → on_among s n (reached_by_each s r few) ≡ list_any (λ m. goes_on s n (s.after m r.place)) few
few_on {P} {M} {O} s n r few = any_through (reached_by s r) (λ (r : Reached P M). goes_on s n r.place) few

few_shown : {P M O : Type 0} (s : Steps P M O) (n : ℕ) (r : Reached P M) (few : List M) →
    shown_among s n (reached_by_each s r few) ≡ flat_map (λ m. shown_at s n (s.after m r.place)) few
few_shown {P} {M} {O} s n r few = flat_map-map (λ (r : Reached P M). shown_at s n r.place) (reached_by s r) few

few_count : {P M O : Type 0} (s : Steps P M O) (n : ℕ) (r : Reached P M) (few : List M) → count_among s n (reached_by_each s r few) ≡ total (λ m. count_at s n (s.after m r.place)) few
few_count {P} {M} {O} s n r few = total_through (reached_by s r) (λ (r : Reached P M). count_at s n r.place) few

moved_bad : {P M O : Type 0} (s : Steps P M O) (n : ℕ) (r : Reached P M) → bad_among s n (moved_from s r) ≡ bad_from s (suc n) r
moved_bad s n r = few_bad s n r (s.moves r.place)

moved_on : {P M O : Type 0} (s : Steps P M O) (n : ℕ) (r : Reached P M) → on_among s n (moved_from s r) ≡ goes_on s (suc n) r.place
moved_on s n r = few_on s n r (s.moves r.place)

each_bad : {P M O : Type 0} (s : Steps P M O) (n : ℕ) (rs : List (Reached P M)) → bad_among s n (moved_from_each s rs) ≡ bad_among s (suc n) rs
each_bad {P} {M} {O} s n rs = grind (arith, nat_tests, first_flat, first_same, moved_bad)

each_on : {P M O : Type 0} (s : Steps P M O) (n : ℕ) (rs : List (Reached P M)) → on_among s n (moved_from_each s rs) ≡ on_among s (suc n) rs
each_on {P} {M} {O} s n rs = grind (arith, nat_tests, any_flat, any_same, moved_on)

each_shown : {P M O : Type 0} (s : Steps P M O) (n : ℕ) (rs : List (Reached P M)) → shown_among s n (moved_from_each s rs) ≡ shown_among s (suc n) rs
each_shown {P} {M} {O} s n rs = grind (arith, nat_tests, flat_flat, flat_same, few_shown)

pub each_count : {P M O : Type 0} (s : Steps P M O) (n : ℕ) (rs : List (Reached P M)) → count_among s n (moved_from_each s rs) ≡ count_among s (suc n) rs
each_count {P} {M} {O} s n rs = grind (arith, nat_tests, total_flat, total_same, few_count)

-- ---- layers

opened_bad : {P M O : Type 0} (s : Steps P M O) (start : P) (n : ℕ) → bad_among s n (record { place = start; path = [] } ∷ []) ≡ bad_at s (0 + n) start
opened_bad {P} {M} {O} s start n = grind (arith, nat_tests, first_one)

opened_on : {P M O : Type 0} (s : Steps P M O) (start : P) (n : ℕ) → on_among s n (record { place = start; path = [] } ∷ []) ≡ goes_on s (0 + n) start
opened_on s start n = or_false (goes_on s n start) ∙ (let e : n ≡ 0 + n = omega arith in ap (λ k. goes_on s k start) e)

opened_shown : {P M O : Type 0} (s : Steps P M O) (start : P) (n : ℕ) → shown_among s n (record { place = start; path = [] } ∷ []) ≡ shown_at s (0 + n) start
opened_shown s start n = append_nil_here (shown_at s n start) ∙ (let e : n ≡ 0 + n = omega arith in ap (λ k. shown_at s k start) e)

opened_count : {P M O : Type 0} (s : Steps P M O) (start : P) (n : ℕ) → count_among s n (record { place = start; path = [] } ∷ []) ≤ count_at s (0 + n) start
opened_count s start n = let e : count_at s (0 + n) start ≡ count_at s n start = (let same : 0 + n ≡ n = omega arith in ap (λ k. count_at s k start) same) in omega (arith, e)

-- the same members where the lists are the same
same_members : {O : Type 0} (xs ys : List O) → xs ≡ ys → (it : O) → Contains xs it ↔ Contains ys it
same_members xs ys same it = (λ c. subst (λ zs. Contains zs it) same c, λ c. subst (λ zs. Contains zs it) (sym same) c)

through : {A B C : Type 0} → A ↔ B → B ↔ C → A ↔ C
through one two = (λ a. two.0 (one.0 a), λ c. one.1 (two.1 c))

next_count : {P M O : Type 0} (s : Steps P M O) (start : P) (k n : ℕ) (rs next : List (Reached P M)) → count_among s n next ≤ count_among s n (moved_from_each s rs) →
    count_among s (suc n) rs ≤ count_at s (k + suc n) start → count_among s n next ≤ count_at s (suc k + n) start
next_count s start k n rs next one two = grind (arith, nat_tests, each_count)

-- a path leads there, by as many moves
abbrev Led : {P M O : Type 0} → Steps P M O → P → ℕ → Reached P M → Type 0
Led s start k r = Leads s r.path start r.place × (length r.path ≡ k)

opened_led : {P M O : Type 0} (s : Steps P M O) (start : P) (r : Reached P M) → Contains (record { place = start; path = [] } ∷ []) r → Led s start 0 r
opened_led {P} {M} {O} s start r c = grind (arith, nat_tests)

leads_on : {P M O : Type 0} (s : Steps P M O) (ms : List M) (p q : P) (m : M) → Leads s ms p q → Contains (s.moves q) m → Leads s (ms ++ m ∷ []) p (s.after m q)
leads_on s [] p q m is c = (subst (λ x. Contains (s.moves x) m) is c, ap (s.after m) is)
leads_on s (first ∷ ms) p q m led c = (led.0, leads_on s ms (s.after first p) q m led.1 c)

one_longer : {M : Type 0} (ms : List M) (m : M) (k : ℕ) → length ms ≡ k → length (ms ++ m ∷ []) ≡ suc k
one_longer [] m k is = omega (arith, is)
one_longer (x ∷ ms) m zero is = absurd (let none : suc (length ms) ≡ 0 = is in omega (arith, none))
one_longer (x ∷ ms) m (suc k) is = ap suc (one_longer ms m k (let all : suc (length ms) ≡ suc k = is in omega (arith, all)))

next_led : {P M O : Type 0} (s : Steps P M O) (start : P) (k : ℕ) (rs : List (Reached P M)) → ((r : Reached P M) → Contains rs r → Led s start k r) →
    (r : Reached P M) → Contains (moved_from_each s rs) r → Led s start (suc k) r
next_led {P} {M} {O} s start k rs led r c =
    let from = of_flat (moved_from s) rs r c in
    let by = of_mapped (reached_by s from.0) (s.moves from.0.place) r from.2 in
    let before : Led s start k from.0 = led from.0 from.1 in
    subst (Led s start (suc k)) by.2 (leads_on s from.0.path start from.0.place by.0 before.0 by.1, one_longer from.0.path by.0 k before.1)

next_layer : {P M O : Type 0} (s : Steps P M O) (start : P) (k : ℕ) (rs next : List (Reached P M)) → IsLayer P M O s start k rs → StandFor P M O s next (moved_from_each s rs) →
    IsLayer P M O s start (suc k) next
next_layer s start k rs next layer stand = record {
  led = λ r c. next_led s start k rs layer.led r (stand.among r c);
  bad = λ n. stand.bad n ∙ each_bad s n rs ∙ layer.bad (suc n) ∙ (let e : k + suc n ≡ suc k + n = omega arith in ap (λ j. bad_at s j start) e);
  on = λ n. stand.on n ∙ each_on s n rs ∙ layer.on (suc n) ∙ (let e : k + suc n ≡ suc k + n = omega arith in ap (λ j. goes_on s j start) e);
  shown = λ n it. through (stand.shown n it) (through (same_members _ _ (each_shown s n rs) it)
      (through (layer.shown (suc n) it) (let e : k + suc n ≡ suc k + n = omega arith in same_members _ _ (ap (λ j. shown_at s j start) e) it)));
  fewer = λ n. next_count s start k n rs next (stand.fewer n) (layer.fewer (suc n));
}

-- members of two lists of which the first have the same
both_members : {O : Type 0} (xs ys more : List O) (it : O) → Contains xs it ↔ Contains ys it → Contains (xs ++ more) it → Contains (ys ++ more) it
both_members xs ys more it same c = elim (Contains-append_cases xs more it c) [
  | inl first ↦ Contains-append_left ys more it (same.0 first)
  | inr second ↦ Contains-append_right ys more it second
]

added_shown : {P M O : Type 0} (s : Steps P M O) (rs others more : List (Reached P M)) (n : ℕ) (it : O) → Contains (shown_among s n rs) it ↔ Contains (shown_among s n others) it →
    Contains (shown_among s n (rs ++ more)) it ↔ Contains (shown_among s n (others ++ more)) it
added_shown {P} {M} {O} s rs others more n it same =
    let one = flat_map-append (λ (r : Reached P M). shown_at s n r.place) rs more in
    let two = flat_map-append (λ (r : Reached P M). shown_at s n r.place) others more in
    through (same_members _ _ one it) (through (
      both_members (shown_among s n rs) (shown_among s n others) (shown_among s n more) it same,
      both_members (shown_among s n others) (shown_among s n rs) (shown_among s n more) it (same.1, same.0),
    ) (same_members _ _ (sym two) it))

added_count : {P M O : Type 0} (s : Steps P M O) (n : ℕ) (rs others more : List (Reached P M)) → count_among s n rs ≤ count_among s n others →
    count_among s n (rs ++ more) ≤ count_among s n (others ++ more)
added_count {P} {M} {O} s n rs others more fewer = grind (arith, nat_tests, total_append)

added : {P M O : Type 0} (s : Steps P M O) (rs others more : List (Reached P M)) → StandFor P M O s rs others → StandFor P M O s (rs ++ more) (others ++ more)
added {P} {M} {O} s rs others more stand = record {
  among = λ r c. elim (Contains-append_cases rs more r c) [
    | inl first ↦ Contains-append_left others more r (stand.among r first)
    | inr second ↦ Contains-append_right others more r second
  ];
  bad = λ n. first_append (bad_from s n) rs more ∙ ap (λ (o : Option (List M)). option_or o (bad_among s n more)) (stand.bad n)
      ∙ sym (first_append (bad_from s n) others more);
  on = λ n. any_append (λ (r : Reached P M). goes_on s n r.place) rs more ∙ ap (λ b. b || on_among s n more) (stand.on n)
      ∙ sym (any_append (λ (r : Reached P M). goes_on s n r.place) others more);
  shown = λ n it. added_shown s rs others more n it (stand.shown n it);
  fewer = λ n. added_count s n rs others more (stand.fewer n);
}

-- nothing is found after one that is found, and nothing at one where nothing is found
or_skipped : {A : Type 0} (a b : Option A) → (a ≡ None → b ≡ None) → a ≡ option_or a b
or_skipped a b skip = grind (arith, nat_tests)

or_skipped_test : (a b : Bool) → (a ≡ false → b ≡ false) → a ≡ (a || b)
or_skipped_test a b skip = grind (arith, nat_tests)

map_none : {A B : Type 0} (f : A → B) (o : Option A) → option_map f o ≡ None → o ≡ None
map_none f o is = grind (arith, nat_tests)

skipped_bad : {P M O : Type 0} (s : Steps P M O) (Alike : P → P → Type 0) → Respects P M O s Alike → (rs : List (Reached P M)) (r seen : Reached P M) → Contains rs seen →
    Alike r.place seen.place → (n : ℕ) → bad_among s n rs ≡ None → bad_among s n (r ∷ []) ≡ None
skipped_bad {P} {M} {O} s Alike re rs r seen c a n none =
    let at_seen : bad_at s n seen.place ≡ None = map_none (λ (ms : List M). seen.path ++ ms) (bad_at s n seen.place) (none_found (bad_from s n) rs seen c none) in
    first_one (bad_from s n) r ∙ ap (option_map (λ (ms : List M). r.path ++ ms)) (alike_bad s Alike re n r.place seen.place a ∙ at_seen)

skipped_on : {P M O : Type 0} (s : Steps P M O) (Alike : P → P → Type 0) → Respects P M O s Alike → (rs : List (Reached P M)) (r seen : Reached P M) → Contains rs seen →
    Alike r.place seen.place → (n : ℕ) → on_among s n rs ≡ false → on_among s n (r ∷ []) ≡ false
skipped_on {P} {M} {O} s Alike re rs r seen c a n none =
    or_false (goes_on s n r.place) ∙ alike_on s Alike re n r.place seen.place a ∙ none_passes (λ (r : Reached P M). goes_on s n r.place) rs seen c none

-- what whole schedules come to from a place that is alike to one of these, they come to from these
skipped_shown : {P M O : Type 0} (s : Steps P M O) (Alike : P → P → Type 0) → Respects P M O s Alike → (rs : List (Reached P M)) (r seen : Reached P M) → Contains rs seen →
    Alike r.place seen.place → (n : ℕ) (it : O) → Contains (shown_among s n (rs ++ r ∷ [])) it → Contains (shown_among s n rs) it
skipped_shown {P} {M} {O} s Alike re rs r seen c a n it has =
    elim (Contains-append_cases (shown_among s n rs) (shown_among s n (r ∷ [])) it
    (subst (λ (os : List O). Contains os it) (flat_map-append (λ (r : Reached P M). shown_at s n r.place) rs (r ∷ [])) has)) [
      | inl first ↦ first
      | inr second ↦
          in_flat (λ (r : Reached P M). shown_at s n r.place) rs seen c it
          (subst (λ (os : List O). Contains os it) (append_nil_here (shown_at s n r.place) ∙ alike_shown s Alike re n r.place seen.place a) second)
    ]

fewer_without : {P M O : Type 0} (s : Steps P M O) (n : ℕ) (rs more : List (Reached P M)) → count_among s n rs ≤ count_among s n (rs ++ more)
fewer_without {P} {M} {O} s n rs more = grind (arith, nat_tests, total_append)

-- a place that is alike to one of these adds nothing to them
alone : {P M O : Type 0} (s : Steps P M O) (Alike : P → P → Type 0) → Respects P M O s Alike → (rs : List (Reached P M)) (r seen : Reached P M) → Contains rs seen →
    Alike r.place seen.place → StandFor P M O s rs (rs ++ r ∷ [])
alone {P} {M} {O} s Alike re rs r seen c a = record {
  among = λ x there. Contains-append_left rs (r ∷ []) x there;
  bad = λ n. or_skipped (bad_among s n rs) (bad_among s n (r ∷ [])) (skipped_bad s Alike re rs r seen c a n) ∙ sym (first_append (bad_from s n) rs (r ∷ []));
  on = λ n. or_skipped_test (on_among s n rs) (on_among s n (r ∷ [])) (skipped_on s Alike re rs r seen c a n)
      ∙ sym (any_append (λ (r : Reached P M). goes_on s n r.place) rs (r ∷ []));
  shown = λ n it. (
    λ has. subst (λ (os : List O). Contains os it) (sym (flat_map-append (λ (r : Reached P M). shown_at s n r.place) rs (r ∷ [])))
        (Contains-append_left (shown_among s n rs) (shown_among s n (r ∷ [])) it has),
    skipped_shown s Alike re rs r seen c a n it,
  );
  fewer = λ n. fewer_without s n rs (r ∷ []);
}

no_more : (a b c : ℕ) → a ≤ b → b ≤ c → a ≤ c
no_more a b c one two = omega (arith, one, two)

pub joined : {P M O : Type 0} (s : Steps P M O) (rs others third : List (Reached P M)) → StandFor P M O s rs others → StandFor P M O s others third → StandFor P M O s rs third
joined s rs others third one two = record {
  among = λ r c. two.among r (one.among r c);
  bad = λ n. one.bad n ∙ two.bad n;
  on = λ n. one.on n ∙ two.on n;
  shown = λ n it. through (one.shown n it) (two.shown n it);
  fewer = λ n. no_more (count_among s n rs) (count_among s n others) (count_among s n third) (one.fewer n) (two.fewer n);
}

-- ---- moves that are enough

few_among : {P M O : Type 0} (s : Steps P M O) (r : Reached P M) (few : List M) → AreEnough P M O s r.place few → (x : Reached P M) → Contains (reached_by_each s r few) x →
    Contains (moved_from s r) x
few_among {P} {M} {O} s r few enough x c =
    let by = of_mapped (reached_by s r) few x c in
    subst (Contains (moved_from s r)) by.2 (is_mapped (reached_by s r) (s.moves r.place) by.0 (enough.among by.0 by.1))

behind_shown : {P M O : Type 0} (s : Steps P M O) (others rs more : List (Reached P M)) (n : ℕ) (it : O) → (Contains (shown_among s n rs) it → Contains (shown_among s n more) it) →
    Contains (shown_among s n (others ++ rs)) it → Contains (shown_among s n (others ++ more)) it
behind_shown {P} {M} {O} s others rs more n it same c =
    subst (λ (os : List O). Contains os it) (sym (flat_map-append (λ (r : Reached P M). shown_at s n r.place) others more))
    (elim (Contains-append_cases (shown_among s n others) (shown_among s n rs) it
    (subst (λ (os : List O). Contains os it) (flat_map-append (λ (r : Reached P M). shown_at s n r.place) others rs) c)) [
      | inl first ↦ Contains-append_left (shown_among s n others) (shown_among s n more) it first
      | inr second ↦ Contains-append_right (shown_among s n others) (shown_among s n more) it (same second)
    ])

behind_count : {P M O : Type 0} (s : Steps P M O) (n : ℕ) (others rs more : List (Reached P M)) → count_among s n rs ≤ count_among s n more →
    count_among s n (others ++ rs) ≤ count_among s n (others ++ more)
behind_count {P} {M} {O} s n others rs more fewer = grind (arith, nat_tests, total_append)

-- what stands for others does so behind some places
behind : {P M O : Type 0} (s : Steps P M O) (others rs more : List (Reached P M)) → StandFor P M O s rs more → StandFor P M O s (others ++ rs) (others ++ more)
behind {P} {M} {O} s others rs more stand = record {
  among = λ r c. elim (Contains-append_cases others rs r c) [
    | inl first ↦ Contains-append_left others more r first
    | inr second ↦ Contains-append_right others more r (stand.among r second)
  ];
  bad = λ n. first_append (bad_from s n) others rs ∙ ap (λ (o : Option (List M)). option_or (bad_among s n others) o) (stand.bad n)
      ∙ sym (first_append (bad_from s n) others more);
  on = λ n. any_append (λ (r : Reached P M). goes_on s n r.place) others rs ∙ ap (λ b. on_among s n others || b) (stand.on n)
      ∙ sym (any_append (λ (r : Reached P M). goes_on s n r.place) others more);
  shown = λ n it. (behind_shown s others rs more n it (stand.shown n it).0, behind_shown s others more rs n it (stand.shown n it).1);
  fewer = λ n. behind_count s n others rs more (stand.fewer n);
}

fewer_moves : {P M O : Type 0} (s : Steps P M O) (n : ℕ) (r : Reached P M) (few : List M) → total (λ m. count_at s n (s.after m r.place)) few ≤ count_at s (suc n) r.place →
    count_among s n (reached_by_each s r few) ≤ count_among s n (moved_from s r)
fewer_moves s n r few fewer = grind (arith, nat_tests, few_count)

few_stand : {P M O : Type 0} (s : Steps P M O) (r : Reached P M) (few : List M) → AreEnough P M O s r.place few → StandFor P M O s (reached_by_each s r few) (moved_from s r)
few_stand {P} {M} {O} s r few enough = record {
  among = few_among s r few enough;
  bad = λ n. few_bad s n r few ∙ ap (option_map (λ (ms : List M). r.path ++ ms)) (enough.bad n) ∙ sym (moved_bad s n r);
  on = λ n. few_on s n r few ∙ enough.on n ∙ sym (moved_on s n r);
  shown = λ n it. through (same_members _ _ (few_shown s n r few) it) (through (enough.shown n it) (same_members _ _ (sym (few_shown s n r (s.moves r.place))) it));
  fewer = λ n. fewer_moves s n r few (enough.fewer n);
}

-- all moves are enough
pub all_are_enough : {P M O : Type 0} (s : Steps P M O) (p : P) (all : List M) → all ≡ s.moves p → AreEnough P M O s p all
all_are_enough {P} {M} {O} s p all is = subst (AreEnough P M O s p) (sym is) (record {
  among = λ m c. c;
  bad = λ n. refl;
  on = λ n. refl;
  shown = λ n it. (λ c. c, λ c. c);
  fewer = λ n. omega arith;
})

pub layers_go_on : {P M O : Type 0} (s : Steps P M O) (Alike : P → P → Type 0) → Respects P M O s Alike → LayersGoOn P M O s Alike
layers_go_on {P} {M} {O} s Alike re = record {
  opens = λ start. record { led = opened_led s start; bad = opened_bad s start; on = opened_on s start; shown = λ n it. same_members _ _ (opened_shown s start n) it; fewer = opened_count s start };
  next = next_layer s;
  stands = λ rs. record { among = λ r c. c; bad = λ n. refl; on = λ n. refl; shown = λ n it. (λ c. c, λ c. c); fewer = λ n. omega arith };
  enough = λ others r few are. behind s others (reached_by_each s r few) (moved_from s r) (few_stand s r few are);
  added = added s;
  skipped = λ rs others r seen stand c a. joined s rs (rs ++ r ∷ []) (others ++ r ∷ []) (alone s Alike re rs r seen c a) (added s rs others (r ∷ []) stand);
}
