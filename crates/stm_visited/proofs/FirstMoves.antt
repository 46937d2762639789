-- A move that can be made first is enough.
use Rattle.std.proofs.Common.{◌≡◌, ◌∙◌, ◌+◌, ◌<◌, ◌≤◌, inl, inr, subst, ℕ, zero, suc, Bool, true, false, ◌||◌, cond, List, [], ◌∷◌, length, get_or, Contains, Option, Some, None}
use Rattle.std.proofs.Common.{option_map, refl, sym, ap, arith}
use Rattle.std.specs.List.{list_any}
use Rattle.std.specs.Option.{option_or}
use Rattle.std.proofs.lemmas.Bool.Decides.{nat_tests}
use Rattle.stm_visited.specs.Search.{Steps, first_of, bad_at, goes_on, if_whole, shown_at, total, count_at}
use Rattle.stm_visited.specs.Alike.{Respects}
use Rattle.stm_visited.specs.First.{CanBeFirst, FirstIsEnough}
use Rattle.stm_visited.proofs.Founds.{or_false, append_nil_here, in_flat, of_flat}
use Rattle.stm_visited.proofs.LayerLemmas.{alike_are_same}

-- ---- lists

nothing_found : {A B : Type 0} (f : A → Option B) (xs : List A) → ((x : A) → f x ≡ None) → first_of f xs ≡ None
nothing_found f [] none = refl
nothing_found {A} {B} f (x ∷ xs) none = ap (λ (o : Option B). option_or o (first_of f xs)) (none x) ∙ nothing_found f xs none

one_passes : {A : Type 0} (f : A → Bool) (xs : List A) (k : ℕ) (x : A) → k < length xs → get_or xs k x ≡ x → f x ≡ true → list_any f xs ≡ true
one_passes f [] k x within is passes = absurd (omega (arith, within))
one_passes f (y ∷ ys) zero x within is passes = ap (λ b. b || list_any f ys) (ap f is ∙ passes)
one_passes f (y ∷ ys) (suc k) x within is passes = grind (arith, nat_tests, one_passes f ys k x (omega (arith, within)) is passes)

some_passes : {A : Type 0} (f : A → Bool) (xs : List A) → list_any f xs ≡ true → (x : A) × Contains xs x × (f x ≡ true)
some_passes f [] is = absurd (cc)
some_passes {A} f (x ∷ xs) is = elim (f x) as (λ b. f x ≡ b → (b || list_any f xs) ≡ true → (y : A) × Contains (x ∷ xs) y × (f y ≡ true)) [
  | true ↦ λ at e. (x, (0, omega arith, refl), at)
  | false ↦ λ at e. let rest = some_passes f xs e in (rest.0, (suc rest.1.0, let there : rest.1.0 < length xs = rest.1.1 in omega (arith, there), rest.1.2), rest.2)
] refl is

one_of_all : {A : Type 0} (f : A → ℕ) (xs : List A) (k : ℕ) (x : A) → k < length xs → get_or xs k x ≡ x → f x ≤ total f xs
one_of_all f [] k x within is = absurd (omega (arith, within))
one_of_all f (y ∷ ys) zero x within is = let e : f y ≡ f x = ap f is in omega (arith, e)
one_of_all f (y ∷ ys) (suc k) x within is = let rest : f x ≤ total f ys = one_of_all f ys k x (omega (arith, within)) is in omega (arith, rest)

both_ways : (a b : Bool) → (a ≡ true → b ≡ true) → (b ≡ true → a ≡ true) → a ≡ b
both_ways a b there back = grind (arith, nat_tests)

-- ---- no rule is asked

none_bad : {P M O : Type 0} (s : Steps P M O) → ((p : P) → s.keeps p ≡ true) → (n : ℕ) (p : P) → bad_at s n p ≡ None
none_bad {P} {M} {O} s keeps zero p = ap (λ (b : Bool). cond b None (let none : Option (List M) = Some [] in none)) (keeps p)
none_bad {P} {M} {O} s keeps (suc n) p =
    nothing_found (λ m. option_map (λ (ms : List M). m ∷ ms) (bad_at s n (s.after m p))) (s.moves p)
    (λ m. ap (option_map (λ (ms : List M). m ∷ ms)) (none_bad s keeps n (s.after m p)))

-- ---- as many moves can be made after it as with it

goes_first : {P M O : Type 0} (s : Steps P M O) (Alike : P → P → Type 0) (IsFirst : M → P → Type 0) → Respects P M O s Alike → CanBeFirst P M O s Alike IsFirst →
    (n : ℕ) (m : M) (p : P) → IsFirst m p → goes_on s (suc n) p ≡ true → goes_on s n (s.after m p) ≡ true
goes_first s Alike IsFirst re can zero m p first on = refl
goes_first {P} {M} {O} s Alike IsFirst re can (suc n) m p first on =
    let some = some_passes (λ other. goes_on s (suc n) (s.after other p)) (s.moves p) on in
    elim (can.exchange m some.0 p first some.1) [
      | inl same ↦ subst (λ other. goes_on s (suc n) (s.after other p) ≡ true) (sym same) some.2
      | inr apart ↦
          let there = apart.still in
          one_passes (λ other. goes_on s n (s.after other (s.after m p))) (s.moves (s.after m p)) there.0 some.0 there.1 there.2
          ((alike_are_same s Alike re).on n _ _ apart.alike ∙ goes_first s Alike IsFirst re can n m (s.after some.0 p) apart.stays some.2)
    ]

-- ---- what whole schedules come to they come to after it

absurd_whole : {M O : Type 0} (ms : List M) (m : M) (shows it : O) → Contains ms m → Contains (if_whole ms shows) it → ⊥
absurd_whole ms m shows it there c = grind (arith, nat_tests)

shown_first : {P M O : Type 0} (s : Steps P M O) (Alike : P → P → Type 0) (IsFirst : M → P → Type 0) → Respects P M O s Alike → CanBeFirst P M O s Alike IsFirst →
    (n : ℕ) (m : M) (p : P) (it : O) → IsFirst m p → Contains (shown_at s (suc n) p) it → Contains (shown_at s n (s.after m p)) it
shown_first {P} {M} {O} s Alike IsFirst re can zero m p it first shown =
    let some = of_flat (λ other. shown_at s zero (s.after other p)) (s.moves p) it shown in
    elim (can.exchange m some.0 p first some.1) [
      | inl same ↦ subst (λ other. Contains (shown_at s zero (s.after other p)) it) (sym same) some.2
      | inr apart ↦ absurd (absurd_whole (s.moves (s.after some.0 p)) m (s.shows (s.after some.0 p)) it (can.is_move m (s.after some.0 p) apart.stays) some.2)
    ]
shown_first {P} {M} {O} s Alike IsFirst re can (suc n) m p it first shown =
    let some = of_flat (λ other. shown_at s (suc n) (s.after other p)) (s.moves p) it shown in
    elim (can.exchange m some.0 p first some.1) [
      | inl same ↦ subst (λ other. Contains (shown_at s (suc n) (s.after other p)) it) (sym same) some.2
      | inr apart ↦
          in_flat (λ other. shown_at s n (s.after other (s.after m p))) (s.moves (s.after m p)) some.0 apart.still it
          (subst (λ (os : List O). Contains os it) (sym ((alike_are_same s Alike re).shown n _ _ apart.alike))
          (shown_first s Alike IsFirst re can n m (s.after some.0 p) it apart.stays some.2))
    ]

pub first_is_enough : {P M O : Type 0} (s : Steps P M O) (Alike : P → P → Type 0) (IsFirst : M → P → Type 0) → FirstIsEnough P M O s Alike IsFirst
first_is_enough {P} {M} {O} s Alike IsFirst re can keeps m p first =
    let there = can.is_move m p first in
    record {
      among = λ other c. only (s.moves p) m other c.0 c.1 c.2 there;
      bad = λ n.
          nothing_found (λ other. option_map (λ (ms : List M). other ∷ ms) (bad_at s n (s.after other p))) (m ∷ [])
          (λ other. ap (option_map (λ (ms : List M). other ∷ ms)) (none_bad s keeps n (s.after other p)))
          ∙ sym (none_bad s keeps (suc n) p);
      on = λ n. or_false (goes_on s n (s.after m p)) ∙ both_ways (goes_on s n (s.after m p)) (goes_on s (suc n) p)
          (λ is. one_passes (λ other. goes_on s n (s.after other p)) (s.moves p) there.0 m there.1 there.2 is)
          (goes_first s Alike IsFirst re can n m p first);
      shown = λ n it. (
        λ c. in_flat (λ other. shown_at s n (s.after other p)) (s.moves p) m there it
            (subst (λ (os : List O). Contains os it) (append_nil_here (shown_at s n (s.after m p))) c),
        λ c. subst (λ (os : List O). Contains os it) (sym (append_nil_here (shown_at s n (s.after m p)))) (shown_first s Alike IsFirst re can n m p it first c),
      );
      fewer = λ n. one_more (count_at s n (s.after m p)) (count_at s (suc n) p)
          (one_of_all (λ other. count_at s n (s.after other p)) (s.moves p) there.0 m there.1 there.2);
    }
  where
    only : {M : Type 0} (all : List M) (m other : M) (k : ℕ) → k < 1 → get_or (m ∷ []) k other ≡ other → Contains all m → Contains all other
    only all m other zero within is c = subst (Contains all) is c
    only all m other (suc k) within is c = absurd (omega (arith, within))

    one_more : (a b : ℕ) → a ≤ b → a + 0 ≤ b
    one_more a b within = omega (arith, within)
