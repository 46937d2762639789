-- Members of lists by recursion, and what is found first among them.
use Rattle.std.proofs.Common.{◌≡◌, ◌⊎◌, ℕ, zero, suc, ◌<◌, Bool, true, false, ◌||◌, List, [], ◌∷◌, ◌++◌, length, get_or, Contains, Option, Some, None}
use Rattle.std.proofs.Common.{option_map, flat_map, inl, inr, refl, sym, ◌∙◌, ap, subst, arith}
use Rattle.std.specs.List.{list_any}
use Rattle.std.specs.Option.{option_or}
use Rattle.std.proofs.lemmas.Bool.Decides.{nat_tests}
use Rattle.stm_schedules.specs.Keeping.{first_of}

abbrev pub IsAmong : {A : Type 0} → A → List A → Type 0
IsAmong x [] = ⊥
IsAmong x (y ∷ ys) = (y ≡ x) ⊎ IsAmong x ys

among_at : {A : Type 0} (x : A) (xs : List A) (k : ℕ) → k < length xs → get_or xs k x ≡ x → IsAmong x xs
among_at x [] k within is = absurd (omega arith)
among_at x (y ∷ ys) zero within is = inl is
among_at x (y ∷ ys) (suc k) within is = inr (among_at x ys k (omega arith) is)

pub among : {A : Type 0} (x : A) (xs : List A) → Contains xs x → IsAmong x xs
among x xs c = among_at x xs c.0 c.1 c.2

pub contained : {A : Type 0} (x : A) (xs : List A) → IsAmong x xs → Contains xs x
contained x [] a = absurd a
contained x (y ∷ ys) a = elim a [
  | inl here ↦ (0, omega arith, here)
  | inr there ↦ let c = contained x ys there in (suc c.0, omega (arith, c.1), c.2)
]

pub in_first : {A : Type 0} (x : A) (xs ys : List A) → IsAmong x xs → IsAmong x (xs ++ ys)
in_first x [] ys a = absurd a
in_first x (y ∷ xs) ys a = elim a [
  | inl here ↦ inl here
  | inr there ↦ inr (in_first x xs ys there)
]

pub in_second : {A : Type 0} (x : A) (xs ys : List A) → IsAmong x ys → IsAmong x (xs ++ ys)
in_second x [] ys a = a
in_second x (y ∷ xs) ys a = inr (in_second x xs ys a)

pub in_either : {A : Type 0} (x : A) (xs ys : List A) → IsAmong x (xs ++ ys) → IsAmong x xs ⊎ IsAmong x ys
in_either x [] ys a = inr a
in_either x (y ∷ xs) ys a = elim a [
  | inl here ↦ inl (inl here)
  | inr there ↦ elim (in_either x xs ys there) [
    | inl left ↦ inl (inr left)
    | inr right ↦ inr right
  ]
]

-- ---- what is gathered

pub gathered_from : {A B : Type 0} (f : A → List B) (xs : List A) (y : B) → IsAmong y (flat_map f xs) → (x : A) × IsAmong x xs × IsAmong y (f x)
gathered_from f [] y a = absurd a
gathered_from f (x ∷ xs) y a = elim (in_either y (f x) (flat_map f xs) a) [
  | inl left ↦ (x, inl refl, left)
  | inr right ↦ let rest = gathered_from f xs y right in (rest.0, inr rest.1, rest.2)
]

pub is_gathered : {A B : Type 0} (f : A → List B) (xs : List A) (x : A) (y : B) → IsAmong x xs → IsAmong y (f x) → IsAmong y (flat_map f xs)
is_gathered f [] x y a b = absurd a
is_gathered {A} {B} f (z ∷ xs) x y a b = elim a [
  | inl here ↦ in_first y (f z) (flat_map f xs) (subst (λ (v : A). IsAmong y (f v)) (sym here) b)
  | inr there ↦ in_second y (f z) (flat_map f xs) (is_gathered f xs x y there b)
]

-- ---- some of them pass a test

either_true : (a b : Bool) → (a || b) ≡ true → (a ≡ true) ⊎ (b ≡ true)
either_true a b is = grind (arith, nat_tests)

pub both_false : (a b : Bool) → (a || b) ≡ false → (a ≡ false) × (b ≡ false)
both_false a b is = grind (arith, nat_tests)

pub some_pass : {A : Type 0} (test : A → Bool) (xs : List A) → list_any test xs ≡ true → (x : A) × IsAmong x xs × (test x ≡ true)
some_pass test [] is = absurd (cc)
some_pass test (x ∷ xs) is = elim (either_true (test x) (list_any test xs) is) [
  | inl here ↦ (x, inl refl, here)
  | inr there ↦ let rest = some_pass test xs there in (rest.0, inr rest.1, rest.2)
]

true_left : (a b : Bool) → a ≡ true → (a || b) ≡ true
true_left a b is = grind (arith, nat_tests)

true_right : (a b : Bool) → b ≡ true → (a || b) ≡ true
true_right a b is = grind (arith, nat_tests)

pub one_passes : {A : Type 0} (test : A → Bool) (xs : List A) (x : A) → IsAmong x xs → test x ≡ true → list_any test xs ≡ true
one_passes test [] x a is = absurd a
one_passes test (y ∷ ys) x a is = elim a [
  | inl here ↦ true_left (test y) (list_any test ys) (ap test here ∙ is)
  | inr there ↦ true_right (test y) (list_any test ys) (one_passes test ys x there is)
]

pub none_passes : {A : Type 0} (test : A → Bool) (xs : List A) (x : A) → IsAmong x xs → list_any test xs ≡ false → test x ≡ false
none_passes test [] x a is = absurd a
none_passes test (y ∷ ys) x a is =
    let both = both_false (test y) (list_any test ys) is in
    elim a [
      | inl here ↦ ap test (sym here) ∙ both.0
      | inr there ↦ none_passes test ys x there both.1
    ]

-- ---- what is found at them

pub or_none : {A : Type 0} (o p : Option A) → option_or o p ≡ None → (o ≡ None) × (p ≡ None)
or_none o p is = grind (arith, nat_tests)

pub map_none : {A B : Type 0} (f : A → B) (o : Option A) → option_map f o ≡ None → o ≡ None
map_none f o is = grind (arith, nat_tests)

pub map_some : {A B : Type 0} (f : A → B) (o : Option A) (y : B) → option_map f o ≡ Some y → (x : A) × (o ≡ Some x) × (f x ≡ y)
map_some f o y is = grind (arith, nat_tests)

pub none_found : {A B : Type 0} (f : A → Option B) (xs : List A) (x : A) → first_of f xs ≡ None → IsAmong x xs → f x ≡ None
none_found f [] x is a = absurd a
none_found f (y ∷ ys) x is a =
    let both = or_none (f y) (first_of f ys) is in
    elim a [
      | inl here ↦ ap f (sym here) ∙ both.0
      | inr there ↦ none_found f ys x both.1 there
    ]
