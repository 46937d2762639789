-- What is found first among the things of a list.
use Rattle.std.proofs.Common.{◌≡◌, ℕ, zero, suc, ◌+◌, ◌<◌, Bool, false, ◌||◌, List, [], ◌∷◌, ◌++◌, length, get_or, map, Contains, Option, None}
use Rattle.std.proofs.Common.{option_map, flat_map, inl, inr, refl, sym, ◌∙◌, ap, subst, arith}
use Rattle.std.proofs.lemmas.Grind.{flat_map-append}
use Rattle.std.proofs.lemmas.List.Elements.{Contains-append_left, Contains-append_right, Contains-append_cases}
use Rattle.std.specs.List.{list_any}
use Rattle.std.specs.Option.{option_or}
use Rattle.std.proofs.lemmas.Bool.Decides.{nat_tests}
use Rattle.stm_visited.specs.Search.{first_of, total}

or_assoc : {A : Type 0} (a b c : Option A) → option_or (option_or a b) c ≡ option_or a (option_or b c)
or_assoc a b c = grind (arith, nat_tests)

map_or : {A B : Type 0} (g : A → B) (a b : Option A) → option_map g (option_or a b) ≡ option_or (option_map g a) (option_map g b)
map_or g a b = grind (arith, nat_tests)

pub first_append : {A B : Type 0} (f : A → Option B) (xs ys : List A) → first_of f (xs ++ ys) ≡ option_or (first_of f xs) (first_of f ys)
first_append f [] ys = refl
first_append f (x ∷ xs) ys = ap (option_or (f x)) (first_append f xs ys) ∙ sym (or_assoc (f x) (first_of f xs) (first_of f ys))

pub first_one : {A B : Type 0} (f : A → Option B) (x : A) → first_of f (x ∷ []) ≡ f x
first_one f x = grind (arith, nat_tests)

-- the same is found where each comes to the same
pub first_same : {A B : Type 0} (f g : A → Option B) (xs : List A) → ((x : A) → f x ≡ g x) → first_of f xs ≡ first_of g xs
first_same f g [] same = refl
first_same {A} {B} f g (x ∷ xs) same = grind (arith, nat_tests, first_same f g xs same)

-- what is found, changed, is what is found changed
pub first_mapped : {A B C : Type 0} (h : B → C) (f : A → Option B) (xs : List A) → option_map h (first_of f xs) ≡ first_of (λ (x : A). option_map h (f x)) xs
first_mapped h f [] = refl
first_mapped h f (x ∷ xs) = map_or h (f x) (first_of f xs) ∙ ap (option_or (option_map h (f x))) (first_mapped h f xs)

pub first_through : {A B C : Type 0} (g : A → B) (f : B → Option C) (xs : List A) → first_of f (map g xs) ≡ first_of (λ (x : A). f (g x)) xs
first_through g f [] = refl
first_through g f (x ∷ xs) = ap (option_or (f (g x))) (first_through g f xs)

pub first_flat : {A B C : Type 0} (g : A → List B) (f : B → Option C) (xs : List A) → first_of f (flat_map g xs) ≡ first_of (λ (x : A). first_of f (g x)) xs
first_flat g f [] = refl
first_flat g f (x ∷ xs) = first_append f (g x) (flat_map g xs) ∙ ap (option_or (first_of f (g x))) (first_flat g f xs)

or_left : {A : Type 0} (a b : Option A) → option_or a b ≡ None → a ≡ None
or_left a b is = grind (arith, nat_tests)

or_right : {A : Type 0} (a b : Option A) → option_or a b ≡ None → b ≡ None
or_right a b is = grind (arith, nat_tests)

none_at : {A B : Type 0} (f : A → Option B) (xs : List A) (x : A) (k : ℕ) → k < length xs → get_or xs k x ≡ x → first_of f xs ≡ None → f x ≡ None
none_at f [] x k within is none = absurd (omega arith)
none_at f (y ∷ ys) x zero within is none = ap f (sym is) ∙ or_left (f y) (first_of f ys) none
none_at f (y ∷ ys) x (suc k) within is none = none_at f ys x k (omega arith) is (or_right (f y) (first_of f ys) none)

pub none_found : {A B : Type 0} (f : A → Option B) (xs : List A) (x : A) → Contains xs x → first_of f xs ≡ None → f x ≡ None
none_found f xs x c none = none_at f xs x c.0 c.1 c.2 none

-- ---- some pass a test

or_of_either : (a b c : Bool) → ((a || b) || c) ≡ (a || (b || c))
or_of_either a b c = grind (arith, nat_tests)

pub or_false : (a : Bool) → (a || false) ≡ a
or_false a = grind (arith, nat_tests)

pub any_append : {A : Type 0} (f : A → Bool) (xs ys : List A) → list_any f (xs ++ ys) ≡ (list_any f xs || list_any f ys)
any_append f [] ys = refl
any_append f (x ∷ xs) ys = ap (λ b. f x || b) (any_append f xs ys) ∙ sym (or_of_either (f x) (list_any f xs) (list_any f ys))

pub any_same : {A : Type 0} (f g : A → Bool) (xs : List A) → ((x : A) → f x ≡ g x) → list_any f xs ≡ list_any g xs
any_same f g [] same = refl
any_same f g (x ∷ xs) same = ap (λ b. b || list_any f xs) (same x) ∙ ap (λ b. g x || b) (any_same f g xs same)

pub any_through : {A B : Type 0} (g : A → B) (f : B → Bool) (xs : List A) → list_any f (map g xs) ≡ list_any (λ (x : A). f (g x)) xs
any_through g f [] = refl
any_through g f (x ∷ xs) = ap (λ b. f (g x) || b) (any_through g f xs)

pub any_flat : {A B : Type 0} (g : A → List B) (f : B → Bool) (xs : List A) → list_any f (flat_map g xs) ≡ list_any (λ (x : A). list_any f (g x)) xs
any_flat g f [] = refl
any_flat g f (x ∷ xs) = any_append f (g x) (flat_map g xs) ∙ ap (λ b. list_any f (g x) || b) (any_flat g f xs)

any_left : (a b : Bool) → (a || b) ≡ false → a ≡ false
any_left a b is = grind (arith, nat_tests)

any_right : (a b : Bool) → (a || b) ≡ false → b ≡ false
any_right a b is = grind (arith, nat_tests)

none_pass : {A : Type 0} (f : A → Bool) (xs : List A) (x : A) (k : ℕ) → k < length xs → get_or xs k x ≡ x → list_any f xs ≡ false → f x ≡ false
none_pass f [] x k within is none = absurd (omega arith)
none_pass f (y ∷ ys) x zero within is none = ap f (sym is) ∙ any_left (f y) (list_any f ys) none
none_pass f (y ∷ ys) x (suc k) within is none = none_pass f ys x k (omega arith) is (any_right (f y) (list_any f ys) none)

pub none_passes : {A : Type 0} (f : A → Bool) (xs : List A) (x : A) → Contains xs x → list_any f xs ≡ false → f x ≡ false
none_passes f xs x c none = none_pass f xs x c.0 c.1 c.2 none

-- ---- all that is gathered

pub flat_same : {A B : Type 0} (f g : A → List B) (xs : List A) → ((x : A) → f x ≡ g x) → flat_map f xs ≡ flat_map g xs
flat_same f g [] same = refl
flat_same f g (x ∷ xs) same = ap (λ ys. ys ++ flat_map f xs) (same x) ∙ ap (λ ys. g x ++ ys) (flat_same f g xs same)

pub flat_flat : {A B C : Type 0} (g : A → List B) (f : B → List C) (xs : List A) → flat_map f (flat_map g xs) ≡ flat_map (λ (x : A). flat_map f (g x)) xs
flat_flat g f [] = refl
flat_flat g f (x ∷ xs) = flat_map-append f (g x) (flat_map g xs) ∙ ap (λ ys. flat_map f (g x) ++ ys) (flat_flat g f xs)

pub append_nil_here : {A : Type 0} (xs : List A) → xs ++ [] ≡ xs
append_nil_here [] = refl
append_nil_here (x ∷ xs) = ap (λ ys. x ∷ ys) (append_nil_here xs)

in_flat_at : {A B : Type 0} (f : A → List B) (xs : List A) (x : A) (k : ℕ) → k < length xs → get_or xs k x ≡ x → (y : B) → Contains (f x) y → Contains (flat_map f xs) y
in_flat_at f [] x k within is y c = absurd (omega arith)
in_flat_at f (z ∷ xs) x zero within is y c = Contains-append_left (f z) (flat_map f xs) y (subst (λ v. Contains (f v) y) (sym is) c)
in_flat_at f (z ∷ xs) x (suc k) within is y c = Contains-append_right (f z) (flat_map f xs) y (in_flat_at f xs x k (omega arith) is y c)

pub in_flat : {A B : Type 0} (f : A → List B) (xs : List A) (x : A) → Contains xs x → (y : B) → Contains (f x) y → Contains (flat_map f xs) y
in_flat f xs x c y has = in_flat_at f xs x c.0 c.1 c.2 y has

-- what is gathered comes from one of them
pub of_flat : {A B : Type 0} (f : A → List B) (xs : List A) (y : B) → Contains (flat_map f xs) y → (x : A) × Contains xs x × Contains (f x) y
of_flat f [] y c = absurd (let none : c.0 < 0 = c.1 in omega (arith, none))
of_flat f (x ∷ xs) y c = elim (Contains-append_cases (f x) (flat_map f xs) y c) [
  | inl here ↦ (x, (0, omega arith, refl), here)
  | inr there ↦ let rest = of_flat f xs y there in (rest.0, (suc rest.1.0, let within : rest.1.0 < length xs = rest.1.1 in omega (arith, within), rest.1.2), rest.2)
]

mapped_at : {A B : Type 0} (f : A → B) (xs : List A) (y : B) (k : ℕ) → k < length (map f xs) → get_or (map f xs) k y ≡ y → (x : A) × Contains xs x × (f x ≡ y)
mapped_at f [] y k within is = absurd (omega (arith, within))
mapped_at f (x ∷ xs) y zero within is = (x, (0, omega arith, refl), is)
mapped_at f (x ∷ xs) y (suc k) within is =
    let rest = mapped_at f xs y k (omega (arith, within)) is in
    (rest.0, (suc rest.1.0, let there : rest.1.0 < length xs = rest.1.1 in omega (arith, there), rest.1.2), rest.2)

pub of_mapped : {A B : Type 0} (f : A → B) (xs : List A) (y : B) → Contains (map f xs) y → (x : A) × Contains xs x × (f x ≡ y)
of_mapped f xs y c = mapped_at f xs y c.0 c.1 c.2

is_mapped_at : {A B : Type 0} (f : A → B) (xs : List A) (x : A) (k : ℕ) → k < length xs → get_or xs k x ≡ x → Contains (map f xs) (f x)
is_mapped_at f [] x k within is = absurd (omega (arith, within))
is_mapped_at f (z ∷ zs) x zero within is = (0, omega arith, ap f is)
is_mapped_at f (z ∷ zs) x (suc k) within is =
    let rest = is_mapped_at f zs x k (omega (arith, within)) is in (suc rest.0, let there : rest.0 < length (map f zs) = rest.1 in omega (arith, there), rest.2)

pub is_mapped : {A B : Type 0} (f : A → B) (xs : List A) (x : A) → Contains xs x → Contains (map f xs) (f x)
is_mapped f xs x c = is_mapped_at f xs x c.0 c.1 c.2

-- ---- totals

pub total_append : {A : Type 0} (f : A → ℕ) (xs ys : List A) → total f (xs ++ ys) ≡ total f xs + total f ys
total_append f [] ys = omega arith
total_append f (x ∷ xs) ys = let e : total f (xs ++ ys) ≡ total f xs + total f ys = total_append f xs ys in omega (arith, e)

pub total_same : {A : Type 0} (f g : A → ℕ) (xs : List A) → ((x : A) → f x ≡ g x) → total f xs ≡ total g xs
total_same f g [] same = refl
total_same f g (x ∷ xs) same = let one : f x ≡ g x = same x in let e : total f xs ≡ total g xs = total_same f g xs same in omega (arith, one, e)

pub total_through : {A B : Type 0} (g : A → B) (f : B → ℕ) (xs : List A) → total f (map g xs) ≡ total (λ x. f (g x)) xs
total_through g f [] = refl
total_through g f (x ∷ xs) = ap (λ n. f (g x) + n) (total_through g f xs)

pub total_flat : {A B : Type 0} (g : A → List B) (f : B → ℕ) (xs : List A) → total f (flat_map g xs) ≡ total (λ x. total f (g x)) xs
total_flat g f [] = refl
total_flat g f (x ∷ xs) = total_append f (g x) (flat_map g xs) ∙ ap (λ n. total f (g x) + n) (total_flat g f xs)

pub total_ones : {A : Type 0} (xs : List A) → total (λ x. 1) xs ≡ length xs
total_ones [] = refl
total_ones (x ∷ xs) = let e : total (λ y. 1) xs ≡ length xs = total_ones xs in omega (arith, e)
