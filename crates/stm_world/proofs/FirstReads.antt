-- The keys in the order in which an attempt first reads them, with one key more.
use Rattle.std.proofs.Common.{◌≡◌, ◌⊎◌, inl, inr, ℕ, Bool, true, false, not, cond, List, [], ◌∷◌, ◌++◌, filter, refl, sym, ◌∙◌, ap, append_assoc, append-nil}
use Rattle.std.specs.Prelude.{bytes_eq, ◌||◌}
use Rattle.std.specs.List.{list_any}
use Rattle.std.proofs.lemmas.Slice.Eq.{bytes_eq-Decides}
use Rattle.std.proofs.lemmas.Bool.Decides.{nat_tests}
use Rattle.std.proofs.Common.{arith}
use Rattle.stm_steps.specs.Session.{with_key}
use Rattle.stm_events.specs.FirstReads.{is_other, keys_first_read}

neither : (b c : Bool) → (b || c) ≡ false → (b ≡ false) × (c ≡ false)
neither b c h = grind (arith, nat_tests)

none_of_two : (b c : Bool) → b ≡ false → c ≡ false → (b || c) ≡ false
none_of_two b c first second = ap (λ x. x || c) first ∙ second

any_split : (test : List ℕ → Bool) (xs ys : List (List ℕ)) → list_any test (xs ++ ys) ≡ false → (list_any test xs ≡ false) × (list_any test ys ≡ false)
any_split test [] ys none = (refl, none)
any_split test (x ∷ xs) ys none =
    let parts = neither (test x) (list_any test (xs ++ ys)) none in
    let rest = any_split test xs ys parts.1 in
    (none_of_two (test x) (list_any test xs) parts.0 rest.0, rest.1)

any_by : (test : List ℕ → Bool) (x : List ℕ) (xs ys : List (List ℕ)) (b : Bool) → test x ≡ b
    → (list_any test (xs ++ ys) ≡ true → (list_any test xs ≡ true) ⊎ (list_any test ys ≡ true)) → (b || list_any test (xs ++ ys)) ≡ true
    → (list_any test (x ∷ xs) ≡ true) ⊎ (list_any test ys ≡ true)
any_by test x xs ys b here rest any = grind (arith, nat_tests)

any_in : (test : List ℕ → Bool) (xs ys : List (List ℕ)) → list_any test (xs ++ ys) ≡ true → (list_any test xs ≡ true) ⊎ (list_any test ys ≡ true)
any_in test [] ys is = inr is
any_in test (x ∷ xs) ys is = any_by test x xs ys (test x) refl (any_in test xs ys) is

-- ---- filters

push_by : (kept : Bool) (y : List ℕ) (more rest tail : List (List ℕ)) → more ≡ rest ++ tail → cond kept (y ∷ more) more ≡ cond kept (y ∷ rest) rest ++ tail
push_by kept y more rest tail is = grind (arith, nat_tests)

filter_push : (test : List ℕ → Bool) (xs : List (List ℕ)) (x : List ℕ) (kept : Bool) → test x ≡ kept
    → filter test (xs ++ x ∷ []) ≡ filter test xs ++ cond kept (x ∷ []) []
filter_push test [] x kept is = ap (λ c. cond c (x ∷ []) []) is
filter_push test (y ∷ xs) x kept is = grind (arith, nat_tests, push_by, filter_push test xs x kept is)

-- what is not in a list is in no part of it
none_kept : (kept : Bool) (key y : List ℕ) (rest : List (List ℕ)) → bytes_eq key y ≡ false → list_any (bytes_eq key) rest ≡ false
    → list_any (bytes_eq key) (cond kept (y ∷ rest) rest) ≡ false
none_kept kept key y rest other none = grind (arith, nat_tests, none_of_two)

none_filtered : (test : List ℕ → Bool) (key : List ℕ) (xs : List (List ℕ)) → list_any (bytes_eq key) xs ≡ false → list_any (bytes_eq key) (filter test xs) ≡ false
none_filtered test key [] none = refl
none_filtered test key (y ∷ xs) none =
    let parts = neither (bytes_eq key y) (list_any (bytes_eq key) xs) none in
    none_kept (test y) key y (filter test xs) parts.0 (none_filtered test key xs parts.1)

passing_by : (test : List ℕ → Bool) (key y : List ℕ) (xs : List (List ℕ)) (kept : Bool) → test y ≡ kept → test key ≡ true
    → (list_any (bytes_eq key) (filter test xs) ≡ false → list_any (bytes_eq key) xs ≡ false)
    → list_any (bytes_eq key) (cond kept (y ∷ filter test xs) (filter test xs)) ≡ false → list_any (bytes_eq key) (y ∷ xs) ≡ false
passing_by test key y xs kept is passes rest none = grind (arith, nat_tests, neither, none_of_two, bytes_eq-Decides)

none_passing : (test : List ℕ → Bool) (key : List ℕ) (xs : List (List ℕ)) → test key ≡ true → list_any (bytes_eq key) (filter test xs) ≡ false
    → list_any (bytes_eq key) xs ≡ false
none_passing test key [] passes none = refl
none_passing test key (y ∷ xs) passes none = passing_by test key y xs (test y) refl passes (none_passing test key xs passes) none

-- ---- one key more

pub first_none : (keys : List (List ℕ)) → keys_first_read keys [] ≡ keys
first_none keys = grind (arith, nat_tests, append-nil)

-- a key that is none of them comes after them
pub first_adds : (keys reads : List (List ℕ)) (next : List ℕ) → list_any (bytes_eq next) (keys_first_read keys reads) ≡ false
    → keys_first_read keys (with_key next reads) ≡ keys_first_read keys reads ++ next ∷ []
first_adds [] reads next none = ap (λ b. cond b reads (reads ++ next ∷ [])) none
first_adds (key ∷ keys) reads next none =
    let all : List (List ℕ) = key ∷ keys in
    let parts = any_split (bytes_eq next) all (filter (is_other all) reads) none in
    let other : is_other all next ≡ true = ap not parts.0 in
    let absent : list_any (bytes_eq next) reads ≡ false = none_passing (is_other all) next reads other parts.1 in
    ap (λ b. keys_first_read all (cond b reads (reads ++ next ∷ []))) absent
    ∙ ap (λ (l : List (List ℕ)). all ++ l) (filter_push (is_other all) reads next true other)
    ∙ sym (append_assoc all (filter (is_other all) reads) (next ∷ []))

-- one of them changes nothing
stays_by : (key : List ℕ) (keys reads : List (List ℕ)) (next : List ℕ) (b : Bool) → list_any (bytes_eq next) reads ≡ b
    → list_any (bytes_eq next) ((key ∷ keys) ++ filter (is_other (key ∷ keys)) reads) ≡ true
    → keys_first_read (key ∷ keys) (cond b reads (reads ++ next ∷ [])) ≡ keys_first_read (key ∷ keys) reads
stays_by key keys reads next true is there = refl
stays_by key keys reads next false absent there =
    let all : List (List ℕ) = key ∷ keys in
    elim (any_in (bytes_eq next) all (filter (is_other all) reads) there) [
      | inl listed ↦
          ap (λ (l : List (List ℕ)). all ++ l)
          (filter_push (is_other all) reads next false (ap not listed) ∙ append-nil (filter (is_other all) reads))
      | inr behind ↦ (let both : true ≡ false = sym behind ∙ none_filtered (is_other all) next reads absent in absurd (cc))
    ]

pub first_stays : (keys reads : List (List ℕ)) (next : List ℕ) → list_any (bytes_eq next) (keys_first_read keys reads) ≡ true
    → keys_first_read keys (with_key next reads) ≡ keys_first_read keys reads
first_stays keys reads next there = grind (arith, nat_tests, stays_by)
