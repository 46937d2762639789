-- What comes after the elements of a list that are searched, as one is added.
use Rattle.std.proofs.Common.{◌≡◌, ℕ, ◌<◌, List, [], ◌∷◌, ◌++◌, length, Bool, true, false, cond, refl, sym, ◌∙◌, ap, arith, length-append, drop, take}
use Rattle.std.specs.Prelude.{bytes_eq, ◌||◌}
use Rattle.std.specs.List.{list_any}
use Rattle.std.proofs.lemmas.List.{drop_all, take-append-drop}
use Rattle.std.proofs.lemmas.List.Folds.{list_any-append}
use Rattle.stm_program.proofs.WriteLemmas.{bytes_eq-flip}
use Rattle.stm_steps.specs.Session.{with_key}

-- nothing, where there is room for one more
pub none_behind : {X : Type 0} (n : ℕ) (xs : List X) (x : X) → length xs < n → drop n (xs ++ x ∷ []) ≡ drop n xs
none_behind n xs x few = drop_all n (xs ++ x ∷ []) (omega (arith, length-append xs (x ∷ []))) ∙ sym (drop_all n xs (omega arith))

-- and nothing comes after the first n of nothing
pub none_behind_none : {X : Type 0} (n : ℕ) (xs behind : List X) → xs ≡ [] → behind ≡ [] → behind ≡ drop n xs
none_behind_none n [] behind none empty = empty ∙ sym (drop_all n [] (omega arith))
none_behind_none n (x ∷ xs) behind none empty = absurd (cc)

-- a key is among these where one of them is it
pub among_flipped : (key : List ℕ) (keys : List (List ℕ)) → list_any (λ k. bytes_eq k key) keys ≡ list_any (bytes_eq key) keys
among_flipped key [] = refl
among_flipped key (k ∷ keys) =
    ap (λ b. b || list_any (λ j. bytes_eq j key) keys) (bytes_eq-flip k key) ∙ ap (λ b. bytes_eq key k || b) (among_flipped key keys)

-- something is in a list that is cut in two where it is in one of them
pub any_of_both : {X : Type 0} (n : ℕ) (p : X → Bool) (xs : List X) → (list_any p (take n xs) || list_any p (drop n xs)) ≡ list_any p xs
any_of_both n p xs = sym (list_any-append p (take n xs) (drop n xs)) ∙ ap (list_any p) (take-append-drop n xs)

-- where the first part has it, the list has it
pub among_first : {X : Type 0} (n : ℕ) (p : X → Bool) (xs : List X) → list_any p (take n xs) ≡ true → list_any p xs ≡ true
among_first n p xs first = sym (any_of_both n p xs) ∙ ap (λ b. b || list_any p (drop n xs)) first

-- where the first part has it not, the list has it where the rest does
pub among_rest : {X : Type 0} (n : ℕ) (p : X → Bool) (xs : List X) → list_any p (take n xs) ≡ false → list_any p xs ≡ list_any p (drop n xs)
among_rest n p xs first = sym (any_of_both n p xs) ∙ ap (λ b. b || list_any p (drop n xs)) first

second_is_false : (a b : Bool) → (a || b) ≡ false → b ≡ false
second_is_false true b e = absurd (cc)
second_is_false false b e = e

-- a key that is not in a list is not in its later part
pub none_behind_is_it : (n : ℕ) (key : List ℕ) (keys : List (List ℕ)) → list_any (bytes_eq key) keys ≡ false → list_any (bytes_eq key) (drop n keys) ≡ false
none_behind_is_it n key keys new =
    second_is_false (list_any (bytes_eq key) (take n keys)) (list_any (bytes_eq key) (drop n keys)) (any_of_both n (bytes_eq key) keys ∙ new)

-- a new key goes last
pub with_new_key : (key : List ℕ) (keys : List (List ℕ)) → list_any (bytes_eq key) keys ≡ false → with_key key keys ≡ keys ++ key ∷ []
with_new_key key keys new = ap (λ b. cond b keys (keys ++ key ∷ [])) new
