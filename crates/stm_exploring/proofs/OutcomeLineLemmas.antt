-- Outcomes with their schedules, as a loop comes to them.
use Rattle.std.proofs.Common.{◌≡◌, ◌∙◌, ℕ, zero, suc, ◌+◌, ◌<◌, ◌≤◌, List, [], ◌∷◌, ◌++◌, length, map, take, get_or, refl, sym, ap, ap₂, arith}
use Rattle.std.proofs.Math.Seq.{take-suc}
use Rattle.std.proofs.lemmas.List.{map-append}
use Rattle.std.proofs.lemmas.List.Sums.{fold_push}
use Rattle.std.proofs.lemmas.Slice.Zip.{get_or-zip}
use Rattle.std.specs.BTreeSet.{insert_key}
use Rattle.std.specs.Cmp.Lexicographic.{slice_cmp}
use Rattle.std.specs.List.{zip}
use Rattle.std.specs.Ordering.{nat_cmp}
use Rattle.stm_exploring.specs.Lines.{each_once}

-- where there is a pair, there is one of each
pub within_both : {A B : Type 0} (xs : List A) (ys : List B) (i : ℕ) → i < length (zip xs ys) → (i < length xs) × (i < length ys)
within_both [] ys i within = absurd (omega (arith, within))
within_both (x ∷ xs) [] i within = absurd (omega (arith, within))
within_both (x ∷ xs) (y ∷ ys) zero within = (omega arith, omega arith)
within_both (x ∷ xs) (y ∷ ys) (suc i) within =
    let rest = within_both xs ys i (omega (arith, within)) in
    let first : i < length xs = rest.0 in
    let second : i < length ys = rest.1 in
    (omega (arith, first), omega (arith, second))

-- there are as many as of the fewer
pub pairs_of_first : {A B : Type 0} (xs : List A) (ys : List B) → length xs ≤ length ys → length xs ≡ length (zip xs ys)
pairs_of_first [] ys fewer = refl
pairs_of_first (x ∷ xs) [] fewer = absurd (omega arith)
pairs_of_first (x ∷ xs) (y ∷ ys) fewer = ap suc (pairs_of_first xs ys (omega arith))

pub pairs_of_second : {A B : Type 0} (xs : List A) (ys : List B) → length ys < length xs → length ys ≡ length (zip xs ys)
pairs_of_second [] ys fewer = absurd (omega arith)
pairs_of_second (x ∷ xs) [] fewer = refl
pairs_of_second (x ∷ xs) (y ∷ ys) fewer = ap suc (pairs_of_second xs ys (omega arith))

-- one more pair
pub pair_more : {A B : Type 0} (f : A × B → List ℕ) (xs : List A) (ys : List B) (i : ℕ) (x : A) (y : B) (text : List ℕ) (old new : List (List ℕ)) →
    i < length (zip xs ys) → x ≡ get_or xs i x → y ≡ get_or ys i y → text ≡ f (x, y) → old ≡ each_once (map f (take i (zip xs ys))) →
    new ≡ insert_key (slice_cmp nat_cmp) old text → new ≡ each_once (map f (take (i + 1) (zip xs ys)))
pair_more {A} {B} f xs ys i x y text old new within first second is so_far added =
    let both = within_both xs ys i within in
    let zs : List (A × B) = zip xs ys in
    let step : i + 1 ≡ suc i = omega arith in
    let item : get_or zs i (x, y) ≡ (x, y) = get_or-zip xs ys i (x, y) both.0 both.1 ∙ ap₂ (λ (a : A) (b : B). (a, b)) (sym first) (sym second) in
    let more : map f (take (i + 1) zs) ≡ map f (take i zs) ++ f (x, y) ∷ [] =
    ap (λ (n : ℕ). map f (take n zs)) step ∙ ap (map f) (take-suc zs i (x, y) within) ∙ map-append f (take i zs) (get_or zs i (x, y) ∷ [])
    ∙ ap (λ (p : A × B). map f (take i zs) ++ f p ∷ []) item in
    added ∙ ap₂ (insert_key (slice_cmp nat_cmp)) so_far is ∙ sym (fold_push (insert_key (slice_cmp nat_cmp)) [] (map f (take i zs)) (f (x, y)))
    ∙ ap each_once (sym more)
