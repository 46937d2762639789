-- One answer more of two lists.
use Rattle.std.proofs.Common.{◌≡◌, ℕ, suc, ◌+◌, ◌<◌, List, [], ◌∷◌, ◌++◌, length, map, get_or, take, refl, sym, ◌∙◌, ap, arith}
use Rattle.std.proofs.Math.Seq.{take-suc}
use Rattle.stm_history.specs.declared.key_state.ReadAnswer.{ReadAnswer}
use Rattle.stm_alike.specs.Levelled.{carrying}

pub same_answer : (left right : ReadAnswer) → left.revision ≡ right.revision → ((n : ℕ) → carrying n left ≡ carrying n right) → left ≡ right
same_answer left right revision shows = shows left.revision ∙ ap (λ n. carrying n right) revision

map_one : {A B : Type 0} (f : A → B) (xs : List A) (x : A) → map f (xs ++ x ∷ []) ≡ map f xs ++ f x ∷ []
map_one f [] x = refl
map_one f (y ∷ xs) x = ap (λ ys. f y ∷ ys) (map_one f xs x)

taken : {A B : Type 0} (f : A → B) (xs : List A) (i : ℕ) (x : A) → i < length xs → x ≡ get_or xs i x → map f (take (i + 1) xs) ≡ map f (take i xs) ++ f x ∷ []
taken f xs i x within is =
    let e : i + 1 ≡ suc i = omega arith in
    ap (λ j. map f (take j xs)) e ∙ ap (map f) (take-suc xs i x within) ∙ map_one f (take i xs) (get_or xs i x) ∙ ap (λ y. map f (take i xs) ++ f y ∷ []) (sym is)

pub one_more : {A B : Type 0} (f : A → B) (xs ys : List A) (i : ℕ) (x y : A) → i < length xs → i < length ys → x ≡ get_or xs i x → y ≡ get_or ys i y → f x ≡ f y →
    map f (take i xs) ≡ map f (take i ys) → map f (take (i + 1) xs) ≡ map f (take (i + 1) ys)
one_more {A} {B} f xs ys i x y in_first in_second first second same so_far =
    taken f xs i x in_first first ∙ ap (λ (zs : List B). zs ++ f x ∷ []) so_far ∙ ap (λ z. map f (take i ys) ++ z ∷ []) same ∙ sym (taken f ys i y in_second second)
