-- A list of names, and where one of them stands.
use Rattle.std.proofs.Common.{◌≡◌, ℕ, Bool, false, not, cond, List, [], ◌∷◌, ◌++◌, length, map, String, refl, sym, ap, ◌∙◌}
use Rattle.std.proofs.lemmas.List.{map_push}
use Rattle.std.specs.Prelude.{string_bytes, string_eq, bytes_eq}
use Rattle.std.specs.List.{list_any, position, prefix_len}

pub any_of : {X Y : Type 0} (p : Y → Bool) (f : X → Y) (xs : List X) → list_any p (map f xs) ≡ list_any (λ x. p (f x)) xs
any_of p f [] = refl
any_of p f (x ∷ xs) = rw (any_of p f xs) refl

pub length_of : {X Y : Type 0} (f : X → Y) (xs : List X) → length (map f xs) ≡ length xs
length_of f [] = refl
length_of f (x ∷ xs) = rw (length_of f xs) refl

prefix_of : {X Y : Type 0} (p : Y → Bool) (f : X → Y) (xs : List X) → prefix_len p (map f xs) ≡ prefix_len (λ x. p (f x)) xs
prefix_of p f [] = refl
prefix_of p f (x ∷ xs) = rw (prefix_of p f xs) refl

pub position_of : {X Y : Type 0} (p : Y → Bool) (f : X → Y) (xs : List X) → position p (map f xs) ≡ position (λ x. p (f x)) xs
position_of p f xs = rw (prefix_of (λ y. not (p y)) f xs, length_of f xs) refl

-- a name more, which is none of these
pub with_new : {A : Type 0} (names : List (String A)) (new : String A) (name : List ℕ) → string_bytes new ≡ name
    → list_any (bytes_eq name) (map string_bytes names) ≡ false
    → map string_bytes (cond (list_any (string_eq new) names) names (names ++ new ∷ [])) ≡ map string_bytes names ++ name ∷ []
with_new names new name is none =
    let other : list_any (string_eq new) names ≡ false =
    sym (any_of (bytes_eq (string_bytes new)) string_bytes names) ∙ ap (λ (n : List ℕ). list_any (bytes_eq n) (map string_bytes names)) is ∙ none in
    ap (λ (b : Bool). map string_bytes (cond b names (names ++ new ∷ []))) other ∙ map_push string_bytes names new
    ∙ ap (λ (n : List ℕ). map string_bytes names ++ n ∷ []) is
