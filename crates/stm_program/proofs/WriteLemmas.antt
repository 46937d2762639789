-- The last write of a key, and what a write more makes of it.
use Rattle.std.proofs.Common.{◌≡◌, ℕ, List, [], ◌∷◌, ◌++◌, reverse, find, Option, Some, None, Bool, true, false, cond, refl, sym, ap, arith}
use Rattle.std.specs.Prelude.{bytes_eq, ◌||◌}
use Rattle.std.proofs.lemmas.List.{reverse-append}
use Rattle.std.proofs.lemmas.Slice.Eq.{bytes_eq-Decides}
use Rattle.std.proofs.lemmas.Bool.Decides.{nat_tests}
use Rattle.stm_history.specs.declared.change.Change.{Change}
use Rattle.stm_history.specs.History.{key_of}
use Rattle.stm_program.specs.Writes.{last_write, is_written}

pub bytes_eq-self : (key : List ℕ) → bytes_eq key key ≡ true
bytes_eq-self key = (bytes_eq-Decides key key).1 refl

pub bytes_eq-same : (a b : List ℕ) → bytes_eq a b ≡ true → a ≡ b
bytes_eq-same a b e = (bytes_eq-Decides a b).0 e

pub bytes_eq-flip : (a b : List ℕ) → bytes_eq a b ≡ bytes_eq b a
bytes_eq-flip a b = elim (bytes_eq a b) as (λ c. bytes_eq a b ≡ c → c ≡ bytes_eq b a) [
  | true ↦ λ e. sym ((bytes_eq-Decides b a).1 (sym (bytes_eq-same a b e)))
  | false ↦ λ e. elim (bytes_eq b a) as (λ d. bytes_eq b a ≡ d → false ≡ d) [
    | true ↦ λ f. let g : bytes_eq a b ≡ true = (bytes_eq-Decides a b).1 (sym (bytes_eq-same b a f)) in absurd (cc)
    | false ↦ λ f. refl
  ] refl
] refl

chosen_fits : (p : Change → Bool) (b : Bool) (w x : Change) (rest : Option Change) → p w ≡ b → (rest ≡ Some x → p x ≡ true) →
    cond b (Some w) rest ≡ Some x → p x ≡ true
chosen_fits p b w x rest fits deeper found = grind (arith, nat_tests)

-- what a search finds passes its test
found_fits : (p : Change → Bool) (ws : List Change) (x : Change) → find p ws ≡ Some x → p x ≡ true
found_fits p [] x found = absurd (cc)
found_fits p (w ∷ ws) x found = chosen_fits p (p w) w x (find p ws) refl (found_fits p ws x) found

-- the last write of a key is a write of it
pub last_write-is_of : (key : List ℕ) (ws : List Change) (x : Change) → last_write key ws ≡ Some x → bytes_eq (key_of x) key ≡ true
unfolding last_write
last_write-is_of key ws x found = found_fits (λ w. bytes_eq (key_of w) key) (reverse ws) x found

-- no write, no last one
pub last_write-none : (key : List ℕ) → last_write key [] ≡ None
unfolding last_write
last_write-none key = refl

-- one write more is the last one where it is of the key
pub last_write-more : (key : List ℕ) (ws : List Change) (w : Change) →
    last_write key (ws ++ w ∷ []) ≡ cond (bytes_eq (key_of w) key) (Some w) (last_write key ws)
unfolding last_write
last_write-more key ws w = ap (find (λ v. bytes_eq (key_of v) key)) (reverse-append ws (w ∷ []))

-- a key is written by a list with one more write where that write is of it, or one before is
pub is_written-more : (key : List ℕ) (ws : List Change) (w : Change) → is_written key (ws ++ w ∷ []) ≡ (bytes_eq (key_of w) key || is_written key ws)
is_written-more key ws w = grind (arith, nat_tests, last_write-more)

-- the first of two that is there
abbrev pub or_else : Option Change → Option Change → Option Change
or_else None other = other
or_else (Some w) other = Some w

find-append : (p : Change → Bool) (xs ys : List Change) → find p (xs ++ ys) ≡ or_else (find p xs) (find p ys)
find-append p [] ys = refl
find-append p (x ∷ xs) ys = grind (arith, nat_tests, find-append p xs ys)

-- of two lists of writes the second is looked at first
pub last_write-append : (key : List ℕ) (xs ys : List Change) → last_write key (xs ++ ys) ≡ or_else (last_write key ys) (last_write key xs)
unfolding last_write
last_write-append key xs ys = grind (arith, nat_tests, reverse-append, find-append)

pub last_write-one : (key : List ℕ) (w : Change) → last_write key (w ∷ []) ≡ cond (bytes_eq (key_of w) key) (Some w) None
unfolding last_write
last_write-one key w = refl
