-- The front of a text, byte by byte.
use Rattle.std.proofs.Common.{◌≡◌, ℕ, zero, suc, ◌+◌, ◌<◌, ◌≤◌, Bool, true, false, cond, List, [], ◌∷◌, ◌++◌, length, take, drop, get_or, refl, sym}
use Rattle.std.proofs.Common.{ap, ◌∙◌, arith}
use Rattle.stm_formats.specs.FormatShown.{front, is_continuation}

-- n bytes of it, and the continuation bytes after them
pub front_from : (n : ℕ) (bs : List ℕ) → n ≤ length bs → front n bs ≡ take n bs ++ front 0 (drop n bs)
front_from zero bs within = refl
front_from (suc n) [] within = absurd (omega arith)
front_from (suc n) (b ∷ bs) within = ap (λ (xs : List ℕ). b ∷ xs) (front_from n bs (omega arith))

-- a text of no more bytes
pub front_short : (n : ℕ) (bs : List ℕ) → length bs ≤ n → bs ≡ front n bs
front_short zero [] short = refl
front_short zero (b ∷ bs) short = absurd (omega arith)
front_short (suc n) [] short = refl
front_short (suc n) (b ∷ bs) short = ap (λ (xs : List ℕ). b ∷ xs) (front_short n bs (omega arith))

by_next : (b : Bool) (x : ℕ) (rest : List ℕ) → b ≡ true → cond b (x ∷ rest) [] ≡ x ∷ rest
by_next true x rest is = refl
by_next false x rest is = cc

-- one more byte that goes on
pub goes_on : (i : ℕ) (bs : List ℕ) (x : ℕ) → i < length bs → x ≡ get_or bs i x → is_continuation x ≡ true
    → take i bs ++ front 0 (drop i bs) ≡ take (i + 1) bs ++ front 0 (drop (i + 1) bs)
goes_on i [] x within is on = absurd (omega arith)
goes_on zero (b ∷ bs) x within is on = by_next (is_continuation b) b (front 0 bs) (ap is_continuation (sym is) ∙ on)
goes_on (suc i) (b ∷ bs) x within is on =
    let step : suc i + 1 ≡ suc (i + 1) = omega arith in
    ap (λ (xs : List ℕ). b ∷ xs) (goes_on i bs x (omega arith) is on)
    ∙ ap (λ (n : ℕ). take n (b ∷ bs) ++ front 0 (drop n (b ∷ bs))) (sym step)

by_other : (b : Bool) (x : ℕ) (rest : List ℕ) → b ≡ false → cond b (x ∷ rest) [] ≡ []
by_other true x rest is = cc
by_other false x rest is = refl

-- a byte that does not
pub ends_at : (i : ℕ) (bs : List ℕ) (x : ℕ) → i < length bs → x ≡ get_or bs i x → is_continuation x ≡ false → front 0 (drop i bs) ≡ []
ends_at i [] x within is other = absurd (omega arith)
ends_at zero (b ∷ bs) x within is other = by_other (is_continuation b) b (front 0 bs) (ap is_continuation (sym is) ∙ other)
ends_at (suc i) (b ∷ bs) x within is other = ends_at i bs x (omega arith) is other
