-- Reading tokens one after the other, as a loop does.
use Rattle.std.proofs.Common.{◌≡◌, ℕ, suc, ◌-◌, ◌+◌, ◌<◌, ◌≤◌, List, ◌++◌, drop, Some, None, refl, sym, ap, ◌∙◌, arith}
use Rattle.std.proofs.lemmas.List.{append-nil, append_assoc}
use Rattle.stm_tokens.specs.declared.token.Token.{Token}
use Rattle.stm_tokens.specs.Tokens.{next_at, added, advanced, tokens_from}
use Rattle.std.proofs.lemmas.Bool.Decides.{nat_tests}

-- one step more
pub goes_on : (front : List Token) (n i at : ℕ) (bytes : List ℕ) (len : ℕ) (total : List Token) → i < n → Some len ≡ advanced (next_at at bytes)
    → front ++ tokens_from (n - i) at bytes ≡ total
    → (front ++ added (next_at at bytes)) ++ tokens_from (n - (i + 1)) (at + len) (drop len bytes) ≡ total
unfolding tokens_from
goes_on front n i at bytes len total less is so_far =
    let k : n - i ≡ suc (n - (i + 1)) = omega arith in
    let one : tokens_from (n - i) at bytes ≡ added (next_at at bytes) ++ tokens_from (n - (i + 1)) (at + len) (drop len bytes) = rw (k, sym is) refl in
    append_assoc front (added (next_at at bytes)) (tokens_from (n - (i + 1)) (at + len) (drop len bytes))
    ∙ ap (λ (ts : List Token). front ++ ts) (sym one) ∙ so_far

-- the last step
pub ends : (front : List Token) (n i at : ℕ) (bytes : List ℕ) (total : List Token) → i < n → None ≡ advanced (next_at at bytes)
    → front ++ tokens_from (n - i) at bytes ≡ total → front ++ added (next_at at bytes) ≡ total
unfolding tokens_from
ends front n i at bytes total less is so_far = grind arith

-- no step is left
pub runs_out : (front : List Token) (n i at : ℕ) (bytes : List ℕ) (total : List Token) → n ≤ i → front ++ tokens_from (n - i) at bytes ≡ total → front ≡ total
unfolding tokens_from
runs_out front n i at bytes total over so_far = grind (arith, nat_tests, append-nil)
