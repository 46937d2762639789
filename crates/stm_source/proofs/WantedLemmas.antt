-- What arguments have to be, one after the other.
use Rattle.std.proofs.Common.{◌≡◌, ℕ, suc, ◌-◌, ◌+◌, ◌<◌, ◌≤◌, List, [], ◌∷◌, ◌++◌, refl, sym, ap, ◌∙◌, arith}
use Rattle.std.proofs.lemmas.List.{append-nil, append_assoc}
use Rattle.stm_tokens.specs.declared.token.Token.{Token}
use Rattle.stm_terms.specs.declared.constants.Constants.{Constants}
use Rattle.stm_terms.specs.declared.kinds.Kind.{Kind}
use Rattle.stm_source.specs.Wanted.{wanted_at, wanted_from}

pub wanted_more : (front : List Kind) (constants : Constants) (names : List (List ℕ)) (body : List Token) (n i : ℕ) (kind : Kind) → i < n
    → kind ≡ wanted_at constants names body i (n - 1 - i)
    → front ++ wanted_from constants names body i (n - i) ≡ (front ++ kind ∷ []) ++ wanted_from constants names body (i + 1) (n - (i + 1))
unfolding wanted_from
wanted_more front constants names body n i kind less is =
    let k : n - i ≡ suc (n - (i + 1)) = omega arith in
    let left : n - 1 - i ≡ n - (i + 1) = omega arith in
    let one : wanted_from constants names body i (n - i) ≡ wanted_at constants names body i (n - (i + 1)) ∷ wanted_from constants names body (suc i) (n - (i + 1)) = rw k refl in
    let same : kind ≡ wanted_at constants names body i (n - (i + 1)) = is ∙ ap (wanted_at constants names body i) left in
    let next : suc i ≡ i + 1 = omega arith in
    ap (λ ks. front ++ ks) (one ∙ rw (sym same, next) refl) ∙ sym (append_assoc front (kind ∷ []) (wanted_from constants names body (i + 1) (n - (i + 1))))

pub wanted_out : (front : List Kind) (constants : Constants) (names : List (List ℕ)) (body : List Token) (n i : ℕ) → n ≤ i → front ++ wanted_from constants names body i (n - i) ≡ front
unfolding wanted_from
wanted_out front constants names body n i over =
    let k : n - i ≡ 0 = omega arith in
    ap (λ (m : ℕ). front ++ wanted_from constants names body i m) k ∙ append-nil front
