-- How a text is shown, byte by byte.
use Rattle.std.proofs.Common.{◌≡◌, ℕ, zero, suc, pred, ◌+◌, ◌-◌, ◌<◌, Bool, List, ◌∷◌, ◌++◌, length, drop, get_or, refl, sym, ap, ◌∙◌, append_assoc, arith}
use Rattle.std.proofs.Math.Seq.{drop-cons}
use Rattle.stm_formats.specs.FormatShown.{hidden_from, byte_text, shown_after}

pred_is : (n : ℕ) → pred n ≡ n - 1
pred_is zero = refl
pred_is (suc n) = let less : suc n - 1 ≡ n = omega arith in sym less

-- one more byte is shown
pub next_shown : (exact : Bool) (left h i d : ℕ) (out new total bs : List ℕ) → i < length bs → h ≡ hidden_from left (drop i bs)
    → new ≡ out ++ byte_text exact h (get_or bs i d) → out ++ shown_after exact left (drop i bs) ≡ total
    → new ++ shown_after exact (h - 1) (drop (i + 1) bs) ≡ total
next_shown exact left h i d out new total bs within is added so_far =
    let b : ℕ = get_or bs i d in
    let behind : List ℕ = drop (i + 1) bs in
    let step : i + 1 ≡ suc i = omega arith in
    let here : drop i bs ≡ b ∷ behind = drop-cons bs i d within ∙ ap (λ (n : ℕ). b ∷ drop n bs) (sym step) in
    let hidden : hidden_from left (b ∷ behind) ≡ h = ap (hidden_from left) (sym here) ∙ sym is in
    let opened : shown_after exact left (drop i bs) ≡ byte_text exact h b ++ shown_after exact (h - 1) behind =
    ap (shown_after exact left) here
    ∙ ap (λ (n : ℕ). byte_text exact n b ++ shown_after exact (pred n) behind) hidden
    ∙ ap (λ (n : ℕ). byte_text exact h b ++ shown_after exact n behind) (pred_is h) in
    ap (λ (s : List ℕ). s ++ shown_after exact (h - 1) behind) added
    ∙ append_assoc out (byte_text exact h b) (shown_after exact (h - 1) behind)
    ∙ ap (λ (s : List ℕ). out ++ s) (sym opened)
    ∙ so_far
