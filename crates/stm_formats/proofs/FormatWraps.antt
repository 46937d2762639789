-- Words in lines, byte by byte.
use Rattle.std.proofs.Common.{◌≡◌, ℕ, suc, ◌+◌, ◌<◌, List, ◌∷◌, ◌++◌, length, drop, get_or, sym, ap, ◌∙◌, append_assoc, arith}
use Rattle.std.proofs.Math.Seq.{drop-cons}
use Rattle.stm_formats.specs.FormatWrap.{turned, wrapped}

-- one more byte was added
pub next_wrapped : (room indent left i d after : ℕ) (out new total behind words : List ℕ) → i < length words → behind ≡ drop (i + 1) words
    → new ≡ out ++ (turned room indent left (get_or words i d) behind).0 → after ≡ (turned room indent left (get_or words i d) behind).1
    → out ++ wrapped room indent left (drop i words) ≡ total → new ++ wrapped room indent after (drop (i + 1) words) ≡ total
next_wrapped room indent left i d after out new total behind words within is_behind added is_after so_far =
    let b : ℕ = get_or words i d in
    let rest : List ℕ = drop (i + 1) words in
    let step : i + 1 ≡ suc i = omega arith in
    let here : drop i words ≡ b ∷ rest = drop-cons words i d within ∙ ap (λ (n : ℕ). b ∷ drop n words) (sym step) in
    let opened : wrapped room indent left (drop i words) ≡ (turned room indent left b rest).0 ++ wrapped room indent (turned room indent left b rest).1 rest =
    ap (wrapped room indent left) here in
    ap (λ (s : List ℕ). s ++ wrapped room indent after rest) added
    ∙ append_assoc out (turned room indent left b behind).0 (wrapped room indent after rest)
    ∙ ap (λ (n : ℕ). out ++ ((turned room indent left b behind).0 ++ wrapped room indent n rest)) is_after
    ∙ ap (λ (bs : List ℕ). out ++ ((turned room indent left b bs).0 ++ wrapped room indent (turned room indent left b bs).1 rest)) is_behind
    ∙ ap (λ (s : List ℕ). out ++ s) (sym opened)
    ∙ so_far
