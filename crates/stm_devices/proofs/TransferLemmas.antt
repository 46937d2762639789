-- Lemmas on whole transfers.
use Rattle.std.proofs.Common.{◌≡◌, ℕ, ◌≤◌, List, ◌++◌, length, take, drop, Option, Some, None, IfSome, sym, ap, subst, ◌∙◌}
use Rattle.std.proofs.Common.{append-nil, append_assoc, arith, take_all, take_at, length-append}
use Rattle.std.proofs.KnownBytes.{Consumes-trans, Appends-trans}
use Rattle.std.proofs.lemmas.List.{take-append-drop}
use Rattle.std.specs.Io.KnownBytes.{Appends, Consumes, IsAtEnd}
use Rattle.std.proofs.lemmas.Bool.Decides.{nat_tests}

-- what was taken until the end is all that there was
Consumes-end : (old new : Option (List ℕ)) (bytes : List ℕ) (most : ℕ) → Consumes old new bytes → IsAtEnd new → length bytes ≤ most →
    IfSome old (λ all. bytes ≡ take most all)
Consumes-end None new bytes most taken end long = tt
Consumes-end (Some all) None bytes most taken end long = absurd taken
Consumes-end (Some all) (Some rest) bytes most taken end long =
    let whole : all ≡ bytes = taken ∙ ap (λ (r : List ℕ). bytes ++ r) end ∙ append-nil bytes in
    sym (ap (take most) whole ∙ take_all most bytes long)

-- a last piece without a byte, at the end
pub reads_end : (old mid new : Option (List ℕ)) (before after piece : List ℕ) (n most : ℕ) →
    Consumes old mid before → after ≡ before ++ piece → length piece ≡ n → n ≡ 0
    → Consumes mid new piece → IsAtEnd new → length before ≤ most → IfSome old (λ all. after ≡ take most all)
reads_end old mid new before after piece n most taken joined long none more end room = grind (arith, nat_tests, Consumes-end, Consumes-trans, length-append)

-- what was taken, as much as was wanted, is a prefix of what there was
pub reads_most : (old new : Option (List ℕ)) (bytes : List ℕ) (most : ℕ) →
    Consumes old new bytes → most ≡ length bytes → IfSome old (λ all. bytes ≡ take most all)
reads_most None new bytes most taken long = tt
reads_most (Some all) None bytes most taken long = absurd taken
reads_most (Some all) (Some rest) bytes most taken long = sym (ap (take most) taken ∙ take_at bytes rest most (sym long))

-- a prefix was written, and so was the next piece
pub writes_on : (old mid new : Option (List ℕ)) (bytes front rest : List ℕ) (n : ℕ) →
    bytes ≡ front ++ rest → Appends old mid front → Appends mid new (take n rest)
    → (more : List ℕ) × (bytes ≡ more ++ drop n rest) × Appends old new more
writes_on old mid new bytes front rest n whole written next = (
  front ++ take n rest,
  whole ∙ ap (λ (r : List ℕ). front ++ r) (sym (take-append-drop n rest)) ∙ sym (append_assoc front (take n rest) (drop n rest)),
  Appends-trans old mid new front (take n rest) written next,
)
