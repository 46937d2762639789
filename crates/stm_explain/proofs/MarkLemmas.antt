-- Lines and columns, counted on.
use Rattle.std.proofs.Common.{◌≡◌, ◌∙◌, ℕ, ◌+◌, ◌-◌, ◌≤◌, List, [], ◌∷◌, ◌++◌, length, take, drop, Bool, true, false, if◌then◌else◌, nat_eq, refl}
use Rattle.std.proofs.Common.{sym, ap, subst, arith}
use Rattle.std.proofs.Math.Seq.{take-add}
use Rattle.std.proofs.lemmas.List.{length-take-le}
use Rattle.stm_explain.specs.Positions.{next, place_from, place_after}
use Rattle.stm_explain.specs.declared.marked.Mark.{Mark}
use Rattle.stm_explain.specs.Marks.{IsMark}

pub place-append : (at : ℕ × ℕ) (front back : List ℕ) → place_from at (front ++ back) ≡ place_from (place_from at front) back
place-append at [] back = refl
place-append at (b ∷ front) back = place-append (next at b) front back

abbrev IsSmall : ℕ × ℕ → ℕ → Type 0
IsSmall at most = (at.0 + at.1 ≤ most) × (1 ≤ at.1)

abbrev after : Bool → ℕ × ℕ → ℕ × ℕ
after feeds at = if feeds then (at.0 + 1, 1) else (at.0, at.1 + 1)

after-small : (feeds : Bool) (at : ℕ × ℕ) → 1 ≤ at.1 → IsSmall (after feeds at) (at.0 + at.1 + 1)
after-small true at h = (omega arith, omega arith)
after-small false at h = (omega arith, omega arith)

place-small : (at : ℕ × ℕ) (bytes : List ℕ) → 1 ≤ at.1 → IsSmall (place_from at bytes) (at.0 + at.1 + length bytes)
place-small at [] h = (omega arith, h)
place-small at (b ∷ bytes) h =
    let first = after-small (nat_eq b 10) at h in
    let rest = place-small (next at b) bytes first.1 in
    (omega (arith, first.0, rest.0), rest.1)

-- line and column of a mark are no more than there are bytes before it, and 2
pub mark-small : (text : List ℕ) (m : Mark) → IsMark text m → (m.at.line + m.at.column ≤ m.offset + 2) × (1 ≤ m.at.column)
mark-small text m is =
    let small = place-small (1, 1) (take m.offset text) (omega arith) in
    subst (λ (p : ℕ × ℕ). IsSmall p (m.offset + 2)) (sym is.1) (omega (arith, small.0, length-take-le m.offset text is.0), small.1)

-- the mark of an offset after another one
pub mark-on : (text : List ℕ) (m next : Mark) → IsMark text m → m.offset ≤ next.offset → next.offset ≤ length text →
    (next.at.line, next.at.column) ≡ place_from (m.at.line, m.at.column) (take (next.offset - m.offset) (drop m.offset text)) → IsMark text next
mark-on text m next is behind within on =
    let more : ℕ = next.offset - m.offset in
    let so_far : List ℕ = take m.offset text in
    let rest : List ℕ = take more (drop m.offset text) in
    let all : take next.offset text ≡ so_far ++ rest =
    ap (λ (n : ℕ). take n text) (let e : next.offset ≡ m.offset + more = omega (arith, behind) in e) ∙ take-add m.offset more text in
    (within, on ∙ ap (λ (p : ℕ × ℕ). place_from p rest) is.1 ∙ sym (place-append (1, 1) so_far rest) ∙ ap place_after (sym all))
