use Rattle.std.proofs.Common.{◌≡◌, ℕ, ◌+◌, ◌<◌, List, ◌∷◌, length, take, sym, subst, arith, length-drop}
use Rattle.std.proofs.lemmas.List.{take_rest}
use Rattle.stm_report_lines.specs.Bytes.{parts_of}
use Rattle.stm_report_lines.proofs.CutLemmas.{no_feed, first_feed}
use Rattle.stm_report_lines.proofs.reading.first_part.Goals as goal

pub returns-in_err-end : goal.returns-in_err-end
returns-in_err-end c = rw c.from_residual.ensures (no_feed c.args.bytes.now c.in_err-end.ensures)

pub returns : goal.returns
returns c =
    let bytes : List ℕ = c.args.bytes.now in
    let found = c.in_ok-end.ensures in
    subst (λ (after : List ℕ). (parts_of bytes ≡ take c.in_ok-end.end bytes ∷ parts_of after) × (length after < length bytes))
    (sym (take_rest bytes (c.in_ok-end.end + 1)))
    (first_feed bytes c.in_ok-end.end found.0 found.1, omega (arith, length-drop (c.in_ok-end.end + 1) bytes, found.0.high))
