use Rattle.std.proofs.Common.{◌≡◌, ◌++◌, map, drop}
use Rattle.stm_formats.specs.FormatPieces.{joined, piece_text}
use Rattle.stm_formats.proofs.format_pieces.push_pieces.Given as goal

-- what was written so far, and the pieces that are left
abbrev pub invariant-loop-piece : goal.invariant-loop-piece
invariant-loop-piece l =
    l.out.items ++ joined (map piece_text (drop l.piece-index l.pieces)) ≡ l.fn.out.items ++ joined (map piece_text l.pieces)
