-- Marks in a text.
use Rattle.std.specs.Prelude.{◌≡◌, ℕ, ◌≤◌, List, length, take}
use Rattle.stm_explain.specs.declared.marked.Mark.{Mark}
use Rattle.stm_explain.specs.Positions.{place_after}

-- a mark is one of this text: an offset in it, with the line and the column there
abbrev pub IsMark : List ℕ → Mark → Type 0
IsMark text mark = (mark.offset ≤ length text) × ((mark.at.line, mark.at.column) ≡ place_after (take mark.offset text))
