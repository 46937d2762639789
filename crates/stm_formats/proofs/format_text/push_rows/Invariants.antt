use Rattle.std.proofs.Common.{◌≡◌, ◌++◌, drop}
use Rattle.stm_formats.specs.FormatText.{rows_text}
use Rattle.stm_formats.proofs.format_text.push_rows.Given as goal

-- what was written so far, and the rows that are left
abbrev pub invariant-loop-row : goal.invariant-loop-row
invariant-loop-row l = l.out.items ++ rows_text l.width l.places (drop l.row-index l.rows) ≡ l.fn.out.items ++ rows_text l.width l.places l.rows
