use Rattle.std.proofs.Common.{◌≡◌, ◌++◌, drop}
use Rattle.stm_formats.specs.FormatSvg.{rows_svg}
use Rattle.stm_formats.proofs.format_svg.push_rows.Given as goal

-- what was written so far, and the rows that are left
abbrev pub invariant-loop-row : goal.invariant-loop-row
invariant-loop-row l = l.out.items ++ rows_svg l.places (drop l.row-index l.rows) ≡ l.fn.out.items ++ rows_svg l.places l.rows
