use Rattle.std.proofs.Common.{◌≡◌, max, drop}
use Rattle.stm_formats.specs.FormatSvg.{rows_reach}
use Rattle.stm_formats.proofs.format_svg.rows_reach.Given as goal

-- the reach so far, or that of the rows that are left
abbrev pub invariant-loop-row : goal.invariant-loop-row
invariant-loop-row l = max l.reach (rows_reach l.places (drop l.row-index l.rows)) ≡ rows_reach l.places l.rows
