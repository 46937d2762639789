use Rattle.std.proofs.Common.{◌≡◌, ◌++◌}
use Rattle.stm_formats.specs.FormatSvg.{columns_svg}
use Rattle.stm_formats.proofs.format_svg.push_columns.Given as goal

-- the columns so far were added
abbrev pub invariant-loop-column : goal.invariant-loop-column
invariant-loop-column l = l.out.items ≡ l.fn.out.items ++ columns_svg l.labels l.places l.rows l.column
