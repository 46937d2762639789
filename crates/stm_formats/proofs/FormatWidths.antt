-- A column has its least width.
use Rattle.std.proofs.Common.{◌≡◌, ℕ, ◌≤◌, max, List, [], ◌∷◌, arith}
use Rattle.std.proofs.Math.Nat.{le-max_right}
use Rattle.stm_formats.specs.declared.format_row.Row.{Row}
use Rattle.stm_formats.specs.FormatColumns.{width_in, width}

pub least : (limit at_least c : ℕ) (rows : List Row) → at_least ≤ width limit at_least c rows
least limit at_least c [] = omega arith
least limit at_least c (row ∷ rows) = omega (arith, least limit at_least c rows, le-max_right (width_in limit c row) (width limit at_least c rows))

pub from_least : (limit at_least c : ℕ) (rows : List Row) → max at_least (width limit at_least c rows) ≡ width limit at_least c rows
from_least limit at_least c rows = grind (arith, least limit at_least c rows)
