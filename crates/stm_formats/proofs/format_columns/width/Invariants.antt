use Rattle.std.proofs.Common.{◌≡◌, ◌≤◌, max, drop}
use Rattle.stm_formats.specs.FormatColumns.{width}
use Rattle.stm_formats.proofs.format_columns.width.Given as goal

-- the widest of the rows so far and of those that are left
abbrev pub invariant-loop-row : goal.invariant-loop-row
invariant-loop-row l = record {
  all : max l.widest (width l.limit l.least l.number (drop l.row-index l.rows)) ≡ width l.limit l.least l.number l.rows;
  least : l.least ≤ l.widest;
  most : l.widest ≤ 1000;
}
