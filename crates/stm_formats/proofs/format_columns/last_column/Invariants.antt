use Rattle.std.proofs.Common.{◌≡◌, ◌≤◌, max, drop}
use Rattle.stm_formats.specs.FormatColumns.{last_column}
use Rattle.stm_formats.proofs.format_columns.last_column.Given as goal

-- the greatest of the rows so far and of those that are left
abbrev pub invariant-loop-row : goal.invariant-loop-row
invariant-loop-row l = record {
  all : max l.last (last_column (drop l.row-index l.rows)) ≡ last_column l.rows;
  within : l.last ≤ 9;
}
