use Rattle.std.proofs.Common.{◌≡◌, ◌≤◌, ◌*◌}
use Rattle.stm_formats.specs.FormatColumns.{begin, places}
use Rattle.stm_formats.proofs.format_columns.all_places.Given as goal

-- the places of the columns so far, and where the next one begins
abbrev pub invariant-loop-number : goal.invariant-loop-number
invariant-loop-number l = record {
  so_far : l.places.items ≡ places l.limit l.labels l.rows l.number;
  next : l.begin ≡ begin l.limit l.labels l.rows l.number;
  within : l.begin ≤ 1002 * l.number;
}
