use Rattle.std.proofs.Common.{◌≡◌, ◌++◌, drop}
use Rattle.stm_formats.specs.FormatHtml.{rows_html}
use Rattle.stm_formats.proofs.format_html.push_rows.Given as goal

-- what was written so far, and the rows that are left
abbrev pub invariant-loop-row : goal.invariant-loop-row
invariant-loop-row l =
    l.out.items ++ rows_html l.keys.history l.counters (drop l.row-index l.rows) ≡ l.fn.out.items ++ rows_html l.keys.history l.counters l.rows
