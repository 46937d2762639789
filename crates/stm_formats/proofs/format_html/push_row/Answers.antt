use Rattle.std.proofs.Common.{ℕ, ◌-◌, get_or, codes}
use Rattle.stm_formats.specs.FormatColumns.{column}
use Rattle.stm_formats.specs.FormatHtml.{number_html, empty_html, words_html, revisions_html}
use Rattle.stm_formats.proofs.FormatPages.{row_parts}
use Rattle.stm_formats.proofs.format_html.push_row.Goals as goal

pub returns : goal.returns
returns c =
    let row = c.args.row.now in
    let before : ℕ = get_or c.args.counters.now (row.number - 1) 0 in
    rw (
      c.in_ok-extend_from_slice.ensures.items,
      c.in_ok-push_revisions.ensures,
      c.in_ok-push_words.ensures,
      c.in_ok-push_empty.ensures,
      c.in_ok-push_number.ensures,
      c.column.ensures.number,
      c.saturating_sub-2.ensures,
      c.counter_at-after.ensures,
      c.counter_at-before.ensures,
      c.saturating_sub.ensures,
    ) (row_parts c.args.out.now.items (number_html row.number) (empty_html (column row.lane)) (words_html row)
    (revisions_html c.args.keys.now.history before (get_or c.args.counters.now row.number 0 - before)) (codes "</td></tr>\n"))
