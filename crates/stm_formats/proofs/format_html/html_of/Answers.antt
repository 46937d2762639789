use Rattle.std.proofs.Common.{◌+◌, codes}
use Rattle.stm_formats.specs.FormatColumns.{last_column}
use Rattle.stm_formats.specs.FormatPage.{page_head, page_foot}
use Rattle.stm_formats.specs.FormatHtml.{titles_html, rows_html, notes_html, reasons_html, html_of}
use Rattle.stm_formats.proofs.FormatPages.{parts}
use Rattle.stm_formats.proofs.format_html.html_of.Goals as goal

pub returns : goal.returns
unfolding html_of
returns c =
    let rows = c.args.rows.now in
    rw (
      c.in_ok-extend_from_slice-4.ensures.items,
      c.as_bytes-2.ensures.value,
      c.page_foot.ensures,
      c.in_ok-push_reasons.ensures,
      c.in_ok-push_notes.ensures,
      c.in_ok-extend_from_slice-3.ensures.items,
      c.in_ok-push_rows.ensures,
      c.in_ok-extend_from_slice-2.ensures.items,
      c.in_ok-push_titles.ensures,
      c.last_column.ensures.number,
      c.in_ok-extend_from_slice.ensures.items,
      c.as_bytes.ensures.value,
      c.page_head.ensures,
      c.new-out.ensures.items,
    ) (parts page_head (titles_html c.args.labels.now (last_column rows + 1)) (codes "</tr></thead>\n<tbody>\n")
    (rows_html c.args.keys.now.history c.args.counters.now rows) (codes "</tbody></table></main>\n<ul>\n") (notes_html c.args.notes.now)
    (reasons_html c.args.labels.now c.args.reasons.now) page_foot)
