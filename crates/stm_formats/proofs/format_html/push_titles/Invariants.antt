use Rattle.std.proofs.Common.{◌≡◌, ◌++◌}
use Rattle.stm_formats.specs.FormatHtml.{titles_html}
use Rattle.stm_formats.proofs.format_html.push_titles.Given as goal

-- the titles so far were added
abbrev pub invariant-loop-column : goal.invariant-loop-column
invariant-loop-column l = l.out.items ≡ l.fn.out.items ++ titles_html l.labels l.column
