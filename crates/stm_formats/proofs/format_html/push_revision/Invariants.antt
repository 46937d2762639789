use Rattle.std.proofs.Common.{◌≡◌, ◌++◌, drop, map}
use Rattle.stm_formats.specs.FormatPieces.{joined}
use Rattle.stm_formats.specs.FormatHtml.{change_html}
use Rattle.stm_formats.proofs.format_html.push_revision.Given as goal

-- what was written so far, and the events that are left
abbrev pub invariant-loop-event : goal.invariant-loop-event
invariant-loop-event l =
    l.out.items ++ joined (map change_html (drop l.event-index l.event-items)) ≡ l.fn.out.items ++ joined (map change_html l.event-items)
