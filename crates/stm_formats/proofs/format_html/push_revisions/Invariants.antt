use Rattle.std.proofs.Common.{◌≡◌, ◌++◌}
use Rattle.stm_formats.specs.FormatHtml.{revisions_html}
use Rattle.stm_formats.proofs.format_html.push_revisions.Given as goal

-- what the revisions so far changed was added
abbrev pub invariant-loop-more : goal.invariant-loop-more
invariant-loop-more l = l.out.items ≡ l.fn.out.items ++ revisions_html l.keys.history l.before l.more
