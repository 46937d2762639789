use Rattle.std.proofs.Common.{◌≡◌, ◌++◌}
use Rattle.stm_formats.specs.FormatText.{headings}
use Rattle.stm_formats.proofs.format_text.push_headings.Given as goal

-- the titles so far were added
abbrev pub invariant-loop-before : goal.invariant-loop-before
invariant-loop-before l = l.out.items ≡ l.fn.out.items ++ headings l.labels l.places l.before
