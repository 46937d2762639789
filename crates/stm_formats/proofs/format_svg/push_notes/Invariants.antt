use Rattle.std.proofs.Common.{◌≡◌, ◌+◌, ◌++◌, drop}
use Rattle.stm_formats.specs.FormatSvg.{notes_svg}
use Rattle.stm_formats.proofs.format_svg.push_notes.Given as goal

-- what was written so far, and the notes that are left
abbrev pub invariant-loop-before : goal.invariant-loop-before
invariant-loop-before l = l.out.items ++ notes_svg (l.before + 1) (drop l.before l.notes) ≡ l.fn.out.items ++ notes_svg 1 l.notes
