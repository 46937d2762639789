use Rattle.std.proofs.Common.{◌≡◌, max, drop}
use Rattle.stm_formats.specs.FormatSvg.{notes_reach}
use Rattle.stm_formats.proofs.format_svg.notes_reach.Given as goal

-- the reach so far, or that of the notes that are left
abbrev pub invariant-loop-note : goal.invariant-loop-note
invariant-loop-note l = max l.reach (notes_reach (drop l.note-index l.notes)) ≡ notes_reach l.notes
