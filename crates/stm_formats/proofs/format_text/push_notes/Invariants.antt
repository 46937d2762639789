use Rattle.std.proofs.Common.{◌≡◌, ◌++◌, drop}
use Rattle.stm_formats.specs.FormatText.{notes_text}
use Rattle.stm_formats.proofs.format_text.push_notes.Given as goal

-- what was written so far, and the notes that are left
abbrev pub invariant-loop-note : goal.invariant-loop-note
invariant-loop-note l = l.out.items ++ notes_text (drop l.note-index l.notes) ≡ l.fn.out.items ++ notes_text l.notes
