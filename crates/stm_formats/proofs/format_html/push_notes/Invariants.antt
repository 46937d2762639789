use Rattle.std.proofs.Common.{◌≡◌, ◌++◌, drop}
use Rattle.stm_formats.specs.FormatHtml.{notes_html}
use Rattle.stm_formats.proofs.format_html.push_notes.Given as goal

-- what was written so far, and the notes that are left
abbrev pub invariant-loop-note : goal.invariant-loop-note
invariant-loop-note l = l.out.items ++ notes_html (drop l.note-index l.notes) ≡ l.fn.out.items ++ notes_html l.notes
