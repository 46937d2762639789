use Rattle.std.proofs.Common.{◌≡◌, ◌+◌, ◌++◌, drop}
use Rattle.stm_formats.specs.FormatNotes.{unfinished_notes}
use Rattle.stm_formats.proofs.format_notes.push_unfinished.Given as goal

-- the notes so far, and those of the runners that are left
abbrev pub invariant-loop-before : goal.invariant-loop-before
invariant-loop-before l =
    l.notes.items ++ unfinished_notes l.labels (l.before + 1) (drop l.before l.ended) ≡ l.fn.notes.items ++ unfinished_notes l.labels 1 l.ended
