use Rattle.std.proofs.Common.{◌≡◌, ◌++◌, drop}
use Rattle.stm_formats.specs.FormatEnds.{end_notes}
use Rattle.stm_formats.proofs.format_ends.push_ends.Given as goal

-- the notes so far, and those of the replies that are left
abbrev pub invariant-loop-before : goal.invariant-loop-before
invariant-loop-before l =
    l.notes.items ++ end_notes l.cuts l.labels l.keys.history l.replies l.before (drop l.before l.replies)
    ≡ l.fn.notes.items ++ end_notes l.cuts l.labels l.keys.history l.replies 0 l.replies
