use Rattle.std.proofs.Common.{◌≡◌, ◌+◌, ◌++◌, drop}
use Rattle.stm_formats.specs.FormatRows.{rows_of}
use Rattle.stm_formats.proofs.format_rows.rows_of.Given as goal

-- the rows so far, and those of the events that are left
abbrev pub invariant-loop-before : goal.invariant-loop-before
invariant-loop-before l =
    l.rows.items ++ rows_of l.cuts l.labels l.keys.history l.counter (l.before + 1) (drop l.before l.events) (drop l.before l.replies)
    ≡ rows_of l.cuts l.labels l.keys.history l.opened 1 l.events l.replies
