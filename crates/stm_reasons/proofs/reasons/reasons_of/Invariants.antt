use Rattle.std.proofs.Common.{◌≡◌, ◌++◌, drop}
use Rattle.stm_reasons.specs.Counters.{counters}
use Rattle.stm_reasons.specs.Reasons.{reasons_from, reasons_of}
use Rattle.stm_reasons.proofs.reasons.reasons_of.Given as goal

-- the reasons so far, and those of the replies that are left
abbrev pub invariant-loop-before : goal.invariant-loop-before
invariant-loop-before l =
    l.reasons.items ++ reasons_from l.keys.history (counters l.opened l.replies) l.replies l.before (drop l.before l.replies)
    ≡ reasons_of l.keys.history l.opened l.replies
