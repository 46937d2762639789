use Rattle.std.proofs.Common.{◌≡◌, ◌++◌, drop}
use Rattle.stm_formats.specs.FormatReasons.{reason_notes}
use Rattle.stm_formats.proofs.format_reasons.push_reasons.Given as goal

-- the notes so far, and those of the reasons that are left
abbrev pub invariant-loop-reason : goal.invariant-loop-reason
invariant-loop-reason l = l.notes.items ++ reason_notes l.labels (drop l.reason-index l.reasons) ≡ l.fn.notes.items ++ reason_notes l.labels l.reasons
