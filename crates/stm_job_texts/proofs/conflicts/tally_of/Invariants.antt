use Rattle.std.proofs.Common.{take}
use Rattle.stm_job_texts.specs.Tallies.{Counts}
use Rattle.stm_job_texts.proofs.conflicts.tally_of.Given as goal

-- those so far were counted
abbrev pub invariant-loop-before : goal.invariant-loop-before
invariant-loop-before l = Counts (take l.before l.texts) l.tally.entries
