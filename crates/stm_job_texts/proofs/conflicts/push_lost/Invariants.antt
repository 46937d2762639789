use Rattle.std.proofs.Common.{◌≡◌, ◌++◌, drop}
use Rattle.stm_job.specs.Ends.{all_lost}
use Rattle.stm_job_texts.proofs.conflicts.push_lost.Given as goal

-- the keys so far, and those that are left
abbrev pub invariant-loop-keys : goal.invariant-loop-keys
invariant-loop-keys l = l.all.items ++ all_lost (drop l.keys-index l.lost) ≡ l.fn.all.items ++ all_lost l.lost
