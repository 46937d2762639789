use Rattle.std.proofs.Common.{◌≡◌, ◌++◌, drop}
use Rattle.stm_job.specs.Ends.{all_given_up_over}
use Rattle.stm_job_texts.proofs.conflicts.push_all_given_up.Given as goal

-- the keys so far, and those that are left
abbrev pub invariant-loop-end : goal.invariant-loop-end
invariant-loop-end l = l.all.items ++ all_given_up_over (drop l.end-index l.ends) ≡ l.fn.all.items ++ all_given_up_over l.ends
