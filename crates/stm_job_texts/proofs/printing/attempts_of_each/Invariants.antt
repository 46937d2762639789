use Rattle.std.proofs.Common.{◌≡◌, map, take}
use Rattle.stm_job.specs.Ends.{attempts_of}
use Rattle.stm_job_texts.proofs.printing.attempts_of_each.Given as goal

-- those of the jobs so far
abbrev pub invariant-loop-keys : goal.invariant-loop-keys
invariant-loop-keys l = l.attempts.items ≡ map attempts_of (take l.keys-index l.lost)
