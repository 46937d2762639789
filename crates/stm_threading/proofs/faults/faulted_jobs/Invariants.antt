use Rattle.std.proofs.Common.{◌≡◌, ◌++◌, drop, map}
use Rattle.stm_faulted_runs.specs.Jobs.{reported_job}
use Rattle.stm_threading.specs.Threading.{faulted_jobs}
use Rattle.stm_threading.proofs.faults.faulted_jobs.Given as goal

-- the jobs so far, and after them those that are left
abbrev pub invariant-loop-index : goal.invariant-loop-index
invariant-loop-index l = map reported_job l.jobs.items ++ faulted_jobs l.index (drop l.index l.ends) ≡ faulted_jobs 0 l.ends
