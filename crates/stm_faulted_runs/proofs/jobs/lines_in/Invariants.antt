use Rattle.std.proofs.Common.{[], drop}
use Rattle.std.specs.Prelude.{string_bytes}
use Rattle.stm_faulted_runs.specs.Origins.{origin_in}
use Rattle.stm_faulted_runs.proofs.LineLemmas.{HasSaid, all_reported}
use Rattle.stm_faulted_runs.proofs.jobs.lines_in.Given as goal

-- with lines for the jobs that are left after what was said so far, there are lines for all
abbrev pub invariant-loop-job : goal.invariant-loop-job
invariant-loop-job l = HasSaid (origin_in l.explained) (all_reported l.jobs) [] (string_bytes l.out) (all_reported (drop l.job-index l.jobs))
