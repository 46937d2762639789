use Rattle.std.proofs.Common.{map, arith}
use Rattle.stm_faulted_runs.specs.Jobs.{reported_job}
use Rattle.stm_threading.specs.Threading.{faulted_jobs}
use Rattle.stm_threading.proofs.FaultLemmas.{one_end, no_end}
use Rattle.stm_threading.proofs.faults.faulted_jobs.Goals as goal

pub loop-index-preserved : goal.loop-index-preserved
loop-index-preserved c =
    one_end (faulted_jobs 0 c.args.ends.now) (map reported_job c.loop-index.jobs.items) (map reported_job c.push_faulted.new.jobs.items) c.args.ends.now
    c.loop-index.index c.index-ends-index.result c.loop-index-test.true c.index-ends-index.is c.loop-index.invariant c.in_ok-push_faulted.ensures

pub returns : goal.returns
returns c =
    no_end (faulted_jobs 0 c.args.ends.now) (map reported_job c.loop-index.jobs.items) c.args.ends.now c.loop-index.index (omega arith) c.loop-index.invariant
