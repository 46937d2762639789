use Rattle.stm_threading.proofs.CountLemmas.{none_made, all_made, one_made}
use Rattle.stm_threading.proofs.running.count_runs.Goals as goal

pub loop-made-init : goal.loop-made-init
loop-made-init g c = none_made _ _ _ _ c.new-tally.ensures.empty

-- as many were counted as were made
pub count_run-requires-clause-made : goal.count_run-requires-clause-made
count_run-requires-clause-made g c κs within = all_made _ _ _ _ _ c.loop-made.invariant

pub loop-made-preserved : goal.loop-made-preserved
loop-made-preserved g c = one_made _ _ _ _ _ _ c.loop-made.invariant c.in_ok-count_run.ensures.counted
