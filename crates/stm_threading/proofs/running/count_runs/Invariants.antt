use Rattle.stm_threading.specs.Running.{AreCounted}
use Rattle.stm_threading.proofs.running.count_runs.Given as goal

-- the runs so far are counted
abbrev pub invariant-loop-made : goal.invariant-loop-made
invariant-loop-made g l = AreCounted l.made l.opening l.calls l.jobs l.tally.entries
