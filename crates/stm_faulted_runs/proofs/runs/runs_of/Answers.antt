use Rattle.std.proofs.Common.{map, arith}
use Rattle.stm_faulted_runs.specs.Places.{started_in}
use Rattle.stm_faulted_runs.specs.Origins.{started_as}
use Rattle.stm_faulted_runs.proofs.RunLemmas.{one_event, no_event}
use Rattle.stm_faulted_runs.proofs.runs.runs_of.Goals as goal

pub loop-index-preserved : goal.loop-index-preserved
loop-index-preserved c =
    one_event (started_in c.args.first c.args.events.now) (map started_as c.loop-index.runs.items) (map started_as c.push_started.new.runs.items)
    c.args.first c.loop-index.index c.args.events.now c.index-events-index.result c.loop-index-test.true c.index-events-index.is c.loop-index.invariant
    c.in_ok-push_started.ensures

pub returns : goal.returns
returns c =
    no_event (started_in c.args.first c.args.events.now) (map started_as c.loop-index.runs.items) c.args.first c.loop-index.index c.args.events.now
    (omega arith) c.loop-index.invariant
