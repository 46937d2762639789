use Rattle.stm_explore.proofs.LayerOutcomes.{collected_at, far_at}
use Rattle.stm_explore.proofs.Witnessing.{witnessed_at}
use Rattle.stm_explore.proofs.finding.collect_all.Goals as goal

pub returns-clause-collected : goal.returns-clause-collected
returns-clause-collected g c =
    collected_at c.args.others.now c.in_ok-world.world c.args.world.now _ c.args.ends.now _ _ c.in_ok-world.ensures c.in_ok-ends.ensures
    c.in_ok-stopped.ensures.collected

pub returns-clause-far : goal.returns-clause-far
returns-clause-far g c = far_at c.args.others.now c.in_ok-world.world c.args.world.now _ _ c.in_ok-world.ensures c.in_ok-stopped.ensures.far

pub returns-clause-witnessed : goal.returns-clause-witnessed
returns-clause-witnessed g c =
    witnessed_at c.args.others.now c.in_ok-world.world c.args.world.now _ c.args.ends.now _ _ c.in_ok-world.ensures c.in_ok-ends.ensures
    c.in_ok-stopped.ensures.witnessed
