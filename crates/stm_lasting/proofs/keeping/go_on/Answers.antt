use Rattle.stm_world.specs.World.{world_after}
use Rattle.stm_records.proofs.Moments.{started}
use Rattle.stm_lasting.specs.Kept.{IsWorldBeforeOrAfter}
use Rattle.stm_lasting.proofs.Leading.{still}
use Rattle.stm_lasting.proofs.keeping.go_on.Goals as goal

pub returns-in_default-clause-any_moment : goal.returns-in_default-clause-any_moment
returns-in_default-clause-any_moment g c =
    let disk = c.args.records.now.disk in
    let file = g.D.Disk.seen disk in
    let text = c.args.text.now in
    let after = world_after c.args.scenario.now.events c.args.world.now in
    started g.D.Disk.moment g.D.Disk.left_since disk (IsWorldBeforeOrAfter file text after)
    (λ f left. still file text after f (c.requires.settled.durable f (g.met.D.Disk.only_now disk f left)))
