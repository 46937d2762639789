use Rattle.stm_retry.proofs.SharingLemmas.{bases_with, quiet_with}
use Rattle.stm_retry.proofs.world.World.step_quietly.Goals as goal

pub step_quietly-requires : goal.step_quietly-requires
step_quietly-requires c =
    bases_with c.self.inside.opened c.self.inside.kept c.args.self.now c.args.runners.now.items c.self.view_is c.self.invariant c.requires

pub returns : goal.returns
returns c =
    quiet_with c.args.id c.step_quietly.result c.self.inside.opened c.self.inside.kept c.args.self.now c.args.runners.now.items c.step_quietly.new.runners.items
    c.self.view_is c.self.invariant c.requires c.step_quietly.ensures
