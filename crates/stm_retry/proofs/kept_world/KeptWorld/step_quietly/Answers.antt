use Rattle.std.proofs.Common.{sym, subst}
use Rattle.stm_world.specs.World.{World}
use Rattle.stm_retry.specs.Kept.{BasesAreReached}
use Rattle.stm_retry.specs.WorldOf.{with_places}
use Rattle.stm_retry.proofs.SharingLemmas.{IsQuiet}
use Rattle.stm_retry.proofs.kept_world.KeptWorld.step_quietly.Goals as goal

pub step_among-requires : goal.step_among-requires
step_among-requires c = subst (λ (w : World). BasesAreReached (with_places c.args.runners.now.items w)) (sym c.self.view_is) c.requires

pub returns : goal.returns
returns c =
    subst (λ (w : World). IsQuiet c.args.id w c.args.runners.now.items c.step_among.new.runners.items c.step_among.result) c.self.view_is c.step_among.ensures
