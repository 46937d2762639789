use Rattle.std.proofs.Common.{Option, subst}
use Rattle.std.specs.Prelude.{IfSome}
use Rattle.stm_world.specs.World.{World}
use Rattle.stm_exploring.specs.Narrowing.{IsNew}
use Rattle.stm_exploring.proofs.SmallWorlds.{is_small}
use Rattle.stm_exploring.proofs.narrowing.small_world.Goals as goal

pub returns-in-Some : goal.returns-in-Some
returns-in-Some c =
    is_small c.args.touched.now c.args.setup.now c.args.store.now.standing c.in-Some.small c.with_runners.result
    (subst (λ (o : Option World). IfSome o IsNew) c.in-Some.is c.in_ok-small_store.ensures) c.with_runners.ensures.world c.with_runners.ensures.shows
