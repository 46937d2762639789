use Rattle.std.proofs.Common.{sym, ◌∙◌}
use Rattle.stm_exploring.proofs.SmallWorlds.{all_narrow}
use Rattle.stm_exploring.proofs.narrowing.narrowed_to.Goals as goal

pub returns : goal.returns
returns c =
    all_narrow c.in_ok-touched.touched c.args.setup.now c.args.others.now c.args.world.now c.store-store.result.now.standing c.args.programs.now c.args.rules.now
    c.small_world.result c.requires.ran c.requires.stepless c.store-store.ensures.reached c.store-store.ensures.standing c.requires.programs
    (sym c.in_ok-name_alone.ensures ∙ c.if-not-branch.false) c.small_world.ensures
