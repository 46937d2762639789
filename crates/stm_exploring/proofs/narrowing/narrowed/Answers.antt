use Rattle.std.proofs.Common.{◌∙◌}
use Rattle.stm_exploring.proofs.NarrowLemmas.{all_stand}
use Rattle.stm_exploring.proofs.narrowing.narrowed.Goals as goal

pub returns : goal.returns
returns c =
    all_stand c.args.rules.now c.as_slice.result.now c.args.world.now c.args.others.now c.narrowed_to.result (c.as_slice.ensures.value ∙ c.in_ok-asked.ensures)
    c.narrowed_to.ensures
