use Rattle.std.proofs.Common.{◌∙◌, ap}
use Rattle.stm_world.specs.World.{World}
use Rattle.stm_retry.proofs.AheadLemmas.{next_is_at_base}
use Rattle.stm_retry.proofs.shared_world.SharedWorld.fetches_at_base.Goals as goal

pub returns : goal.returns
returns c = λ is.
    next_is_at_base c.args.runner c.args.self.now c.as_slice.result.now c.store.result.now.standing c.floor-floor.result c.know_sound.ensures c.store.ensures.standing
    c.floor-floor.ensures.floor c.if-floor-ne0.false (c.as_slice.ensures.value ∙ ap (λ (w : World). w.runners) c.self.view_is) (c.fetches_at_base.ensures is)
