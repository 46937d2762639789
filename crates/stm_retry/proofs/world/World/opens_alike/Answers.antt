use Rattle.std.proofs.Common.{◌∙◌, sym, ap}
use Rattle.stm_world.specs.World.{World}
use Rattle.stm_retry.proofs.KeptWorlds.{opens_with}
use Rattle.stm_retry.proofs.world.World.opens_alike.Goals as goal

pub returns : goal.returns
returns c = λ same.
    sym (sym (opens_with c.self.inside.opened c.self.inside.kept) ∙ ap (λ (w : World). w.standing.history.opening) c.self.view_is)
    ∙ c.is_same.ensures same
    ∙ sym (opens_with c.other.inside.opened c.other.inside.kept) ∙ ap (λ (w : World). w.standing.history.opening) c.other.view_is
