use Rattle.std.proofs.Common.{◌∙◌, sym, ap, subst}
use Rattle.stm_history.specs.Opening.{Opening}
use Rattle.stm_world.specs.World.{World}
use Rattle.stm_retry.specs.Kept.{whole_world, IsKeptBy}
use Rattle.stm_retry.proofs.world.World.copy.Goals as goal

pub invariant_of-result : goal.invariant_of-result
invariant_of-result c =
    subst (λ (o : Opening). IsKeptBy c.in_ok-kept.kept.standing (whole_world o c.in_ok-kept.kept)) (sym c.in_ok-opened.ensures)
    (subst (λ (m : World). IsKeptBy m.standing (whole_world c.self.inside.opened m)) (sym c.in_ok-kept.ensures) c.self.invariant)

pub returns : goal.returns
returns c =
    ap (λ (o : Opening). whole_world o c.in_ok-kept.kept) c.in_ok-opened.ensures ∙ ap (whole_world c.self.inside.opened) c.in_ok-kept.ensures ∙ c.self.view_is
