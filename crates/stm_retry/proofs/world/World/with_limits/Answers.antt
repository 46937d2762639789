use Rattle.std.proofs.Common.{sym, ap, subst, ◌∙◌}
use Rattle.stm_history.specs.Opening.{Opening, opening_at}
use Rattle.stm_world.specs.World.{World}
use Rattle.stm_retry.specs.Kept.{whole_world, IsKeptBy}
use Rattle.stm_retry.proofs.KeptWorlds.{opened_leaves}
use Rattle.stm_retry.proofs.world.World.with_limits.Goals as goal

pub invariant_of-result : goal.invariant_of-result
invariant_of-result c =
    let m : World = c.in_ok-kept.kept in
    subst (λ (o : Opening). IsKeptBy m.standing (whole_world o m)) (sym c.empty-opened.ensures)
    (opened_leaves (record { revision = c.args.start; limit = c.args.operations }) m c.in_ok-kept.ensures)

pub returns : goal.returns
returns c = ap (λ (o : Opening). whole_world o c.in_ok-kept.kept) c.empty-opened.ensures ∙ ap (whole_world (opening_at c.args.start)) c.in_ok-kept.ensures
