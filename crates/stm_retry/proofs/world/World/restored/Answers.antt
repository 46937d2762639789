use Rattle.std.proofs.Common.{◌≡◌, true, Option, IfSome, is_some, sym, ap, subst, ◌∙◌}
use Rattle.stm_history.specs.Opening.{Opening}
use Rattle.stm_txn.specs.declared.restored.Checkpoint.{Checkpoint}
use Rattle.stm_txn.specs.Restored.{can_restore}
use Rattle.stm_world.specs.World.{World}
use Rattle.stm_world.specs.Restored.{restored_world}
use Rattle.stm_retry.specs.Kept.{whole_world, IsKeptBy}
use Rattle.stm_retry.proofs.KeptWorlds.{restored_leaves, restored_whole}
use Rattle.stm_retry.proofs.world.World.restored.Goals as goal

pub invariant_of-result : goal.invariant_of-result
invariant_of-result c =
    let k : Checkpoint = c.args.checkpoint in
    let m : World = c.in-Some.kept in
    let can : can_restore k ≡ true = sym c.in_ok-kept.ensures.some ∙ ap (λ (o : Option World). is_some o) c.in-Some.is in
    let is : m ≡ restored_world k = subst (λ (o : Option World). IfSome o (λ p. p ≡ restored_world k)) c.in-Some.is c.in_ok-kept.ensures.world in
    subst (λ (o : Opening). IsKeptBy m.standing (whole_world o m)) (sym c.in_ok-opened.ensures) (restored_leaves k m can is)

pub returns-clause-world : goal.returns-clause-world
returns-clause-world c =
    let k : Checkpoint = c.args.checkpoint in
    let m : World = c.in-Some.kept in
    let can : can_restore k ≡ true = sym c.in_ok-kept.ensures.some ∙ ap (λ (o : Option World). is_some o) c.in-Some.is in
    let is : m ≡ restored_world k = subst (λ (o : Option World). IfSome o (λ p. p ≡ restored_world k)) c.in-Some.is c.in_ok-kept.ensures.world in
    ap (λ (o : Opening). whole_world o m) c.in_ok-opened.ensures ∙ ap (whole_world (restored_world k).standing.history.opening) is ∙ restored_whole k can
