use Rattle.std.proofs.Common.{arith}
use Rattle.stm_audit.proofs.AuditLemmas.{mapped_at, nothing_at}
use Rattle.stm_audit.proofs.stale.maker.Goals as goal

pub returns-then-index-made : goal.returns-then-index-made
returns-then-index-made c =
    mapped_at (λ x. x.now) c.args.made.now c.makers_before-index.result _ c.index-made-index.result (omega (arith, c.if-index-made.true)) c.index-made-index.is
    c.makers_before-index.ensures

pub returns-else-index-made : goal.returns-else-index-made
returns-else-index-made c =
    nothing_at (λ x. x.now) c.args.made.now c.makers_before-index.result _ (omega (arith, c.if-index-made.false)) c.makers_before-index.ensures
