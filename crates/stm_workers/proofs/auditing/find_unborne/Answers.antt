use Rattle.std.proofs.Common.{ℕ, arith}
use Rattle.stm_workers.specs.Ends.{BorneOutAt}
use Rattle.stm_workers.proofs.AuditLemmas.{not_reported, next_place, all_places}
use Rattle.stm_workers.proofs.auditing.find_unborne.Goals as goal

pub loop-place-init : goal.loop-place-init
loop-place-init c = λ p below. absurd (omega arith)

pub loop-place-preserved : goal.loop-place-preserved
loop-place-preserved c =
    next_place (λ (p : ℕ). BorneOutAt c.args.begun c.args.hall.now c.args.jobs.now c.args.ends.now p) c.loop-place.place c.loop-place.invariant
    (c.is_borne_out_at.ensures.0 c.if-not-is_borne_out_at.false)

-- this one is not borne out
pub returns-then-not-is_borne_out_at-clause-fault : goal.returns-then-not-is_borne_out_at-clause-fault
returns-then-not-is_borne_out_at-clause-fault c = (
  omega (arith, c.requires),
  not_reported _ c.is_borne_out_at.result c.is_borne_out_at.ensures c.if-not-is_borne_out_at.true,
)

-- all are
pub returns-clause-clear : goal.returns-clause-clear
returns-clause-clear c =
    all_places c.args.begun c.args.hall.now c.args.jobs.now c.args.ends.now (λ p below. c.loop-place.invariant p (omega (arith, below)))
