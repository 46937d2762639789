use Rattle.std.proofs.Common.{ℕ, ◌∙◌, sym, refl, arith}
use Rattle.stm_workers.proofs.AuditLemmas.{ShownThere, shown_there, all_shown, each_shown, next_place}
use Rattle.stm_workers.proofs.auditing.are_shown_at.Goals as goal

pub loop-place-init : goal.loop-place-init
loop-place-init c = λ p below. absurd (omega arith)

pub loop-place-preserved : goal.loop-place-preserved
loop-place-preserved c =
    next_place (λ (p : ℕ). ShownThere c.args.hall.now.standing.history c.args.revision c.args.reads.now p) c.loop-place.place c.loop-place.invariant
    (shown_there c.args.hall.now.standing.history c.args.revision c.args.reads.now c.loop-place.place c.read_at.result.now c.read_at.ensures
    (c.is_shown_at.ensures.0 c.if-not-is_shown_at.false))

-- this one is not
pub returns-then-not-is_shown_at : goal.returns-then-not-is_shown_at
returns-then-not-is_shown_at c = (
  (λ yes. absurd (cc)),
  (λ shown. sym c.if-not-is_shown_at.true
      ∙ c.is_shown_at.ensures.1 (each_shown c.args.hall.now.standing.history c.args.revision c.args.reads.now c.loop-place.place c.read_at.result.now shown
      c.read_at.ensures)),
)

pub returns : goal.returns
returns c = (
  (λ yes. all_shown c.args.hall.now.standing.history c.args.revision c.args.reads.now (λ p below. c.loop-place.invariant p (omega (arith, below)))),
  (λ shown. refl),
)
