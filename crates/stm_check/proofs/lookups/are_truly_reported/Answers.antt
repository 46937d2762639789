use Rattle.std.proofs.Common.{◌≡◌, ◌∙◌, true, sym}
use Rattle.stm_check.proofs.LookupLemmas.{leaves_less, true_at}
use Rattle.stm_check.proofs.lookups.are_truly_reported.Goals as goal

pub returns-then-not-is_truly_reported : goal.returns-then-not-is_truly_reported
returns-then-not-is_truly_reported c = (
  (λ t. absurd (cc)),
  (λ all.
      let yes : c.is_truly_reported.result ≡ true =
      c.is_truly_reported.ensures.1 (true_at c.args.keys.now.history c.args.answers.now c.loop-answer.answer-index c.answer-item.result
      c.loop-answer-test.true c.answer-item.is c.loop-answer.invariant all) in
      sym c.if-not-is_truly_reported.true ∙ yes),
)

pub loop-answer-preserved : goal.loop-answer-preserved
loop-answer-preserved c =
    leaves_less c.args.keys.now.history c.args.answers.now c.loop-answer.answer-index c.answer-item.result c.loop-answer-test.true c.answer-item.is
    c.loop-answer.invariant (c.is_truly_reported.ensures.0 c.if-not-is_truly_reported.false)
