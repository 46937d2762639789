use Rattle.std.proofs.Common.{◌+◌, [], ◌∷◌, length, ap, ◌∙◌, length-append}
use Rattle.stm_exploring.proofs.judging.are_open.Goals as goal

pub loop-answer-preserved : goal.loop-answer-preserved
loop-answer-preserved c =
    ap length c.in_ok-push.ensures.items ∙ length-append c.loop-answer.asked.items (c.is_open.result ∷ []) ∙ ap (λ k. k + 1) c.loop-answer.invariant
