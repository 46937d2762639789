use Rattle.std.proofs.Common.{◌∙◌, List, ap, take}
use Rattle.stm_history.specs.declared.key_state.ReadAnswer.{ReadAnswer}
use Rattle.stm_compile.specs.Answers.{answer_in}
use Rattle.stm_events.specs.Replies.{read_in, reads_in}
use Rattle.stm_check.proofs.Fronts.{mapped_next}
use Rattle.stm_check.proofs.LookupLemmas.{truth_at}
use Rattle.stm_check.proofs.lookups.reads_reported.Goals as goal

pub add_reported-requires-clause-reached : goal.add_reported-requires-clause-reached
add_reported-requires-clause-reached c =
    (truth_at c.args.keys.now.history c.args.answers.now c.loop-answer.answer-index c.answer-item.result c.loop-answer-test.true c.answer-item.is
    c.requires.truth).reached

pub loop-answer-preserved : goal.loop-answer-preserved
loop-answer-preserved c = λ key.
    let h = c.args.keys.now.history in
    let i = c.loop-answer.answer-index in
    c.in_ok-add_reported.ensures (reads_in h (take i c.args.answers.now)) c.loop-answer.invariant key
    ∙ ap (λ (reads : List ReadAnswer). answer_in key reads)
    (mapped_next (read_in h) c.args.answers.now i c.answer-item.result c.loop-answer-test.true c.answer-item.is)
