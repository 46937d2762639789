use Rattle.stm_report.proofs.WholeJudgingLemmas.{yes_judged, form_judged}
use Rattle.stm_report.proofs.whole_judging.judge_text.Goals as goal

pub returns-then-is_settled : goal.returns-then-is_settled
returns-then-is_settled c =
    let settled = c.is_settled.ensures.settled c.if-is_settled.true in
    yes_judged c.args.expected.now c.args.given.now c.in_ok-checked.checked c.in_ok-checked.ensures settled.0 settled.1

pub returns : goal.returns
returns c =
    form_judged c.args.expected.now c.args.given.now c.in_ok-checked.checked c.judge_form.result c.in_ok-checked.ensures
    (c.is_settled.ensures.open c.if-is_settled.false) c.judge_form.ensures
