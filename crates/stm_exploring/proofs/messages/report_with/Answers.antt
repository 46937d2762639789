use Rattle.stm_explain.proofs.ExplainLemmas.{reports_with_of}
use Rattle.stm_exploring.proofs.messages.report_with.Goals as goal

pub returns : goal.returns
returns g c =
    let held = g.E.Sink.held in
    let after = c.report_with.new.err in
    reports_with_of (held c.args.err.now) (held after) (g.E.Sink.failed after) c.report_with.result _ _ _ _ c.args.more.now c.report_with.ensures c.message.ensures.status
    c.message.ensures.text
