use Rattle.stm_explain.proofs.ExplainLemmas.{reports_of}
use Rattle.stm_commands.proofs.showing.report_fault.Goals as goal

pub returns : goal.returns
returns g c =
    let held = g.E.Sink.held in
    let after = c.report.new.err in
    reports_of (held c.args.err.now) (held after) (g.E.Sink.failed after) c.report.result _ _ _ _ c.report.ensures c.message.ensures.status
    c.message.ensures.text
