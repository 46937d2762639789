use Rattle.std.proofs.Common.{◌++◌}
use Rattle.stm_explain.specs.Saying.{text_of}
use Rattle.stm_explain.proofs.ExplainLemmas.{says}
use Rattle.stm_explain.proofs.messages.Message.report_with.Goals as goal

pub returns : goal.returns
returns g c =
    let held = g.E.Sink.held in
    let after = c.write_with.new.err in (
      c.status.ensures,
      says (held c.args.err.now) (held after) (g.E.Sink.failed after) c.write_with.result (text_of c.args.self.now ++ c.args.more.now) c.write_with.ensures,
    )
