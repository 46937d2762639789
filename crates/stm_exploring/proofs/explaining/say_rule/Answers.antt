use Rattle.stm_explain.proofs.ExplainLemmas.{says}
use Rattle.stm_exploring.proofs.explaining.say_rule.Goals as goal

pub returns : goal.returns
returns g c =
    let held = g.E.Sink.held in
    let after = c.write_text.new.err in
    says (held c.args.err.now) (held after) (g.E.Sink.failed after) c.write_text.result c.args.more.now c.write_text.ensures
