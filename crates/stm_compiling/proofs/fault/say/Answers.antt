use Rattle.std.proofs.Common.{refl}
use Rattle.stm_explain.proofs.ExplainLemmas.{says}
use Rattle.stm_compiling.proofs.fault.say.Goals as goal

pub returns : goal.returns
returns g c =
    let held = g.E.Sink.held in
    let after = c.write_text.new.err in
    (refl, says (held c.args.err.now) (held after) (g.E.Sink.failed after) c.write_text.result c.args.text.now c.write_text.ensures)
