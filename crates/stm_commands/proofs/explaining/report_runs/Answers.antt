use Rattle.std.specs.Prelude.{string_bytes}
use Rattle.stm_texts.specs.Reading.{scenario_in}
use Rattle.stm_faulted_runs.specs.Lines.{ExplainsRun}
use Rattle.stm_faulted_runs.proofs.SaidLemmas.{said}
use Rattle.stm_explain.proofs.ExplainLemmas.{says}
use Rattle.stm_commands.proofs.explaining.report_runs.Goals as goal

pub returns-clause-says : goal.returns-clause-says
returns-clause-says g c =
    let held = g.E.Sink.held in
    let after = c.write_text.new.err in
    let text = c.args.input.now.bytes.items in (
      c.said_of.result.now,
      said (ExplainsRun c.args.input.now.name.now text (scenario_in text)) string_bytes c.runs_explained-explained.result c.said_of.result.now
          c.runs_explained-explained.ensures c.said_of.ensures.ok c.said_of.ensures.err,
      says (held c.args.err.now) (held after) (g.E.Sink.failed after) c.write_text.result c.said_of.result.now c.write_text.ensures,
    )
