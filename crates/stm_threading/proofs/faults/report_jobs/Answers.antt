use Rattle.std.specs.Prelude.{string_bytes}
use Rattle.stm_texts.specs.Reading.{scenario_in}
use Rattle.stm_faulted_runs.specs.Jobs.{ExplainsJobs}
use Rattle.stm_faulted_runs.proofs.SaidLemmas.{said}
use Rattle.stm_explain.proofs.ExplainLemmas.{says}
use Rattle.stm_threading.specs.Threading.{faulted_jobs}
use Rattle.stm_threading.proofs.faults.report_jobs.Goals as goal

pub returns-clause-says : goal.returns-clause-says
returns-clause-says g c =
    let held = g.E.Sink.held in
    let after = c.write_text.new.err in
    let text = c.args.input.now.bytes.items in (
      c.said_of.result.now,
      said (ExplainsJobs c.args.input.now.name.now text (scenario_in text) (faulted_jobs 0 c.args.ends.now)) string_bytes c.jobs_of_input-explained.result
          c.said_of.result.now c.jobs_of_input-explained.ensures c.said_of.ensures.ok c.said_of.ensures.err,
      says (held c.args.err.now) (held after) (g.E.Sink.failed after) c.write_text.result c.said_of.result.now c.write_text.ensures,
    )
