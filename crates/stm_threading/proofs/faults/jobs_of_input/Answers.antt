use Rattle.std.proofs.Common.{ℕ, List, IfOk, subst}
use Rattle.std.specs.Prelude.{string_bytes}
use Rattle.stm_texts.specs.Reading.{scenario_in}
use Rattle.stm_faulted_runs.specs.Jobs.{ExplainsJobs}
use Rattle.stm_threading.specs.Threading.{faulted_jobs}
use Rattle.stm_threading.proofs.faults.jobs_of_input.Goals as goal

-- what was read is the text
pub returns-in-Some : goal.returns-in-Some
returns-in-Some g c =
    subst (λ (text : List ℕ). IfOk c.lines_in.result
    (λ said. ExplainsJobs c.args.input.now.name.now text (scenario_in text) (faulted_jobs 0 c.args.ends.now) (string_bytes said))) c.in-Some.ensures c.lines_in.ensures
