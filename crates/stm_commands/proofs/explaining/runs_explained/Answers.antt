use Rattle.std.proofs.Common.{ℕ, List, IfOk, subst}
use Rattle.std.specs.Prelude.{string_bytes}
use Rattle.stm_texts.specs.Reading.{scenario_in}
use Rattle.stm_faulted_runs.specs.Lines.{ExplainsRun}
use Rattle.stm_commands.proofs.explaining.runs_explained.Goals as goal

-- what was read is the text
pub returns-in-Some : goal.returns-in-Some
returns-in-Some g c =
    subst (λ (text : List ℕ). IfOk c.faults_explained.result (λ lines. ExplainsRun c.args.input.now.name.now text (scenario_in text) (string_bytes lines)))
    c.in-Some.ensures c.faults_explained.ensures
