use Rattle.std.specs.Prelude.{string_bytes}
use Rattle.std.proofs.Common.{refl}
use Rattle.std.proofs.lemmas.Result.{IfOk-weaker}
use Rattle.stm_faulted_runs.proofs.LineLemmas.{moved}
use Rattle.stm_faulted_runs.proofs.jobs.lines_of.Goals as goal

pub returns : goal.returns
returns c = IfOk-weaker c.lines_in.result _ _ (λ s e. moved _ _ c.in_ok-explained.ensures _ _ refl (string_bytes s) e) c.lines_in.ensures
