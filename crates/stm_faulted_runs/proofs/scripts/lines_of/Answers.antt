use Rattle.std.specs.Prelude.{string_bytes}
use Rattle.std.proofs.lemmas.Result.{IfOk-weaker}
use Rattle.stm_faulted_runs.proofs.LineLemmas.{moved, same_run}
use Rattle.stm_faulted_runs.proofs.scripts.lines_of.Goals as goal

pub returns : goal.returns
returns c =
    IfOk-weaker c.lines_from.result _ _
    (λ s e. moved _ _ c.in_ok-explained.ensures _ _ (same_run _ _ _ _ c.opens_with-opening.ensures.setup c.as_slice.ensures) (string_bytes s) e) c.lines_from.ensures
