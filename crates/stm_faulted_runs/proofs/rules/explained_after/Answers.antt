use Rattle.std.proofs.lemmas.Result.{IfOk-weaker}
use Rattle.stm_faulted_runs.proofs.rules.explained_after.Goals as goal

pub returns : goal.returns
returns c =
    IfOk-weaker c.explained_by.result _ _ (λ s line. (c.in_ok-state.state, c.in_ok-state.ensures, line)) c.explained_by.ensures
