use Rattle.std.proofs.lemmas.Result.{IfOk-weaker}
use Rattle.stm_faulted_runs.proofs.rules.reason_after.Goals as goal

pub returns : goal.returns
returns c = IfOk-weaker c.fault_on.result _ _ (λ said is. (c.in_ok-state.state, c.in_ok-state.ensures, is)) c.fault_on.ensures
