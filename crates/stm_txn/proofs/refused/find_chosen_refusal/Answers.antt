use Rattle.std.proofs.Common.{sym, ap, ◌∙◌}
use Rattle.stm_history.specs.History.{History, key_now}
use Rattle.stm_outcome.specs.Compares.{first_failed}
use Rattle.stm_txn.proofs.Refusing.{chosen_refused}
use Rattle.stm_txn.proofs.refused.find_chosen_refusal.Goals as goal

pub returns : goal.returns
returns c = λ limit whole.
    let h : History = c.args.keys.now.history in
    chosen_refused limit c.args.keys.now.floor h c.args.leases.now.live c.args.txn.now c.find_failed-failed.result c.choose.result.now c.find_run_refusal.result whole
    (sym (c.find_failed-failed.ensures ∙ ap (first_failed (key_now h) 0) c.as_slice.ensures))
    (sym c.choose.ensures) (c.find_run_refusal.ensures.refusal c.find_failed-failed.result)
