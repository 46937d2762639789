use Rattle.std.proofs.lemmas.Result.{IfOk-weaker, IfErr-weaker}
use Rattle.stm_threading.proofs.running.run_once.Goals as goal

pub returns-clause-shows : goal.returns-clause-shows
returns-clause-shows g c =
    IfOk-weaker c.run_on_store.result _ _ (λ text printed. printed c.args.opening c.args.calls.now c.in_ok-store.ensures) c.run_on_store.ensures.shows

pub returns-clause-fault : goal.returns-clause-fault
returns-clause-fault g c =
    IfErr-weaker c.run_on_store.result _ _ (λ fault reported. reported c.args.opening c.args.calls.now c.in_ok-store.ensures) c.run_on_store.ensures.fault
