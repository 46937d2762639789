use Rattle.std.proofs.Common.{subst}
use Rattle.std.specs.Prelude.{Result}
use Rattle.stm_history.specs.declared.key_state.ReadAnswer.{ReadAnswer}
use Rattle.stm_outcome.specs.declared.refusal.Refusal.{Refusal}
use Rattle.stm_txn.specs.Standing.{Standing}
use Rattle.stm_journal.specs.Fetched.{IsFetch, read_reported, ReadReturns}
use Rattle.stm_journal.proofs.FetchLemmas.{read_is_fetch, fetch_of_read}
use Rattle.stm_retry.proofs.runner_steps.read_key.Goals as goal

pub returns-clause-reported : goal.returns-clause-reported
returns-clause-reported c =
    let s : Standing = c.args.journal.now.standing in
    let reported : ReadReturns (read_reported s c.args.key.now c.args.at) c.read.result =
    subst (λ (x : Standing). ReadReturns (read_reported x c.args.key.now c.args.at) c.read.result) c.store.ensures c.read.ensures.reported in
    subst (λ (defined : Result ReadAnswer Refusal). IsFetch defined c.read.result)
    (read_is_fetch s c.args.key.now c.args.at c.requires.named c.requires.reached)
    (fetch_of_read (read_reported s c.args.key.now c.args.at) c.read.result reported)
