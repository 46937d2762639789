use Rattle.std.proofs.Common.{subst}
use Rattle.std.specs.Prelude.{Result}
use Rattle.stm_history.specs.declared.key_state.ReadAnswer.{ReadAnswer}
use Rattle.stm_outcome.specs.declared.refusal.Refusal.{Refusal}
use Rattle.stm_journal.specs.Fetched.{IsFetch, read_reported}
use Rattle.stm_journal.proofs.FetchLemmas.{read_is_fetch, fetch_of_read}
use Rattle.stm_journal.proofs.fetching.fetch.Goals as goal

-- a key that is named, at a revision that is reached
pub returns-clause-reported : goal.returns-clause-reported
returns-clause-reported c =
    subst (λ (defined : Result ReadAnswer Refusal). IsFetch defined c.read.result)
    (read_is_fetch c.args.store.now.standing c.args.key.now c.args.at c.requires.named c.requires.reached)
    (fetch_of_read (read_reported c.args.store.now.standing c.args.key.now c.args.at) c.read.result c.read.ensures.reported)
