use Rattle.std.proofs.Common.{◌≤◌, subst}
use Rattle.stm_history.specs.declared.revisions.TheConstants.{HIGHEST_REVISION}
use Rattle.stm_outcome.specs.Numbers.{StatesFit}
use Rattle.stm_txn.specs.Store.{StoreView}
use Rattle.stm_txn.proofs.Fitting.{states_fit}
use Rattle.stm_txn.proofs.store.Store.keys.Goals as goal

pub returns-clause-numbers : goal.returns-clause-numbers
returns-clause-numbers c =
    subst (λ (s : StoreView). StatesFit s.standing.history) c.self.view_is
    (states_fit c.self.inside.keys.history
    (subst (λ n. n ≤ HIGHEST_REVISION) c.revision-counter.ensures.value c.revision-counter.ensures.bounded) c.self.invariant.1)
