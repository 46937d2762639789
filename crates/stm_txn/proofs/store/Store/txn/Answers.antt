use Rattle.std.proofs.Common.{◌≤◌, subst}
use Rattle.stm_history.specs.declared.revisions.TheConstants.{HIGHEST_REVISION}
use Rattle.stm_history.specs.History.{now}
use Rattle.stm_leases.specs.Live.{AreInRange}
use Rattle.stm_outcome.specs.Numbers.{LeasesFit}
use Rattle.stm_txn.specs.Standing.{Standing}
use Rattle.stm_txn.specs.Store.{StoreView}
use Rattle.stm_txn.proofs.Transacting.{placed, of_answer}
use Rattle.stm_txn.proofs.Fitting.{numbers_fit}
use Rattle.stm_txn.proofs.store.Store.txn.Goals as goal

pub returns-clause-place : goal.returns-clause-place
returns-clause-place c =
    let s : Standing = c.args.self.now.standing in
    let next : Standing = c.transact.new.self.standing in
    of_answer s next c.args.txn.now c.transact.result c.transact.ensures.step (placed s next c.args.txn.now)

pub returns-clause-numbers : goal.returns-clause-numbers
returns-clause-numbers c =
    let s : Standing = c.args.self.now.standing in
    let next : Standing = c.transact.new.self.standing in
    of_answer s next c.args.txn.now c.transact.result c.transact.ensures.step (λ a. numbers_fit s next c.args.txn.now a
    (subst (λ (v : StoreView). now v.standing.history ≤ HIGHEST_REVISION) c.self.view_is
    (subst (λ n. n ≤ HIGHEST_REVISION) c.revision-counter.ensures.value c.revision-counter.ensures.bounded))
    (subst (λ (v : StoreView). LeasesFit v.standing.history) c.self.view_is c.self.invariant.1)
    (subst (λ (v : StoreView). AreInRange v.standing.live) c.self.view_is c.ids_are_in_range.ensures))
