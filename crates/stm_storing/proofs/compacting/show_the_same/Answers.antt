use Rattle.std.proofs.Common.{◌≤◌, subst, sym}
use Rattle.std.proofs.lemmas.Result.{IfOk-weaker}
use Rattle.stm_history.specs.History.{now}
use Rattle.stm_txn.specs.Standing.{Standing}
use Rattle.stm_storing.proofs.CompactLemmas.{worlds_show}
use Rattle.stm_storing.proofs.compacting.show_the_same.Goals as goal

pub stores_show_the_same-requires-clause-reached : goal.stores_show_the_same-requires-clause-reached
stores_show_the_same-requires-clause-reached c =
    subst (λ (s : Standing). c.args.floor ≤ now s.history) (sym c.store.ensures.standing) c.requires.reached

pub returns : goal.returns
returns c =
    IfOk-weaker c.stores_show_the_same.result _ _
    (λ is shows same.
    worlds_show c.args.floor c.args.left.now.standing c.args.right.now.standing c.store.result.now.standing c.store-2.result.now.standing c.store.ensures.standing
    c.store-2.ensures.standing (c.in_ok-same.ensures c.if-not-same.false) (shows same))
    c.stores_show_the_same.ensures
