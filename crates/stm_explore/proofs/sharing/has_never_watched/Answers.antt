use Rattle.std.proofs.Common.{◌∙◌, ap, length}
use Rattle.stm_txn.specs.Standing.{Standing}
use Rattle.stm_explore.proofs.SameStores.{none_counted}
use Rattle.stm_explore.proofs.sharing.has_never_watched.Goals as goal

pub returns : goal.returns
returns c = λ none.
    none_counted c.args.world.now.standing.watchers _ (c.watcher_count.ensures ∙ ap (λ (s : Standing). length s.watchers) c.store-store.ensures.standing) none
