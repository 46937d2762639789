use Rattle.std.proofs.Common.{length, option_map, ◌∙◌, sym, ap}
use Rattle.std.proofs.lemmas.List.{length-map}
use Rattle.stm_watch.specs.Places.{watching_of}
use Rattle.stm_txn.specs.Store.{StoreView}
use Rattle.stm_txn.proofs.store.Store.watcher_count.Goals as goal

pub returns : goal.returns
returns c =
    c.count.ensures ∙ sym (length-map c.self.inside.watchers.places (option_map (watching_of c.self.inside.watchers.floor)))
    ∙ ap (λ (s : StoreView). length s.standing.watchers) c.self.view_is
