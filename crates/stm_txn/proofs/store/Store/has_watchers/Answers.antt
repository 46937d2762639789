use Rattle.std.proofs.Common.{◌≡◌, List, [], ◌∷◌, map, Option, Some, None, option_map, is_some, refl, ap, ◌∙◌}
use Rattle.std.specs.List.{list_any}
use Rattle.stm_watch.specs.Places.{WatchersView, watching_of, watchings}
use Rattle.stm_txn.specs.Store.{StoreView}
use Rattle.stm_txn.proofs.store.Store.has_watchers.Goals as goal

-- a watcher stands where one is kept
same_places : {A B : Type 0} (f : A → B) (places : List (Option A)) → list_any is_some places ≡ list_any is_some (map (option_map f) places)
same_places f [] = refl
same_places f (None ∷ places) = same_places f places
same_places f (Some w ∷ places) = refl

same_watchings : (v : WatchersView) → list_any is_some v.places ≡ list_any is_some (watchings v)
same_watchings v = same_places (watching_of v.floor) v.places

pub returns : goal.returns
returns c = c.has_any.ensures ∙ same_watchings c.self.inside.watchers ∙ ap (λ (s : StoreView). list_any is_some s.standing.watchers) c.self.view_is
