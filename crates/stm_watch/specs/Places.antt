-- The watchers as they are kept, beside the floor of their store.
use Rattle.std.specs.Prelude.{ℕ, Bool, false, nat_lt, List, [], map, Option, Some, None, option_map}
use Rattle.stm_watch.specs.declared.watched.Watcher.{Watcher}
use Rattle.stm_watch.specs.Watching.{Watching}

-- What contracts see of the watchers of a store: its floor, and what stands at each place, watcher 1 at the first one, with nothing where
-- one was cancelled.
pub record WatchersView : Type 0 where
  pub floor : ℕ
  pub places : List (Option Watcher)

-- the watchers of a new store
abbrev pub no_watchers : WatchersView
no_watchers = record { floor = 0; places = [] }

-- the watchers, with these at the places
abbrev pub with_places : WatchersView → List (Option Watcher) → WatchersView
with_places v places = record { floor = v.floor; places = places }

-- a watcher for which events of this revision and maybe later ones are pending is lost where the revision is below the floor
abbrev pub is_lost : ℕ → Option ℕ → Bool
is_lost floor None = false
is_lost floor (Some first) = nat_lt first floor

-- a watcher that is kept, as the rules see it
abbrev pub watching_of : ℕ → Watcher → Watching
watching_of floor w = record { watched = w.watched; seen = w.seen; lost = is_lost floor w.first }

abbrev pub watchings : WatchersView → List (Option Watching)
watchings v = map (option_map (watching_of v.floor)) v.places
