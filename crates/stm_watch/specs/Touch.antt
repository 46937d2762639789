-- What a new revision makes of a watcher's first pending one.
use Rattle.std.specs.Prelude.{ℕ, List, [], ◌∷◌, Option, Some, None, is_some, option_map, slice_index_or, slice_set, Bool, false, not, ◌&&◌, nat_lt}
use Rattle.std.specs.Prelude.{if◌then◌else◌}
use Rattle.std.specs.Option.{option_or}
use Rattle.stm_history.specs.declared.change.Change.{Change}
use Rattle.stm_watch.specs.declared.watched.Watcher.{Watcher}
use Rattle.stm_watch.specs.Keys.{is_watched, is_any_watched}

-- it stays the first, or the revision is it, where the watcher wants to know of that
abbrev pub first_with : ℕ → Bool → Option ℕ → Option ℕ
first_with revision wants first = option_or first (if wants then Some revision else None)

-- after a change of this key at that revision
abbrev pub touch_key : ℕ → List ℕ → Watcher → Watcher
touch_key revision key w =
    record w { first = first_with revision (nat_lt w.seen revision && is_watched w.watched key) w.first }

-- after these changes at that revision
abbrev pub touch : ℕ → List Change → Watcher → Watcher
touch revision changes w =
    record w { first = first_with revision (nat_lt w.seen revision && is_any_watched w.watched changes) w.first }

-- whether an idle watcher wants to know of it
abbrev pub wants : ℕ → List ℕ → Option Watcher → Bool
wants revision key None = false
wants revision key (Some w) = not (is_some w.first) && (nat_lt w.seen revision && is_watched w.watched key)

-- the watchers after a change of a key at one place
abbrev pub touch_at : ℕ → List ℕ → ℕ → List (Option Watcher) → List (Option Watcher)
touch_at revision key i ws = slice_set ws i (option_map (touch_key revision key) (slice_index_or ws i None))

-- the watchers after a change of a key at these places, one after the other
abbrev pub touch_each : ℕ → List ℕ → List ℕ → List (Option Watcher) → List (Option Watcher)
touch_each revision key [] ws = ws
touch_each revision key (i ∷ is) ws = touch_each revision key is (touch_at revision key i ws)
