-- Which keys a watcher watches.
--
-- etcd's API reference, "Watch", `WatchCreateRequest`: `key` and `range_end`. A range whose end is not above its first key has no keys here.
use Rattle.std.specs.Prelude.{ℕ, List, Bool, true, false, bytes_eq, Option, Some, None}
use Rattle.std.specs.List.{list_any}
use Rattle.stm_history.specs.declared.change.Change.{Change}
use Rattle.stm_history.specs.History.{key_of}
use Rattle.stm_keys.specs.NextChange.{is_between}
use Rattle.stm_watch.specs.declared.watched.Watched.{Watched}
use Rattle.stm_watch.specs.declared.watched.Watched.TheVariants.{Key, Range}

-- whether a key is watched
abbrev pub is_watched : Watched → List ℕ → Bool
is_watched (Key watched) key = bytes_eq watched key
is_watched (Range first end) key = is_between first end key

abbrev pub is_any_watched : Watched → List Change → Bool
is_any_watched watched changes = list_any (λ c. is_watched watched (key_of c)) changes

-- the key that must not be empty
abbrev pub first_key : Watched → List ℕ
first_key (Key watched) = watched
first_key (Range first end) = first

-- no key that is watched is behind this one
abbrev pub last_key : Watched → List ℕ
last_key (Key watched) = watched
last_key (Range first end) = end

-- whether what is watched, if anything is, is a range
abbrev pub is_range : Option Watched → Bool
is_range None = false
is_range (Some (Key watched)) = false
is_range (Some (Range first end)) = true
