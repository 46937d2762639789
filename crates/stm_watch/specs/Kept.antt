-- How lists and the numbers on them agree. No public clause cites this module.
use Rattle.std.specs.Prelude.{◌≡◌, ◌≢◌, ◌⊎◌, ℕ, List, [], ◌∷◌, length, Option, Some, None, is_some, ◌<◌, slice_index_or}
use Rattle.std.specs.Prelude.{if◌then◌else◌}
use Rattle.std.specs.Vec.{vec_len, vec_capacity}
use Rattle.stm_lists.specs.Lists.{Lists, entries_at, HasList}
use Rattle.stm_watch.specs.declared.index.Index.{Index}
use Rattle.stm_watch.specs.declared.watched.Watcher.{Watcher}

-- a node with this number stands among these
abbrev pub Holds : List (ℕ × ℕ) → ℕ → ℕ → Type 0
Holds [] node number = ⊥
Holds (entry ∷ rest) node number = ((entry.0 ≡ node) × (entry.1 ≡ number)) ⊎ Holds rest node number

-- ---- the lists on which watchers stand

-- the list of the ready watchers, or of the idle ones
abbrev pub list_among : ℕ → ℕ → Watcher → Option ℕ
list_among idle ready w = if is_some w.first then Some ready else Some idle

-- each watcher's node stands on the watcher's list, and nothing else stands on lists
pub record AreListed (lists : Lists ℕ) (list_for : Watcher → Option ℕ) (nodes : List (Option ℕ)) (ws : List (Option Watcher)) : Type 0 where
  pub long : length nodes ≡ length ws
  pub there : (w : Watcher) (list : ℕ) → list_for w ≡ Some list → HasList lists list
  pub stands : (i : ℕ) (w : Watcher) → slice_index_or ws i None ≡ Some w
      → (list : ℕ) × (node : ℕ) × (list_for w ≡ Some list) × (slice_index_or nodes i None ≡ Some node) × Holds (entries_at lists list) node i
  pub only : (list node i : ℕ) → Holds (entries_at lists list) node i
      → (slice_index_or nodes i None ≡ Some node) × (w : Watcher) × (slice_index_or ws i None ≡ Some w) × (list_for w ≡ Some list)

-- they stand there, and the lists are two
pub record AreCovered (lists : Lists ℕ) (idle ready : ℕ) (nodes : List (Option ℕ)) (ws : List (Option Watcher)) : Type 0 where
  pub listed : AreListed lists (list_among idle ready) nodes ws
  pub apart : idle ≢ ready

abbrev pub list_for : Index → Watcher → Option ℕ
list_for index w = list_among index.idle index.ready w

-- the index has these watchers
abbrev pub Covers : Index → List (Option Watcher) → Type 0
Covers index ws = AreCovered index.lists index.idle index.ready index.nodes.items ws

-- one more watcher can be added without memory
abbrev pub HasRoom : Index → Type 0
HasRoom index = (0 < index.lists.spare) × (vec_len index.nodes < vec_capacity index.nodes)
