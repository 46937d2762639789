-- The writes of a run, each the change that it asks for: the last write of each key.
use Rattle.std.specs.Prelude.{◌≡◌, ℕ, Bool, bytes_eq, not, if◌then◌else◌, List, [], ◌∷◌, ◌++◌, Option, None, Some, find, filter, map, reverse, is_some}
use Rattle.std.specs.List.{IsDistinct}
use Rattle.stm_history.specs.declared.change.Change.{Change}
use Rattle.stm_history.specs.History.{key_of}

-- the last write of a key, looked for from the end
unfoldable pub last_write : List ℕ → List Change → Option Change
last_write key writes = find (λ w. bytes_eq (key_of w) key) (reverse writes)

-- one of these writes is of this key
abbrev pub is_written : List ℕ → List Change → Bool
is_written key writes = is_some (last_write key writes)

-- what stands for the first write of `later` in the list of latest writes: nothing where `earlier` has written the key
-- already, else the last write of the key
abbrev pub latest_of : List Change → Change → List Change → List Change
latest_of earlier w later = if is_written (key_of w) earlier then [] else last_of (last_write (key_of w) later)
  where
    last_of : Option Change → List Change
    last_of None = w ∷ []
    last_of (Some last) = last ∷ []

abbrev pub latest_after : List Change → List Change → List Change
latest_after earlier [] = []
latest_after earlier (w ∷ later) = latest_of earlier w later ++ latest_after (earlier ++ w ∷ []) later

-- for each key, in the order of first writes, its last write
unfoldable pub latest_writes : List Change → List Change
latest_writes writes = latest_after [] writes

-- ---- laws

-- each key once, in the order in which they first come
abbrev pub each_once : List (List ℕ) → List (List ℕ)
each_once [] = []
each_once (k ∷ ks) = k ∷ filter (λ other. not (bytes_eq k other)) (each_once ks)

-- for every key the last of the latest writes is its last write
abbrev pub LatestWritesAreLast : Type 0
LatestWritesAreLast = (writes : List Change) (key : List ℕ) → last_write key (latest_writes writes) ≡ last_write key writes

-- the keys of the latest writes are those that are written, each once, in the order of first writes
abbrev pub LatestWritesAreInOrder : Type 0
LatestWritesAreInOrder = (writes : List Change) → map key_of (latest_writes writes) ≡ each_once (map key_of writes)

-- no two of the latest writes are of one key
abbrev pub LatestWritesAreDistinct : Type 0
LatestWritesAreDistinct = (writes : List Change) → IsDistinct bytes_eq (map key_of (latest_writes writes))
