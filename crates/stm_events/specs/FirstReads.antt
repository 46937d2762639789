-- The keys that an attempt reads, in the order of their first reads.
--
-- The Go package `concurrency`, "STM": a read of a key that was read before is no fetch.
use Rattle.std.specs.Prelude.{ℕ, Bool, bytes_eq, not, List, [], ◌∷◌, ◌++◌, filter}
use Rattle.std.specs.List.{list_any}

abbrev pub is_other : List (List ℕ) → List ℕ → Bool
is_other keys key = not (list_any (bytes_eq key) keys)

-- the keys of the program's list, then the others that its run reads
abbrev pub keys_first_read : List (List ℕ) → List (List ℕ) → List (List ℕ)
keys_first_read [] reads = reads
keys_first_read (key ∷ keys) reads = (key ∷ keys) ++ filter (is_other (key ∷ keys)) reads
