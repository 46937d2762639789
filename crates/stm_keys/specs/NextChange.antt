-- The next change of a key, or of any key of a range.
--
-- etcd's API reference, "Watch", `WatchCreateRequest`: `key` and `range_end`. A range whose end is not above its first key has no keys here.
use Rattle.std.specs.Prelude.{ℕ, Bool, ◌&&◌, nat_lt, if◌then◌else◌, List, [], ◌∷◌, Option, Some, None, is_some}
use Rattle.std.specs.List.{list_any}
use Rattle.std.specs.Option.{option_or}
use Rattle.std.specs.Ordering.{nat_cmp, is_lt, is_le}
use Rattle.std.specs.Cmp.Lexicographic.{slice_cmp}
use Rattle.stm_history.specs.declared.change.Change.{Change}
use Rattle.stm_history.specs.Opening.{Opening}
use Rattle.stm_history.specs.History.{History, number_of_last, key_of, change_of}

-- the number of a revision, where it is above another and its changes pass a test
abbrev pub changed_above : ℕ → (List Change → Bool) → ℕ → List Change → Option ℕ
changed_above above passes number changes = if nat_lt above number && passes changes then Some number else None

-- the first of these revisions above a number whose changes pass a test, if there is one; the newest of them stands first
abbrev pub first_change : Opening → ℕ → (List Change → Bool) → List (List Change) → Option ℕ
first_change opening above passes [] = None
first_change opening above passes (changes ∷ older) =
    option_or (first_change opening above passes older) (changed_above above passes (number_of_last opening (changes ∷ older)) changes)

-- whether one of these changes is about the key
abbrev pub changes_key : List ℕ → List Change → Bool
changes_key key changes = is_some (change_of key changes)

-- whether one of these changes is about a key that passes a test
abbrev pub changes_any : (List ℕ → Bool) → List Change → Bool
changes_any passes changes = list_any (λ c. passes (key_of c)) changes

-- first ≤ key < end, by bytes
abbrev pub is_between : List ℕ → List ℕ → List ℕ → Bool
is_between first end key = is_le (slice_cmp nat_cmp first key) && is_lt (slice_cmp nat_cmp key end)

-- the first revision above a number that changes the key, if there is one
abbrev pub next_change : History → List ℕ → ℕ → Option ℕ
next_change h key above = first_change h.opening above (changes_key key) h.revisions

-- the first revision above a number that changes a key from the first on and below the end, if there is one
abbrev pub next_change_between : History → List ℕ → List ℕ → ℕ → Option ℕ
next_change_between h first end above = first_change h.opening above (changes_any (is_between first end)) h.revisions
