-- A branch of puts and deletes, and what they change.
use Rattle.std.specs.Prelude.{◌≡◌, ℕ, Bool, true, is_some, List, map, filter, Option}
use Rattle.stm_history.specs.declared.change.Change.{Change}
use Rattle.stm_history.specs.declared.change.Change.TheVariants.{Put as PutChange, Del as DelChange}
use Rattle.stm_history.specs.declared.key_state.KeyState.{KeyState}
use Rattle.stm_history.specs.History.{History, key_now, HasDistinctKeys}
use Rattle.stm_outcome.specs.declared.txn.Op.{Op}
use Rattle.stm_outcome.specs.declared.txn.Op.TheVariants.{Put, Del}
use Rattle.stm_outcome.specs.Branches.{changes_of_branch}

-- the operation of a write
abbrev pub op_of : Change → Op
op_of (PutChange key value lease) = Put key value lease
op_of (DelChange key) = Del key

-- a write changes something, unless it deletes a key that is absent
abbrev pub changes_something : (List ℕ → Option KeyState) → Change → Bool
changes_something state (PutChange key value lease) = true
changes_something state (DelChange key) = is_some (state key)

-- What a branch of writes of distinct keys changes is their effect: the writes in their order, without the deletes of
-- keys that are absent.
abbrev pub BranchIsEffect : Type 0
BranchIsEffect =
    (h : History) (writes : List Change) → HasDistinctKeys writes → changes_of_branch h (map op_of writes) ≡ filter (changes_something (key_now h)) writes
