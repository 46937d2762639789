-- Where a key stands among the entries of a state, or would go.
use Rattle.std.specs.Prelude.{◌≡◌, ℕ, ◌<◌, ◌≤◌, List, length, slice_index_or}
use Rattle.std.specs.declared.cmp.Ordering.{Ordering}
use Rattle.std.specs.declared.cmp.Ordering.TheVariants.{Less, Equal, Greater}
use Rattle.stm_steps.specs.declared.state.StateEntry.{StateEntry}
use Rattle.stm_steps.specs.States.{key_order}

-- how the key at place i compares with a key
abbrev pub order_at : List StateEntry → ℕ → List ℕ → StateEntry → Ordering
order_at entries i key d = let entry = slice_index_or entries i d in key_order entry.key key

-- the entry at place i has the key
pub record IsAt (entries : List StateEntry) (key : List ℕ) (i : ℕ) : Type 0 where
  pub in_range : i < length entries
  pub has_key : (d : StateEntry) → order_at entries i key d ≡ Equal

-- the key would go at place i: smaller keys before it, and greater keys from it on
pub record IsGapFor (entries : List StateEntry) (key : List ℕ) (i : ℕ) : Type 0 where
  pub in_range : i ≤ length entries
  pub smaller_before : (j : ℕ) (d : StateEntry) → j < i → order_at entries j key d ≡ Less
  pub greater_after : (j : ℕ) (d : StateEntry) → i ≤ j → j < length entries → order_at entries j key d ≡ Greater
