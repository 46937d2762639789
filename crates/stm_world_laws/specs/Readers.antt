-- What the readers of a state find of the queues and slots that the laws of entries speak of.
use Rattle.std.specs.Prelude.{◌≡◌, ◌↔◌, ℕ, ◌^◌, ◌<◌, is_some, List, Some}
use Rattle.stm_history.specs.History.{History}
use Rattle.stm_steps.specs.declared.state.StateEntry.{StateEntry}
use Rattle.stm_entries.specs.Replayed.{Replayed}
use Rattle.stm_journal.specs.StateOf.{IsStateOf}
use Rattle.stm_recipes.specs.Names.{head_key, tail_key}
use Rattle.stm_recipes.specs.Queues.{queue_items_of}
use Rattle.stm_recipes.specs.Slots.{holder_in}
use Rattle.stm_world_laws.specs.Queues.{IsCount, HoldsItems}
use Rattle.stm_world_laws.specs.Slots.{is_held, IsHeldBy}

-- a key that counts to a number of 63 bits, as each does that only recipes have written
pub record IsCounter (h : History) (key : List ℕ) : Type 0 where
  pub number : ℕ
  pub in_range : number < 2 ^ 63
  pub is : IsCount h key number

-- What is read of a queue is what it holds, where its head and its tail count. A reader takes other spellings of a number, too.
pub record ItemsAreRead : Type 0 where
  pub held_is_read : (h : History) (entries : List StateEntry) (queue : List ℕ) (items : List (List ℕ)) → IsStateOf h entries → HoldsItems h queue items
      → queue_items_of entries queue ≡ Some items
  pub read_is_held : (h : History) (entries : List StateEntry) (queue : List ℕ) (items : List (List ℕ)) → IsStateOf h entries
      → IsCounter h (head_key queue) → IsCounter h (tail_key queue) → queue_items_of entries queue ≡ Some items → HoldsItems h queue items

-- Who is read as holding a slot holds it, on some lease, and a slot is held where somebody is read.
pub record HoldersAreRead : Type 0 where
  pub holder : (r : Replayed) (entries : List StateEntry) (slot name : List ℕ) → IsStateOf r.history entries
      → (holder_in entries slot ≡ Some name) ↔ ((lease : ℕ) × IsHeldBy slot name lease r)
  pub held : (r : Replayed) (entries : List StateEntry) (slot : List ℕ) → IsStateOf r.history entries
      → is_held slot r ≡ is_some (holder_in entries slot)
