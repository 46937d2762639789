-- Recipes over all that happens in a world, from the opening of its store on.
use Rattle.std.specs.Prelude.{◌≡◌, ℕ, ◌<◌, ℤ, ◌+ℤ◌, List, [], ◌∷◌, ◌++◌, length, Some}
use Rattle.stm_history.specs.History.{History}
use Rattle.stm_entries.specs.declared.entry.Entry.{Entry}
use Rattle.stm_entries.specs.Replayed.{opening}
use Rattle.stm_entries.specs.Replay.{replay, replay_entry}
use Rattle.stm_events.specs.declared.event.WorldEvent.{WorldEvent}
use Rattle.stm_world.specs.World.{opened, world_after}
use Rattle.stm_world_laws.specs.Accounts.{total_now, counted_total, AreAccounts, AreOfAccounts, deposits_of}
use Rattle.stm_world_laws.specs.Queues.{AreOfQueue, all_added, all_taken, Kept}
use Rattle.stm_world_laws.specs.Slots.{IsReservation, AreOfSlot, IsFreed}
use Rattle.stm_txn.specs.Standing.{Setup}

-- the entries of a world whose store opened so, after these events
abbrev pub entries_after : Setup → List WorldEvent → List Entry
entries_after start events = (world_after events (opened start)).entries

-- the history of its store
abbrev pub history_after : Setup → List WorldEvent → History
history_after start events = (world_after events (opened start)).standing.history

pub record RecipesInWorlds : Type 0 where
  -- from the point on where each account has a number, the total grows by the deposits
  pub totals : (start : Setup) (events : List WorldEvent) (accounts : List (List ℕ)) (front rest : List Entry) (total : ℤ) → AreAccounts accounts
      → entries_after start events ≡ front ++ rest → (of : AreOfAccounts accounts rest (replay front (opening start.revision)))
      → total_now (replay front (opening start.revision)).history accounts ≡ Some total
      → total_now (history_after start events) accounts ≡ Some (total +ℤ deposits_of accounts rest (replay front (opening start.revision)) of)
  -- what accounts have in all, an absent one counting as 0, is what was deposited
  pub deposits : (start : Setup) (events : List WorldEvent) (accounts : List (List ℕ)) (es : List Entry) → AreAccounts accounts
      → entries_after start events ≡ es → (of : AreOfAccounts accounts es (opening start.revision))
      → counted_total (history_after start events) accounts ≡ Some (deposits_of accounts es (opening start.revision) of)
  -- the items that were taken, and then those that the queue holds, are those that were added, in order
  pub items : (start : Setup) (events : List WorldEvent) (queue : List ℕ) (es : List Entry) → 0 < length queue → entries_after start events ≡ es
      → (of : AreOfQueue queue es (opening start.revision))
      → Kept queue [] (all_taken queue es (opening start.revision) of) (all_added queue es (opening start.revision) of) (history_after start events)
  -- between two reservations of a slot it is freed
  pub holders : (start : Setup) (events : List WorldEvent) (slot : List ℕ) (front between rest : List Entry) (first second : Entry) → 0 < length slot
      → entries_after start events ≡ front ++ (first ∷ between ++ second ∷ rest) → IsReservation slot first → IsReservation slot second
      → AreOfSlot slot between (replay_entry first (replay front (opening start.revision)))
      → IsFreed slot between (replay_entry first (replay front (opening start.revision)))
