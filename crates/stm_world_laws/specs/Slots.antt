-- Slots over entries: keys that one holder at a time may have.
--
-- The Go package `clientv3/concurrency`, "STM", for what a committed program does; etcd's API reference, "Lease", for the keys that go
-- with a lease. The recipes are our own.
use Rattle.std.specs.Prelude.{◌≡◌, ◌⊎◌, ℕ, ◌<◌, Bool, true, false, is_some, List, [], ◌∷◌, ◌++◌, length, Some}
use Rattle.stm_history.specs.declared.key_state.KeyState.{KeyState}
use Rattle.stm_history.specs.History.{key_now}
use Rattle.stm_entries.specs.declared.entry.Entry.{Entry}
use Rattle.stm_entries.specs.Replayed.{Replayed}
use Rattle.stm_entries.specs.Replay.{replay, replay_entry}
use Rattle.stm_entries.specs.Legal.{IsLegal, AreLegal}
use Rattle.stm_recipes.specs.Slots.{reserve_program, release_program}
use Rattle.stm_world_laws.specs.Commits.{IsCommitOf, IsEndOfLease}

pub record IsReservation (slot : List ℕ) (e : Entry) : Type 0 where
  pub holder : List ℕ
  pub lease : ℕ
  pub commits : IsCommitOf (reserve_program slot holder lease) e

pub record IsRelease (slot : List ℕ) (e : Entry) : Type 0 where
  pub holder : List ℕ
  pub commits : IsCommitOf (release_program slot holder) e

-- somebody holds the slot
abbrev pub is_held : List ℕ → Replayed → Bool
is_held slot r = is_some (key_now r.history slot)

-- the slot is a holder's, on a lease (0 for none)
pub record IsHeldBy (slot holder : List ℕ) (lease : ℕ) (r : Replayed) : Type 0 where
  pub state : KeyState
  pub is : key_now r.history slot ≡ Some state
  pub value : state.value ≡ holder
  pub on : state.lease ≡ lease

-- an entry that leaves the slot as it is
abbrev pub LeavesSlot : List ℕ → Entry → Replayed → Type 0
LeavesSlot slot e r = key_now (replay_entry e r).history slot ≡ key_now r.history slot

-- each of these entries, at its point, is a reservation or a release of the slot, or the end of a lease, or leaves the slot as it is
abbrev pub AreOfSlot : List ℕ → List Entry → Replayed → Type 0
AreOfSlot slot [] r = Unit {0}
AreOfSlot slot (e ∷ es) r =
    (IsReservation slot e ⊎ IsRelease slot e ⊎ IsEndOfLease e ⊎ LeavesSlot slot e r) × AreOfSlot slot es (replay_entry e r)

-- One of these entries frees the slot: it was held until then, and a release commits, or a lease ends with which it is deleted.
pub record IsFreed (slot : List ℕ) (es : List Entry) (r : Replayed) : Type 0 where
  pub front : List Entry
  pub by : Entry
  pub rest : List Entry
  pub parts : es ≡ front ++ by ∷ rest
  pub held : is_held slot (replay front r) ≡ true
  pub freed : is_held slot (replay_entry by (replay front r)) ≡ false
  pub how : IsRelease slot by ⊎ IsEndOfLease by

-- A reservation commits only where the slot is free, and then it is its holder's.
abbrev pub ReservationsTakeFreeSlots : Type 0
ReservationsTakeFreeSlots =
    (slot : List ℕ) (e : Entry) (r : Replayed) (reserves : IsReservation slot e) → 0 < length slot → IsLegal e r →
    (is_held slot r ≡ false) × IsHeldBy slot reserves.holder reserves.lease (replay_entry e r)

-- Between two reservations the slot is freed, where only its recipes and the ends of leases change it.
abbrev pub SlotsAreFreedBetween : Type 0
SlotsAreFreedBetween =
    (slot : List ℕ) (first second : Entry) (between : List Entry) (r : Replayed) → 0 < length slot →
    AreLegal (first ∷ between ++ second ∷ []) r → IsReservation slot first → IsReservation slot second →
    AreOfSlot slot between (replay_entry first r) → IsFreed slot between (replay_entry first r)
