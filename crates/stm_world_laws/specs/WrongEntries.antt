-- Wrong entries of recipes, which show what the laws of accounts, queues and slots rule out.
use Rattle.std.specs.Prelude.{◌≡◌, ◌≢◌, ℕ, ◌<◌, ℤ, pos, ◌+ℤ◌, int_lt, not, Bool, true, false, List, [], ◌∷◌, ◌++◌, length, Option, None, Some, slice_get}
use Rattle.stm_entries.specs.declared.entry.Entry.{Entry}
use Rattle.stm_entries.specs.Replayed.{Replayed}
use Rattle.stm_entries.specs.Replay.{replay, replay_entry}
use Rattle.stm_entries.specs.Legal.{IsLegal, AreLegal}
use Rattle.stm_recipes.specs.Accounts.{transfer_program}
use Rattle.stm_recipes.specs.Slots.{release_program}
use Rattle.stm_world_laws.specs.Commits.{IsCommitOf}
use Rattle.stm_world_laws.specs.Accounts.{balance_now, total_now, AreAccounts, AreOfAccounts, deposits_of}
use Rattle.stm_world_laws.specs.Queues.{HoldsItems, IsDequeue, AreOfQueue, all_added, all_taken}
use Rattle.stm_world_laws.specs.Slots.{IsReservation, is_held, IsHeldBy, LeavesSlot}

-- ---- accounts

-- an account with this number, if it has one, can pay the amount
abbrev pub can_pay : Option ℤ → ℕ → Bool
can_pay None amount = false
can_pay (Some balance) amount = not (int_lt balance (pos amount))

pub record WrongTransfers : Type 0 where
  -- a transfer of more than the paying account has, or from one that has no number
  pub out_of_nothing : (e : Entry) (r : Replayed) (from to : List ℕ) (amount : ℕ) → 0 < length from → 0 < length to
      → can_pay (balance_now r.history from) amount ≡ false → IsCommitOf (transfer_program from to amount) e → IsLegal e r → ⊥
  -- a total that grew by another amount than the deposits
  pub another_total : (accounts : List (List ℕ)) (es : List Entry) (r : Replayed) (before after : ℤ) → AreAccounts accounts → AreLegal es r
      → (of : AreOfAccounts accounts es r) → total_now r.history accounts ≡ Some before → total_now (replay es r).history accounts ≡ Some after
      → after ≢ before +ℤ deposits_of accounts es r of → ⊥

-- ---- queues

pub record WrongDequeues : Type 0 where
  -- a dequeue of a queue that holds nothing
  pub from_nothing : (queue : List ℕ) (e : Entry) (r : Replayed) → 0 < length queue → HoldsItems r.history queue [] → IsDequeue queue e → IsLegal e r → ⊥
  -- an item out of turn: another one than the next of those that were held and then added, so also one that was taken before
  pub out_of_turn : (queue : List ℕ) (es : List Entry) (r : Replayed) (items : List (List ℕ)) (n : ℕ) (taken due : List ℕ) → 0 < length queue
      → HoldsItems r.history queue items → AreLegal es r → (of : AreOfQueue queue es r) → slice_get (all_taken queue es r of) n ≡ Some taken
      → slice_get (items ++ all_added queue es r of) n ≡ Some due → taken ≢ due → ⊥
  -- more items than were held and added
  pub too_many : (queue : List ℕ) (es : List Entry) (r : Replayed) (items : List (List ℕ)) → 0 < length queue → HoldsItems r.history queue items
      → AreLegal es r → (of : AreOfQueue queue es r) → length (items ++ all_added queue es r of) < length (all_taken queue es r of) → ⊥

-- ---- slots

-- each of these entries, at its point, leaves the slot as it is
abbrev pub AllLeaveSlot : List ℕ → List Entry → Replayed → Type 0
AllLeaveSlot slot [] r = Unit {0}
AllLeaveSlot slot (e ∷ es) r = LeavesSlot slot e r × AllLeaveSlot slot es (replay_entry e r)

pub record WrongReservations : Type 0 where
  -- a reservation of a slot that is held
  pub of_held : (slot : List ℕ) (e : Entry) (r : Replayed) → 0 < length slot → is_held slot r ≡ true → IsReservation slot e → IsLegal e r → ⊥
  -- a second reservation, where nothing has changed the slot since the first
  pub twice : (slot : List ℕ) (first second : Entry) (between : List Entry) (r : Replayed) → 0 < length slot → IsReservation slot first
      → IsReservation slot second → AreLegal (first ∷ between ++ second ∷ []) r → AllLeaveSlot slot between (replay_entry first r) → ⊥
  -- a release by another than the one who holds the slot
  pub by_another : (slot holder other : List ℕ) (lease : ℕ) (e : Entry) (r : Replayed) → 0 < length slot → IsHeldBy slot holder lease r → holder ≢ other
      → IsCommitOf (release_program slot other) e → IsLegal e r → ⊥
