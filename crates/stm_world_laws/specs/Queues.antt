-- Queues over entries: what is taken out is what was put in, in order.
--
-- The Go package `clientv3/concurrency`, "STM", for what a committed program does. The recipes are our own.
use Rattle.std.specs.Prelude.{◌≡◌, ℕ, ◌+◌, ◌^◌, ◌<◌, List, [], ◌∷◌, ◌++◌, length, Some, None}
use Rattle.std.specs.Fmt.{decimal}
use Rattle.stm_history.specs.declared.key_state.KeyState.{KeyState}
use Rattle.stm_history.specs.History.{History, key_now}
use Rattle.stm_steps.specs.declared.value.Value.{Value}
use Rattle.stm_steps.specs.declared.value.Value.TheVariants.{Number, Text}
use Rattle.stm_entries.specs.declared.entry.Entry.{Entry}
use Rattle.stm_entries.specs.declared.entry.Entry.TheVariants.{Program}
use Rattle.stm_entries.specs.Replayed.{Replayed}
use Rattle.stm_entries.specs.Replay.{replay, replay_entry}
use Rattle.stm_entries.specs.Legal.{AreLegal}
use Rattle.stm_recipes.specs.Names.{head_key, tail_key, items_key}
use Rattle.stm_recipes.specs.Queues.{enqueue_program, dequeue_program}
use Rattle.stm_world_laws.specs.Commits.{IsCommitOf}

-- ---- what a queue holds

-- a key that counts: where it is absent it is 0, and else it is spelled in digits, as `text_of` writes it
pub data IsCount (h : History) (key : List ℕ) (n : ℕ) : Type 0 where
  Absent : key_now h key ≡ None → n ≡ 0 → IsCount h key n
  Spelled : (s : KeyState) → key_now h key ≡ Some s → s.value ≡ decimal n → IsCount h key n

-- the key of the item with a number
abbrev pub place_of : List ℕ → ℕ → List ℕ
place_of queue n = items_key queue ++ decimal n

-- an item stands under its number
pub record IsItem (h : History) (queue : List ℕ) (n : ℕ) (item : List ℕ) : Type 0 where
  pub state : KeyState
  pub is : key_now h (place_of queue n) ≡ Some state
  pub value : state.value ≡ item

-- these items stand under the numbers from here on
abbrev pub AreItems : History → List ℕ → ℕ → List (List ℕ) → Type 0
AreItems h queue n [] = Unit {0}
AreItems h queue n (item ∷ items) = IsItem h queue n item × AreItems h queue (n + 1) items

-- a queue holds these items, from its head up to the one before its tail
pub record HoldsItems (h : History) (queue : List ℕ) (items : List (List ℕ)) : Type 0 where
  pub head : ℕ
  pub tail : ℕ
  pub is_head : IsCount h (head_key queue) head
  pub is_tail : IsCount h (tail_key queue) tail
  pub in_range : tail < 2 ^ 63
  pub count : head + length items ≡ tail
  pub each : AreItems h queue head items

-- ---- entries

pub record IsEnqueue (queue : List ℕ) (e : Entry) : Type 0 where
  pub item : List ℕ
  pub commits : IsCommitOf (enqueue_program queue item) e

abbrev pub IsDequeue : List ℕ → Entry → Type 0
IsDequeue queue e = IsCommitOf (dequeue_program queue) e

-- an entry that leaves the queue's keys as they are
pub record LeavesQueue (queue : List ℕ) (e : Entry) (r : Replayed) : Type 0 where
  pub head : key_now (replay_entry e r).history (head_key queue) ≡ key_now r.history (head_key queue)
  pub tail : key_now (replay_entry e r).history (tail_key queue) ≡ key_now r.history (tail_key queue)
  pub items : (n : ℕ) → key_now (replay_entry e r).history (place_of queue n) ≡ key_now r.history (place_of queue n)

-- what an entry may do to the queue
pub data IsOfQueue (queue : List ℕ) (e : Entry) (r : Replayed) : Type 0 where
  Enqueues : IsEnqueue queue e → IsOfQueue queue e r
  Dequeues : IsDequeue queue e → IsOfQueue queue e r
  Leaves : LeavesQueue queue e r → IsOfQueue queue e r

-- each of these entries, at its point, is an enqueue or a dequeue, or leaves the queue as it is
abbrev pub AreOfQueue : List ℕ → List Entry → Replayed → Type 0
AreOfQueue queue [] r = Unit {0}
AreOfQueue queue (e ∷ es) r = IsOfQueue queue e r × AreOfQueue queue es (replay_entry e r)

-- the texts that were emitted
abbrev pub texts_of : List Value → List (List ℕ)
texts_of [] = []
texts_of (Text t ∷ values) = t ∷ texts_of values
texts_of (Number z ∷ values) = texts_of values

-- what a committed program has emitted, as its entry says
abbrev pub output_of : Entry → List Value
output_of (Program program level answers output trace revision) = output
output_of other = []

abbrev pub added_by : (queue : List ℕ) (e : Entry) (r : Replayed) → IsOfQueue queue e r → List (List ℕ)
added_by queue e r (Enqueues enqueue) = enqueue.item ∷ []
added_by queue e r (Dequeues dequeue) = []
added_by queue e r (Leaves leaves) = []

abbrev pub taken_by : (queue : List ℕ) (e : Entry) (r : Replayed) → IsOfQueue queue e r → List (List ℕ)
taken_by queue e r (Enqueues enqueue) = []
taken_by queue e r (Dequeues dequeue) = texts_of (output_of e)
taken_by queue e r (Leaves leaves) = []

-- the items that were enqueued, in order
abbrev pub all_added : (queue : List ℕ) (es : List Entry) (r : Replayed) → AreOfQueue queue es r → List (List ℕ)
all_added queue [] r of = []
all_added queue (e ∷ es) r of = added_by queue e r of.0 ++ all_added queue es (replay_entry e r) of.1

-- the items that were dequeued, in order: what the dequeues have emitted
abbrev pub all_taken : (queue : List ℕ) (es : List Entry) (r : Replayed) → AreOfQueue queue es r → List (List ℕ)
all_taken queue [] r of = []
all_taken queue (e ∷ es) r of = taken_by queue e r of.0 ++ all_taken queue es (replay_entry e r) of.1

-- ---- the law

-- what a queue holds after entries: the items taken, and then those left, are those that it held and then those added
pub record Kept (queue : List ℕ) (items taken added : List (List ℕ)) (after : History) : Type 0 where
  pub left : List (List ℕ)
  pub holds : HoldsItems after queue left
  pub in_order : taken ++ left ≡ items ++ added

-- A queue neither loses an item nor gives one twice, and gives them in the order in which they came.
abbrev pub QueuesKeepTheirItems : Type 0
QueuesKeepTheirItems =
    (queue : List ℕ) (es : List Entry) (r : Replayed) (items : List (List ℕ)) → 0 < length queue → AreLegal es r → (of : AreOfQueue queue es r) →
    HoldsItems r.history queue items → Kept queue items (all_taken queue es r of) (all_added queue es r of) (replay es r).history
