-- What contracts see of a journal.
--
-- etcd's API reference, "Revisions" and "Transaction": one store, one counter, one transaction after another. That what changed a store is
-- kept beside it, with the counter that it began with, is our own.
use Rattle.std.specs.Prelude.{◌≡◌, ◌⊎◌, ℕ, List, [], ◌++◌, Result, Ok, Err, IsOk}
use Rattle.stm_history.specs.History.{now}
use Rattle.stm_outcome.specs.declared.refusal.Refusal.{Refusal}
use Rattle.stm_outcome.specs.declared.refusal.Refusal.TheVariants.{OutOfMemory}
use Rattle.stm_txn.specs.Standing.{Standing}
use Rattle.stm_entries.specs.declared.entry.Entry.{Entry}

-- a journal: its store, what changed it since the journal was made, and the store's counter when it was made
pub record JournalState : Type 0 where
  pub standing : Standing
  pub entries : List Entry
  pub start : ℕ

abbrev pub journal_of : Standing → List Entry → ℕ → JournalState
journal_of standing entries start = record { standing = standing; entries = entries; start = start }

-- a journal that is made over a store
abbrev pub made_over : Standing → JournalState
made_over s = journal_of s [] (now s.history)

-- the journal with its store as it is then, and with more entries
abbrev pub gone_on : JournalState → Standing → List Entry → JournalState
gone_on journal next more = journal_of next (journal.entries ++ more) journal.start

-- the journal with its store as it is then, and no entry more
abbrev pub with_store : JournalState → Standing → JournalState
with_store journal next = journal_of next journal.entries journal.start

-- what a call of a journal answers that is not refused, and the journal after it
pub record JournalStep (A : Type 0) : Type 0 where
  pub answer : A
  pub next : JournalState

-- A call comes to what its definition says. That memory ran out is reported only where the definition answers. A refusal leaves the journal as it
-- was.
abbrev pub JournalReturns : {A : Type 0} → Result (JournalStep A) Refusal → JournalState → Result A Refusal → JournalState → Type 0
JournalReturns defined before (Ok answer) after = defined ≡ Ok record { answer = answer; next = after }
JournalReturns defined before (Err cause) after = ((defined ≡ Err cause) ⊎ ((cause ≡ OutOfMemory) × IsOk defined)) × (after ≡ before)

-- the same, of the store and the entries of a journal, whenever that was made
abbrev pub ReturnsAs : {A : Type 0} → (JournalState → Result (JournalStep A) Refusal) → Result A Refusal → Standing → List Entry → Standing → List Entry → Type 0
ReturnsAs defined result s entries next more = (start : ℕ) →
    JournalReturns (defined (journal_of s entries start)) (journal_of s entries start) result (journal_of next more start)
