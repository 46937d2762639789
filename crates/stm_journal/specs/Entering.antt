-- What the calls of a journal that are no commit make of it.
--
-- etcd's API reference, "Transaction" and "Lease": a transaction is one step; a lease is granted, renewed and revoked, and one that is due ends with
-- its keys. Which of these is an entry is our own.
use Rattle.std.specs.Prelude.{◌≡◌, ◌⊎◌, ℕ, ◌≤◌, List, [], ◌∷◌, Option, None, Some, Result, Ok, Err}
use Rattle.stm_outcome.specs.declared.txn.Txn.{Txn}
use Rattle.stm_outcome.specs.declared.answer.TxnAnswer.{TxnAnswer}
use Rattle.stm_outcome.specs.declared.advance.Expired.{Expired}
use Rattle.stm_outcome.specs.declared.refusal.Refusal.{Refusal}
use Rattle.stm_outcome.specs.declared.refusal.Refusal.TheVariants.{OutOfMemory}
use Rattle.stm_txn.specs.Standing.{Standing, Step, transacted, granted, kept_alive, revoked, at_moment, advanced, HasCome, IsStopped}
use Rattle.stm_entries.specs.declared.entry.Entry.{Entry}
use Rattle.stm_entries.specs.declared.entry.Entry.TheVariants.{Grant, Renew, Revoke}
use Rattle.stm_entries.specs.Entered.{if_changed, expiries}
use Rattle.stm_journal.specs.JournalState.{JournalState, JournalStep, journal_of, gone_on}

-- ---- a transaction of another client

-- it is an entry where it changed something
abbrev pub entered : JournalState → Txn → Result (Step TxnAnswer) Refusal → Result (JournalStep TxnAnswer) Refusal
entered journal txn (Ok step) =
    Ok record { answer = step.answer; next = gone_on journal step.next (if_changed journal.standing step.next txn) }
entered journal txn (Err cause) = Err cause

abbrev pub made : JournalState → Txn → Result (JournalStep TxnAnswer) Refusal
made journal txn = entered journal txn (transacted journal.standing txn)

-- ---- leases

-- a call of the store that is an entry where it is not refused
abbrev pub one_entry : {A : Type 0} → JournalState → Entry → Result (Step A) Refusal → Result (JournalStep A) Refusal
one_entry journal entry (Ok step) = Ok record { answer = step.answer; next = gone_on journal step.next (entry ∷ []) }
one_entry journal entry (Err cause) = Err cause

abbrev pub granted_in : JournalState → ℕ → ℕ → Result (JournalStep (Unit {0})) Refusal
granted_in journal id ttl = one_entry journal (Grant id ttl journal.standing.moment) (granted journal.standing id ttl)

abbrev pub renewed_in : JournalState → ℕ → Result (JournalStep (Unit {0})) Refusal
renewed_in journal id = one_entry journal (Renew id journal.standing.moment) (kept_alive journal.standing id)

abbrev pub revoked_in : JournalState → ℕ → Result (JournalStep ℕ) Refusal
revoked_in journal id = one_entry journal (Revoke id) (revoked journal.standing id)

-- why a call is refused for which room could not be made: the store's cause, or else that memory ran out
abbrev pub or_out_of_memory : Option Refusal → Refusal
or_out_of_memory None = OutOfMemory
or_out_of_memory (Some cause) = cause

-- ---- an advance

-- the journal whose store came to this by expiries
abbrev pub after_expiries : JournalState → Standing → List Expired → JournalState
after_expiries journal left expired = gone_on journal left (expiries expired)

-- what the advance comes to, reported with the leases that expired and why it stopped, if it did
pub record IsAdvanced (before : JournalState) (moment : ℕ) (expired : List Expired) (cause : Option Refusal) (after : JournalState) : Type 0 where
  pub advance : advanced before.standing moment ≡ record { expired = expired; leaves = after.standing; cause = cause }
  pub journal : after ≡ after_expiries before after.standing expired

-- Memory ran out on its way: the moment is set, these leases expired in their order and are entries, and the rest, of which the first could end,
-- stays due.
pub record IsCutShort (before : JournalState) (moment : ℕ) (expired : List Expired) (after : JournalState) : Type 0 where
  pub come : HasCome (at_moment before.standing moment) expired after.standing
  pub stopped : IsStopped (advanced before.standing moment) expired after.standing
  pub journal : after ≡ after_expiries before after.standing expired

-- That memory ran out is reported only of an advance that does not go back. The journal is as it was, or the advance was cut short.
pub record IsWant (before : JournalState) (moment : ℕ) (expired : List Expired) (cause : Refusal) (after : JournalState) : Type 0 where
  pub is_want : cause ≡ OutOfMemory
  pub forward : before.standing.moment ≤ moment
  pub left : ((expired ≡ []) × (after ≡ before)) ⊎ IsCutShort before moment expired after

-- an advance that stopped: for its definition's cause, or since memory ran out
abbrev pub HasStopped : JournalState → ℕ → List Expired → Refusal → JournalState → Type 0
HasStopped before moment expired cause after = IsAdvanced before moment expired (Some cause) after ⊎ IsWant before moment expired cause after

-- the same, of the store and the entries of a journal, whenever that was made
abbrev pub AdvancesTo : ℕ → List Expired → Standing → List Entry → Standing → List Entry → Type 0
AdvancesTo moment expired s entries next more = (start : ℕ) → IsAdvanced (journal_of s entries start) moment expired None (journal_of next more start)

abbrev pub StopsAt : ℕ → List Expired → Refusal → Standing → List Entry → Standing → List Entry → Type 0
StopsAt moment expired cause s entries next more =
    (start : ℕ) → HasStopped (journal_of s entries start) moment expired cause (journal_of next more start)
