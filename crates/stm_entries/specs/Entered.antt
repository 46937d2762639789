-- What a call of a store is entered as, and what is kept of a commit.
--
-- etcd's API reference, "Transaction" and "Lease": a transaction is one step, and a lease that is due ends with its keys. The Go package
-- `concurrency`, "STM": a program that committed did what it does alone. Which of these are entries is our own.
use Rattle.std.specs.Prelude.{nat_lt, if◌then◌else◌, List, [], ◌∷◌, map, Result, Ok, Err}
use Rattle.stm_history.specs.declared.key_state.ReadAnswer.{ReadAnswer}
use Rattle.stm_history.specs.History.{now}
use Rattle.stm_program.specs.declared.level.Level.{Level}
use Rattle.stm_program.specs.Levels.{is_comparing}
use Rattle.stm_outcome.specs.declared.txn.Txn.{Txn}
use Rattle.stm_outcome.specs.declared.advance.Expired.{Expired}
use Rattle.stm_outcome.specs.declared.refusal.Refusal.{Refusal}
use Rattle.stm_txn.specs.Standing.{Standing}
use Rattle.stm_entries.specs.declared.entry.Entry.{Entry}
use Rattle.stm_entries.specs.declared.entry.Entry.TheVariants.{Foreign, Expire}

-- a call that the store took is this entry; one that it refused is none
abbrev pub if_taken : {A : Type 0} → Result A Refusal → Entry → List Entry
if_taken (Ok done) entry = entry ∷ []
if_taken (Err cause) entry = []

-- a transaction is an entry where it changed something
abbrev pub if_changed : Standing → Standing → Txn → List Entry
if_changed before after txn = if nat_lt (now before.history) (now after.history) then Foreign txn ∷ [] else []

-- each lease that expired is an entry
abbrev pub expiries : List Expired → List Entry
expiries expired = map (λ (e : Expired). Expire e.id) expired

-- What is kept of the answers that a commit was made on: all of them at ReadCommitted, and none at the levels that compare, where its
-- run is that on the state of the commit.
abbrev pub answers_kept : Level → List ReadAnswer → List ReadAnswer
answers_kept level reads = if is_comparing level then [] else reads
