-- What a commit comes to, in the words of the run that it commits.
--
-- The documentation of the Go package `clientv3/concurrency`, "STM": the writes are applied, all at once, where no compare
-- fails; else nothing is changed, and the keys read are read again.
use Rattle.std.specs.Prelude.{ℕ, ◌+◌, Bool, ◌||◌, nat_lt, if◌then◌else◌, List, length, Option, None, Some, Result, Ok, Err}
use Rattle.stm_history.specs.declared.key_state.ReadAnswer.{ReadAnswer}
use Rattle.stm_history.specs.History.{History, key_now}
use Rattle.stm_program.specs.declared.level.Level.{Level}
use Rattle.stm_program.specs.declared.level.Level.TheVariants.{SerializableSnapshot, Serializable, RepeatableReads, ReadCommitted}
use Rattle.stm_history.specs.declared.change.Change.{Change}
use Rattle.stm_program.specs.Writes.{latest_writes}
use Rattle.stm_steps.specs.declared.run.Run.{Run}
use Rattle.stm_outcome.specs.declared.answer.FailedCompare.{FailedCompare}
use Rattle.stm_outcome.specs.declared.refusal.Refusal.{Refusal}
use Rattle.stm_outcome.specs.declared.refusal.Refusal.TheVariants.{TooManyOps}
use Rattle.stm_outcome.specs.Compares.{first_failed}
use Rattle.stm_outcome.specs.Terms.{Terms}
use Rattle.stm_outcome.specs.Outcome.{Done}
use Rattle.stm_outcome.specs.Commits.{applied, turned_down}
use Rattle.stm_compile.specs.CommitTxn.{compares_of, reread_keys}

-- how many keys a commit compares, by how many it has read and written
abbrev pub compared : Level → ℕ → ℕ → ℕ
compared SerializableSnapshot reads writes = reads + writes
compared Serializable reads writes = reads
compared RepeatableReads reads writes = reads
compared ReadCommitted reads writes = 0

-- more compares or more writes than the limit of a transaction's operations
abbrev pub sends_too_many : ℕ → Level → List ReadAnswer → List Change → Bool
sends_too_many limit level reads writes =
    nat_lt limit (compared level (length reads) (length writes)) || nat_lt limit (length writes)

-- the first compare that fails, if one does
abbrev pub conflict_now : History → Level → List ReadAnswer → List Change → Option FailedCompare
conflict_now h level reads writes = first_failed (key_now h) 0 (compares_of level reads writes)

-- Where no compare fails the latest writes are applied, all at once: LeaseNotFound where one of them names a lease that is not
-- live, else RevisionsUsedUp where something changes at the highest revision. A failed compare changes nothing: it is reported, with
-- what the keys to be read again are now.
abbrev pub judged : Terms → Level → List ReadAnswer → Run → Option FailedCompare → Result Done Refusal
judged terms level reads run None = applied terms (latest_writes run.writes)
judged terms level reads run (Some failed) = Ok (turned_down terms.history failed (reread_keys level reads))

-- the commit, on these terms, of a run that has read this
abbrev pub committed : Terms → Level → List ReadAnswer → Run → Result Done Refusal
committed terms level reads run =
    if sends_too_many terms.limit level reads (latest_writes run.writes) then Err TooManyOps
    else judged terms level reads run (conflict_now terms.history level reads (latest_writes run.writes))
