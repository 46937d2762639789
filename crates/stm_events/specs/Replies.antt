-- What the world replies to the calls of its store that are no runner's.
--
-- etcd's API reference, "Transaction", "Lease", "Watch" and "Compaction": each such call is one of the store, and the reply is its answer.
use Rattle.std.specs.Prelude.{ℕ, Bool, true, false, List, [], map, Option, Some, None, option_map, Result, Ok, Err}
use Rattle.stm_history.specs.declared.key_state.KeyState.{KeyState}
use Rattle.stm_history.specs.declared.key_state.ReadAnswer.{ReadAnswer}
use Rattle.stm_history.specs.History.{History, key_at, mod_of}
use Rattle.stm_outcome.specs.declared.advance.Expired.{Expired}
use Rattle.stm_outcome.specs.declared.answer.OpAnswer.{OpAnswer}
use Rattle.stm_outcome.specs.declared.answer.OpAnswer.TheVariants as answer
use Rattle.stm_outcome.specs.declared.answer.TxnAnswer.{TxnAnswer}
use Rattle.stm_outcome.specs.declared.refusal.Refusal.{Refusal as StoreRefusal}
use Rattle.stm_outcome.specs.declared.refusal.Refusal.TheVariants as store
use Rattle.stm_txn.specs.Standing.{Standing, Step, poll_refused}
use Rattle.stm_watch.specs.declared.watchers.Batch.{Batch}
use Rattle.stm_events.specs.declared.reply.Reply.{Reply}
use Rattle.stm_events.specs.declared.reply.Reply.TheVariants.{Started, Prefetched, Fetched, Committed, Conflict, GaveUp, Aborted, Faulted, Ended}
use Rattle.stm_events.specs.declared.reply.Reply.TheVariants.{Txn, Advanced, Batch as BatchReported, Lost}
use Rattle.stm_events.specs.declared.reply.CommittedRead.{CommittedRead}
use Rattle.stm_events.specs.declared.reply.OpReply.{OpReply}
use Rattle.stm_events.specs.declared.reply.OpReply.TheVariants as op
use Rattle.stm_events.specs.declared.refusal.EventRefusal.{EventRefusal}
use Rattle.stm_events.specs.declared.refusal.EventRefusal.TheVariants as event
use Rattle.stm_events.specs.declared.refusal.Denied.{Denied}

-- ---- what a reply reports of what the store answered

-- an answer that a commit was made on: the value and the modification revision of its key, and the revision that it shows
abbrev pub committed_read : ReadAnswer → CommittedRead
committed_read a =
    record { key = a.key; value = option_map (λ (s : KeyState). s.value) a.kv; mod_rev = mod_of a.kv; of_rev = a.of_rev }

-- a reported answer, as a read of the history gives it: the key as it was at the revision that the answer shows
abbrev pub read_in : History → CommittedRead → ReadAnswer
read_in h a = record { key = a.key; kv = key_at h a.key a.of_rev; of_rev = a.of_rev; revision = a.of_rev }

abbrev pub reads_in : History → List CommittedRead → List ReadAnswer
reads_in h answers = map (read_in h) answers

abbrev pub op_reply : OpAnswer → OpReply
op_reply (answer.Get a) = op.Get a.revision a.kv
op_reply answer.Put = op.Put
op_reply (answer.Del count) = op.Del count

-- a transaction that was made: whether its compares held, the revision after it, and what its operations were answered
abbrev pub txn_reply : TxnAnswer → Reply
txn_reply a = Txn a.succeeded a.revision (map op_reply a.answers)

-- the refusal of an event whose call the store refuses
abbrev pub event_refusal : StoreRefusal → EventRefusal
event_refusal store.OutOfMemory = event.OutOfMemory
event_refusal store.EmptyKey = event.EmptyKey
event_refusal store.FutureRevision = event.FutureRevision
event_refusal store.Compacted = event.Compacted
event_refusal store.RevisionsUsedUp = event.RevisionsUsedUp
event_refusal store.LeaseExists = event.LeaseExists
event_refusal store.TtlOutOfRange = event.TtlOutOfRange
event_refusal store.LeaseIdOutOfRange = event.LeaseIdOutOfRange
event_refusal store.LeaseNotFound = event.LeaseNotFound
event_refusal store.NoWatcher = event.NoWatcher
event_refusal store.TooManyOps = event.TooManyOps
event_refusal store.DuplicateKey = event.DuplicateKey
event_refusal store.TimeGoesBack = event.TimeGoesBack

-- ---- what a reply to a step says of its runner

-- the runner whose step a reply reports
abbrev pub runner_of : Reply → Option ℕ
runner_of (Prefetched runner revision reads) = Some runner
runner_of (Fetched runner key mod_rev of_rev revision) = Some runner
runner_of (Committed runner revision attempts output trace answers) = Some runner
runner_of (Conflict runner key seen now) = Some runner
runner_of (GaveUp runner attempts key seen now) = Some runner
runner_of (Aborted runner text) = Some runner
runner_of (Faulted runner fault) = Some runner
runner_of (Ended runner cause) = Some runner
runner_of other = None

-- the runner whose step, or start, a reply reports
abbrev pub runner_named : Reply → Option ℕ
runner_named (Started runner) = Some runner
runner_named other = runner_of other

-- a run ends by its commit, its last conflict, an abort, a fault or a refusal
abbrev pub ends_run : Reply → Bool
ends_run (Committed runner revision attempts output trace answers) = true
ends_run (GaveUp runner attempts key seen now) = true
ends_run (Aborted runner text) = true
ends_run (Faulted runner fault) = true
ends_run (Ended runner cause) = true
ends_run other = false

-- ---- replies

-- a refusal before which nothing expired
abbrev pub denied : EventRefusal → Result Reply Denied
denied cause = Err (record { cause = cause; expired = [] })

-- the reply to a call of the store, by what it answered
abbrev pub reply_to : {A : Type 0} → (A → Reply) → Result (Step A) StoreRefusal → Result Reply Denied
reply_to report (Ok done) = Ok (report done.answer)
reply_to report (Err cause) = denied (event_refusal cause)

-- the store after a call: a refused one leaves it as it was
abbrev pub store_after_call : {A : Type 0} → Standing → Result (Step A) StoreRefusal → Standing
store_after_call s (Ok done) = done.next
store_after_call s (Err cause) = s

-- the reply to an advance: what expired, also where it was refused
abbrev pub advance_reply : ℕ → List Expired → Option StoreRefusal → Result Reply Denied
advance_reply moment expired None = Ok (Advanced moment expired)
advance_reply moment expired (Some cause) = Err (record { cause = event_refusal cause; expired = expired })

-- the batch of a poll: the events, and up to which revision it completes what the watcher is notified of
abbrev pub batch_reply : ℕ → Batch → Reply
batch_reply watcher batch = BatchReported watcher batch.upto batch.events

-- The reply to a poll of a watcher of a store with this floor: its batch, or that it is lost. (etcd's API reference, "Watch": a watch that is
-- below the compacted revision is cancelled, and its answer has `compact_revision`.)
abbrev pub poll_reply : ℕ → ℕ → Result (Step Batch) StoreRefusal → Result Reply Denied
poll_reply watcher floor (Ok done) = Ok (batch_reply watcher done.answer)
poll_reply watcher floor (Err store.Compacted) = Ok (Lost watcher floor)
poll_reply watcher floor (Err cause) = denied (event_refusal cause)

-- the store after a poll of a watcher: a refused one cancels a watcher that is lost
abbrev pub store_after_poll : ℕ → Standing → Result (Step Batch) StoreRefusal → Standing
store_after_poll watcher s (Ok done) = done.next
store_after_poll watcher s (Err cause) = poll_refused s watcher
