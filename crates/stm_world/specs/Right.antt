-- When a reply is right after a log, whatever made it.
--
-- The Go package `concurrency`, "STM" and "Isolation", and etcd's API reference, "Transaction", "Lease", "Watch" and "Compaction".
-- Nothing here knows how a world makes its replies: a line is judged by the lines before it.
use Rattle.std.specs.Prelude.{◌≡◌, ◌≢◌, ◌⊎◌, ℕ, ◌+◌, ◌<◌, ◌≤◌, true, false, List, [], ◌∷◌, length, map, Option, Some, None, Result, Ok, Err}
use Rattle.stm_history.specs.declared.key_state.ReadAnswer.{ReadAnswer}
use Rattle.stm_history.specs.History.{now, key_at, mod_of}
use Rattle.stm_program.specs.Writes.{latest_writes}
use Rattle.stm_steps.specs.declared.value.Value.{Value}
use Rattle.stm_steps.specs.declared.trace_item.TraceItem.{TraceItem}
use Rattle.stm_steps.specs.declared.run.End.{End}
use Rattle.stm_steps.specs.declared.run.End.TheVariants.{Done as DoneEnd, Aborted as AbortedEnd, Faulted as FaultedEnd}
use Rattle.stm_steps.specs.declared.run.Run.{Run}
use Rattle.stm_steps.specs.declared.run.Answered.TheVariants.{Ended as EndedRun, Wants}
use Rattle.stm_meaning.specs.Meaning.{run_over}
use Rattle.stm_outcome.specs.declared.answer.FailedCompare.{FailedCompare}
use Rattle.stm_outcome.specs.declared.refusal.Refusal.{Refusal as StoreRefusal}
use Rattle.stm_outcome.specs.declared.refusal.Refusal.TheVariants.{TooManyOps as TooManyOpsRefusal, Compacted as CompactedRefusal}
use Rattle.stm_outcome.specs.Outcome.{Done}
use Rattle.stm_outcome.specs.Commits.{revision_read}
use Rattle.stm_txn.specs.Standing.{Standing, Setup, terms_of}
use Rattle.stm_outcome.specs.Terms.{is_below_floor}
use Rattle.stm_compile.specs.Committed.{committed}
use Rattle.stm_compile.specs.Conflicts.{IsConflict}
use Rattle.stm_attempt.specs.Settled.{run_on}
use Rattle.stm_attempt.specs.Entering.{is_due}
use Rattle.stm_attempt.specs.Fetches.{at_of}
use Rattle.stm_entries.specs.Replayed.{without_moment}
use Rattle.stm_entries.specs.Alone.{seen_at, applied_run}
use Rattle.stm_entries.specs.Entered.{answers_kept}
use Rattle.stm_events.specs.declared.event.WorldEvent.{WorldEvent}
use Rattle.stm_events.specs.declared.reply.Reply.{Reply}
use Rattle.stm_events.specs.declared.reply.Reply.TheVariants.{Started, Prefetched, Fetched, Committed, Conflict, GaveUp, Aborted, Faulted, Ended}
use Rattle.stm_events.specs.declared.reply.KeyRead.{KeyRead}
use Rattle.stm_events.specs.declared.reply.CommittedRead.{CommittedRead}
use Rattle.stm_events.specs.declared.refusal.EventRefusal.{EventRefusal}
use Rattle.stm_events.specs.declared.refusal.EventRefusal.TheVariants.{BadLimit, NoRunner}
use Rattle.stm_events.specs.declared.refusal.Denied.{Denied}
use Rattle.stm_events.specs.Replies.{committed_read, event_refusal, denied}
use Rattle.stm_events.specs.Called.{Asked, Starts, Steps, Calls, asked, called}
use Rattle.stm_world.specs.Task.{Task, modified_now}
use Rattle.stm_events.specs.FirstReads.{keys_first_read}
use Rattle.stm_world.specs.Asked.{keys_read}
use Rattle.stm_world.specs.Log.{Line, running, started, failures, store, known_after_log}

-- Where a runner stands: its number, its task, what it has read in its attempt (with the prefetched answers that it took), the
-- conflicts that were reported to it, and the store.
pub record Situation : Type 0 where
  pub id : ℕ
  pub task : Task
  pub reads : List ReadAnswer
  pub failures : ℕ
  pub store : Standing

-- The list is not read yet. All keys of it are fetched as they are now, in its order, which the store takes. What is reported is true.
pub record IsPrefetch (at : Situation) (revision : ℕ) (reads : List KeyRead) : Type 0 where
  pub due : is_due at.task.program.prefetch at.reads ≡ true
  pub few : length at.task.program.prefetch ≤ at.store.limit
  pub shows : reads ≡ map (modified_now at.store.history) at.task.program.prefetch
  pub carries : revision ≡ now at.store.history

-- the list is not read yet, and has more keys than the store takes operations
pub record IsOverfull (at : Situation) : Type 0 where
  pub due : is_due at.task.program.prefetch at.reads ≡ true
  pub many : at.store.limit < length at.task.program.prefetch

-- the list is read, or there is none
abbrev pub HasList : Situation → Type 0
HasList at = is_due at.task.program.prefetch at.reads ≡ false

-- The program wants a key, which is fetched at the revision of its level: the base at the serializable levels, where something
-- was read, else the current one. The base is not compacted. What is reported is true.
pub record IsFetch (at : Situation) (key : List ℕ) (mod_rev of_rev revision : ℕ) : Type 0 where
  pub has_list : HasList at
  pub trace : List TraceItem
  pub wants : run_on at.task.program at.reads ≡ Wants key trace
  pub readable : is_below_floor at.store.floor (at_of at.task.level at.reads) ≡ false
  pub shows : of_rev ≡ revision_read at.store.history (at_of at.task.level at.reads)
  pub modified : mod_rev ≡ mod_of (key_at at.store.history key of_rev)
  pub carries : revision ≡ now at.store.history

-- the program wants a key, and its base is compacted
pub record HasCompactedBase (at : Situation) : Type 0 where
  pub has_list : HasList at
  pub key : List ℕ
  pub trace : List TraceItem
  pub wants : run_on at.task.program at.reads ≡ Wants key trace
  pub compacted : is_below_floor at.store.floor (at_of at.task.level at.reads) ≡ true

-- the program came to this end on what it read
pub record EndsWith (at : Situation) (end : End) : Type 0 where
  pub has_list : HasList at
  pub run : Run
  pub is_run : run_on at.task.program at.reads ≡ EndedRun run
  pub ended : run.end ≡ end

-- The program is done on what it read, and this is what its commit comes to.
pub record Commits (at : Situation) (outcome : Result Done StoreRefusal) : Type 0 where
  pub has_list : HasList at
  pub run : Run
  pub is_run : run_on at.task.program at.reads ≡ EndedRun run
  pub is_done : run.end ≡ DoneEnd
  pub comes_to : committed (terms_of at.store) at.task.level at.reads run ≡ outcome

-- A commit that succeeds: at a comparing level output and trace are those of the program run alone on the state of this
-- moment, at ReadCommitted those of its run on what it read, which is reported. The last write of each key of this run, with nothing compared, is
-- what the commit changes in the store. What it read are the keys of its list, and then the others that the run reads, in the order of its first reads.
pub record IsCommitted (at : Situation) (revision : ℕ) (output : List Value) (trace : List TraceItem) (answers : List CommittedRead) : Type 0 where
  pub done : Done
  pub commits : Commits at (Ok done)
  pub succeeds : done.answer.failed ≡ None
  pub is_alone : run_over (seen_at at.task.level at.reads at.store.history) at.task.program.statements ≡ EndedRun commits.run
  pub emits : output ≡ commits.run.output
  pub sees : trace ≡ commits.run.trace
  pub changes : applied_run (without_moment at.store) commits.run ≡ Ok done
  pub reached : revision ≡ now done.history
  pub reported : answers ≡ map committed_read (answers_kept at.task.level at.reads)
  pub in_order : keys_first_read at.task.program.prefetch commits.run.reads ≡ keys_read at.reads

-- A commit that fails changes nothing: a compare failed, it is about this key, and it is a conflict.
pub record IsConflicted (at : Situation) (key : List ℕ) (seen now_modified : ℕ) : Type 0 where
  pub done : Done
  pub commits : Commits at (Ok done)
  pub failed : FailedCompare
  pub fails : done.answer.failed ≡ Some failed
  pub unchanged : done.history ≡ at.store.history
  pub conflict : IsConflict at.store.history at.reads (latest_writes commits.run.writes) failed
  pub about : key ≡ conflict.seen.key
  pub was : seen ≡ conflict.seen.mod_rev
  pub is : now_modified ≡ failed.mod_rev

-- The store refuses what the step asks of it: the commit of a program that is done, or, as compacted, a fetch at the base of the attempt, or, as too
-- many operations, the fetch of the list.
abbrev pub IsRefused : Situation → StoreRefusal → Type 0
IsRefused at cause = Commits at (Err cause) ⊎ ((cause ≡ CompactedRefusal) × HasCompactedBase at) ⊎ ((cause ≡ TooManyOpsRefusal) × IsOverfull at)

-- the run is ended by a refusal of the store, which is reported under its name
pub record IsEndedBy (at : Situation) (cause : EventRefusal) : Type 0 where
  pub by_store : StoreRefusal
  pub named : cause ≡ event_refusal by_store
  pub refused : IsRefused at by_store

-- A reply to the step of a runner that runs. It names this runner; no run sends more commits than it may, and it gives up exactly at the
-- last of them.
abbrev pub ReplyIsRight : Situation → Reply → Type 0
ReplyIsRight at (Prefetched runner revision reads) = (runner ≡ at.id) × IsPrefetch at revision reads
ReplyIsRight at (Fetched runner key mod_rev of_rev revision) = (runner ≡ at.id) × IsFetch at key mod_rev of_rev revision
ReplyIsRight at (Committed runner revision attempts output trace answers) =
    (runner ≡ at.id) × (attempts ≡ at.failures + 1) × (attempts ≤ at.task.limit) × IsCommitted at revision output trace answers
ReplyIsRight at (Conflict runner key seen now) = (runner ≡ at.id) × (at.failures + 1 < at.task.limit) × IsConflicted at key seen now
ReplyIsRight at (GaveUp runner attempts key seen now) =
    (runner ≡ at.id) × (attempts ≡ at.failures + 1) × (attempts ≡ at.task.limit) × IsConflicted at key seen now
ReplyIsRight at (Aborted runner text) = (runner ≡ at.id) × EndsWith at (AbortedEnd text)
ReplyIsRight at (Faulted runner fault) = (runner ≡ at.id) × EndsWith at (FaultedEnd fault)
ReplyIsRight at (Ended runner cause) = (runner ≡ at.id) × IsEndedBy at cause
ReplyIsRight at other = ⊥

-- a step of a runner that runs is never refused
abbrev pub StepIsRight : Situation → Result Reply Denied → Type 0
StepIsRight at (Ok reply) = ReplyIsRight at reply
StepIsRight at (Err refusal) = ⊥

-- where a runner stands after a log
abbrev pub situation : Setup → List Line → ℕ → Task → Situation
situation start log id task = record {
  id = id;
  task = task;
  reads = (known_after_log start id task log).reads;
  failures = failures id log;
  store = store start log;
}

-- a step is refused exactly where the runner was not started or its run is over
abbrev pub RunnerIsRight : Setup → List Line → ℕ → Option Task → Result Reply Denied → Type 0
RunnerIsRight start log id None reply = reply ≡ denied NoRunner
RunnerIsRight start log id (Some task) reply = StepIsRight (situation start log id task) reply

-- a start gets the next number, and is refused exactly where it may send no commit
abbrev pub StartIsRight : ℕ → ℕ → Result Reply Denied → Type 0
StartIsRight count limit (Ok reply) = (reply ≡ Started (count + 1)) × (limit ≢ 0)
StartIsRight count limit (Err refusal) = (refusal ≡ record { cause = BadLimit; expired = [] }) × (limit ≡ 0)

abbrev pub IsRightAsked : Setup → List Line → Asked → Result Reply Denied → Type 0
IsRightAsked start log (Starts program level limit) reply = StartIsRight (started log) limit reply
IsRightAsked start log (Steps id) reply = RunnerIsRight start log id (running id log) reply
IsRightAsked start log (Calls c) reply = reply ≡ (called (store start log) c).reply

-- the reply to an event after a log, in a world whose store opened so
abbrev pub IsRight : Setup → List Line → WorldEvent → Result Reply Denied → Type 0
IsRight start log event reply = IsRightAsked start log (asked event) reply

-- each line of a log is right after the lines before it
abbrev pub AreRight : Setup → List Line → Type 0
AreRight start [] = Unit {0}
AreRight start (line ∷ older) = IsRight start older line.event line.reply × AreRight start older
