-- Wrong logs, which show what being right rules out.
use Rattle.std.specs.Prelude.{◌≡◌, ◌≢◌, ℕ, ◌+◌, ◌<◌, ◌≤◌, true, false, List, [], ◌∷◌, length, Some, None, Result, Ok, Err}
use Rattle.stm_history.specs.History.{now}
use Rattle.stm_program.specs.Syntax.{ProgramTree}
use Rattle.stm_program.specs.declared.level.Level.{Level}
use Rattle.stm_steps.specs.declared.fault.Fault.{Fault}
use Rattle.stm_steps.specs.declared.run.End.TheVariants.{Done}
use Rattle.stm_steps.specs.declared.run.Run.{Run}
use Rattle.stm_steps.specs.declared.run.Answered.TheVariants.{Ended, Wants}
use Rattle.stm_steps.specs.declared.trace_item.TraceItem.{TraceItem}
use Rattle.stm_steps.specs.declared.value.Value.{Value}
use Rattle.stm_meaning.specs.Meaning.{run_over}
use Rattle.stm_outcome.specs.Outcome.{Done as StoreDone}
use Rattle.stm_outcome.specs.Terms.{is_below_floor}
use Rattle.stm_keys.specs.declared.event.Event.{Event}
use Rattle.stm_watch.specs.Watching.{Watching}
use Rattle.stm_watch.specs.Pending.{pending}
use Rattle.stm_watch.specs.Calls.{watcher_at}
use Rattle.stm_attempt.specs.Settled.{run_on}
use Rattle.stm_attempt.specs.Entering.{is_due}
use Rattle.stm_attempt.specs.Fetches.{at_of}
use Rattle.stm_entries.specs.Replayed.{without_moment}
use Rattle.stm_entries.specs.Alone.{seen_at, applied_run}
use Rattle.stm_events.specs.declared.event.WorldEvent.{WorldEvent}
use Rattle.stm_events.specs.declared.event.WorldEvent.TheVariants.{Start, Step, Poll, Compact}
use Rattle.stm_events.specs.declared.reply.Reply.{Reply}
use Rattle.stm_events.specs.declared.reply.Reply.TheVariants.{Started, Prefetched, Fetched, Committed, Conflict, GaveUp, Aborted, Faulted, Ended as EndedReply, Batch, Compacted, Lost}
use Rattle.stm_events.specs.declared.reply.KeyRead.{KeyRead}
use Rattle.stm_events.specs.declared.reply.CommittedRead.{CommittedRead}
use Rattle.stm_events.specs.declared.refusal.EventRefusal.{EventRefusal}
use Rattle.stm_events.specs.declared.refusal.Denied.{Denied}
use Rattle.stm_events.specs.Replies.{runner_of}
use Rattle.stm_world.specs.Task.{Task}
use Rattle.stm_world.specs.Log.{Line, begun, running, failures, store, known_after_log}
use Rattle.stm_world.specs.Right.{IsRight, AreRight}
use Rattle.stm_world.specs.World.{World}
use Rattle.stm_world.specs.Headline.{Holds}
use Rattle.stm_txn.specs.Standing.{Setup}

pub record WrongLogs : Type 0 where
  -- a world that answers no event, whatever it has come to
  pub no_answer : (start : Setup) (event : WorldEvent) (events : List WorldEvent) (w : World) → Holds start (event ∷ events) [] w → ⊥
  -- a world that stops answering before the last event, or answers what was not asked
  pub not_each_answered : (start : Setup) (events : List WorldEvent) (replies : List (Result Reply Denied)) (w : World) → length replies ≢ length events
      → Holds start events replies w → ⊥
  -- a runner that runs is not refused a step, for NoRunner or anything else
  pub causeless_refusal : (start : Setup) (log : List Line) (id : ℕ) (task : Task) (refusal : Denied) → running id log ≡ Some task
      → IsRight start log (Step id) (Err refusal) → ⊥
  -- a start that may send a commit is not refused
  pub refused_start : (start : Setup) (log : List Line) (program : ProgramTree) (level : Level) (limit : ℕ) (refusal : Denied) → limit ≢ 0
      → IsRight start log (Start program level limit) (Err refusal) → ⊥
  -- a number that a start was given is given to no other
  pub number_given_twice : (start : Setup) (log : List Line) (id : ℕ) (task : Task) (program : ProgramTree) (level : Level) (limit : ℕ)
      → AreRight start log → begun id log ≡ Some task → IsRight start log (Start program level limit) (Ok (Started id)) → ⊥
  -- a runner that was not started, or has ended, has no step
  pub step_of_none : (start : Setup) (log : List Line) (id : ℕ) (reply : Reply) → running id log ≡ None → IsRight start log (Step id) (Ok reply) → ⊥
  -- the reply to a runner's step names no other runner
  pub another_runner : (start : Setup) (log : List Line) (id runner : ℕ) (reply : Reply) → runner_of reply ≡ Some runner → runner ≢ id
      → IsRight start log (Step id) (Ok reply) → ⊥
  -- a program that is done on what was reported to it has not aborted
  pub another_abort : (start : Setup) (log : List Line) (id : ℕ) (task : Task) (run : Run) (text : List ℕ) → running id log ≡ Some task
      → run_on task.program (known_after_log start id task log).reads ≡ Ended run → run.end ≡ Done
      → IsRight start log (Step id) (Ok (Aborted id text)) → ⊥
  -- no run sends more commits than it may, the one that succeeds among them
  pub commit_beyond_limit : (start : Setup) (log : List Line) (id : ℕ) (task : Task) (revision attempts : ℕ) (output : List Value) (trace : List TraceItem)
      (answers : List CommittedRead) → running id log ≡ Some task → task.limit < attempts
      → IsRight start log (Step id) (Ok (Committed id revision attempts output trace answers)) → ⊥
  -- nor does it go on after the conflict of the last commit that it may send
  pub conflict_of_the_last : (start : Setup) (log : List Line) (id : ℕ) (task : Task) (key : List ℕ) (seen now_modified : ℕ) → running id log ≡ Some task
      → task.limit ≤ failures id log + 1 → IsRight start log (Step id) (Ok (Conflict id key seen now_modified)) → ⊥
  -- a commit leads to no other revision than what its program's run, alone at this moment, makes of the store
  pub another_revision : (start : Setup) (log : List Line) (id : ℕ) (task : Task) (run : Run) (alone : StoreDone) (revision attempts : ℕ) (output : List Value)
      (trace : List TraceItem) (answers : List CommittedRead) → running id log ≡ Some task
      → run_over (seen_at task.level (known_after_log start id task log).reads (store start log).history) task.program.statements ≡ Ended run
      → applied_run (without_moment (store start log)) run ≡ Ok alone → revision ≢ now alone.history
      → IsRight start log (Step id) (Ok (Committed id revision attempts output trace answers)) → ⊥
  -- a watcher that is there is not refused a poll, for NoWatcher or anything else
  pub refused_poll : (start : Setup) (log : List Line) (id most : ℕ) (w : Watching) (refusal : Denied)
      → watcher_at id (store start log).watchers ≡ Some w → IsRight start log (Poll id most) (Err refusal) → ⊥
  -- a watcher that was not made, or was cancelled, has no batch
  pub poll_of_none : (start : Setup) (log : List Line) (id most : ℕ) (reply : Reply) → watcher_at id (store start log).watchers ≡ None
      → IsRight start log (Poll id most) (Ok reply) → ⊥
  -- the reply to a poll of a watcher names no other watcher
  pub another_watcher : (start : Setup) (log : List Line) (id most watcher upto : ℕ) (events : List Event) → watcher ≢ id
      → IsRight start log (Poll id most) (Ok (Batch watcher upto events)) → ⊥
  -- where no events are pending, none is reported
  pub event_not_pending : (start : Setup) (log : List Line) (id most upto : ℕ) (w : Watching) (event : Event) (events : List Event)
      → watcher_at id (store start log).watchers ≡ Some w → pending (store start log).history w ≡ []
      → IsRight start log (Poll id most) (Ok (Batch id upto (event ∷ events))) → ⊥
  -- a watcher that is lost is reported as lost: it does not pass over what was compacted
  pub batch_of_lost : (start : Setup) (log : List Line) (id most watcher upto : ℕ) (w : Watching) (events : List Event)
      → watcher_at id (store start log).watchers ≡ Some w → w.lost ≡ true → IsRight start log (Poll id most) (Ok (Batch watcher upto events)) → ⊥
  -- and no other is
  pub not_lost : (start : Setup) (log : List Line) (id most watcher floor : ℕ) (w : Watching) → watcher_at id (store start log).watchers ≡ Some w
      → w.lost ≡ false → IsRight start log (Poll id most) (Ok (Lost watcher floor)) → ⊥
  -- at a base that is compacted nothing is fetched
  pub fetch_below : (start : Setup) (log : List Line) (id : ℕ) (task : Task) (key : List ℕ) (mod_rev of_rev revision : ℕ) → running id log ≡ Some task
      → is_below_floor (store start log).floor (at_of task.level (known_after_log start id task log).reads) ≡ true
      → IsRight start log (Step id) (Ok (Fetched id key mod_rev of_rev revision)) → ⊥
  -- at one that is not, the store refuses no fetch
  pub refused_fetch : (start : Setup) (log : List Line) (id : ℕ) (task : Task) (key : List ℕ) (trace : List TraceItem) (cause : EventRefusal)
      → running id log ≡ Some task → is_due task.program.prefetch (known_after_log start id task log).reads ≡ false
      → run_on task.program (known_after_log start id task log).reads ≡ Wants key trace
      → is_below_floor (store start log).floor (at_of task.level (known_after_log start id task log).reads) ≡ false
      → IsRight start log (Step id) (Ok (EndedReply id cause)) → ⊥
  -- a list that is read is not fetched again
  pub list_again : (start : Setup) (log : List Line) (id : ℕ) (task : Task) (revision : ℕ) (reads : List KeyRead) → running id log ≡ Some task
      → is_due task.program.prefetch (known_after_log start id task log).reads ≡ false → IsRight start log (Step id) (Ok (Prefetched id revision reads)) → ⊥
  -- nor is a part of it reported as the list
  pub part_of_list : (start : Setup) (log : List Line) (id : ℕ) (task : Task) (revision : ℕ) (reads : List KeyRead) → running id log ≡ Some task
      → length reads ≢ length task.program.prefetch → IsRight start log (Step id) (Ok (Prefetched id revision reads)) → ⊥
  -- before its list is read, a program has no other read
  pub read_before_list : (start : Setup) (log : List Line) (id : ℕ) (task : Task) (key : List ℕ) (mod_rev of_rev revision : ℕ) → running id log ≡ Some task
      → is_due task.program.prefetch (known_after_log start id task log).reads ≡ true
      → IsRight start log (Step id) (Ok (Fetched id key mod_rev of_rev revision)) → ⊥
  -- and it does not abort
  pub abort_before_list : (start : Setup) (log : List Line) (id : ℕ) (task : Task) (text : List ℕ) → running id log ≡ Some task
      → is_due task.program.prefetch (known_after_log start id task log).reads ≡ true → IsRight start log (Step id) (Ok (Aborted id text)) → ⊥
  -- nor come to a fault
  pub fault_before_list : (start : Setup) (log : List Line) (id : ℕ) (task : Task) (fault : Fault) → running id log ≡ Some task
      → is_due task.program.prefetch (known_after_log start id task log).reads ≡ true → IsRight start log (Step id) (Ok (Faulted id fault)) → ⊥
  -- nor commit
  pub commit_before_list : (start : Setup) (log : List Line) (id : ℕ) (task : Task) (revision attempts : ℕ) (output : List Value) (trace : List TraceItem)
      (answers : List CommittedRead) → running id log ≡ Some task → is_due task.program.prefetch (known_after_log start id task log).reads ≡ true
      → IsRight start log (Step id) (Ok (Committed id revision attempts output trace answers)) → ⊥
  -- nor is a conflict reported to it, whether it goes on or not
  pub conflict_before_list : (start : Setup) (log : List Line) (id : ℕ) (task : Task) (key : List ℕ) (seen now_modified : ℕ) → running id log ≡ Some task
      → is_due task.program.prefetch (known_after_log start id task log).reads ≡ true → IsRight start log (Step id) (Ok (Conflict id key seen now_modified)) → ⊥
  pub give_up_before_list : (start : Setup) (log : List Line) (id : ℕ) (task : Task) (attempts : ℕ) (key : List ℕ) (seen now_modified : ℕ)
      → running id log ≡ Some task → is_due task.program.prefetch (known_after_log start id task log).reads ≡ true
      → IsRight start log (Step id) (Ok (GaveUp id attempts key seen now_modified)) → ⊥
  -- and a list that has no more keys than the store takes operations is not refused
  pub refused_list : (start : Setup) (log : List Line) (id : ℕ) (task : Task) (cause : EventRefusal) → running id log ≡ Some task
      → is_due task.program.prefetch (known_after_log start id task log).reads ≡ true → length task.program.prefetch ≤ (store start log).limit
      → IsRight start log (Step id) (Ok (EndedReply id cause)) → ⊥
  -- no compaction goes back
  pub compacted_again : (start : Setup) (log : List Line) (revision at : ℕ) → revision ≤ (store start log).floor
      → IsRight start log (Compact revision) (Ok (Compacted at)) → ⊥
