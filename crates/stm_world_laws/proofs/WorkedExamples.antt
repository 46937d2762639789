-- Worked examples of watchers and of a compaction, of attempts that come to nothing and of entries that are appended, computed by the definitions.
use Rattle.std.proofs.Common.{◌≡◌, refl, arith, ℕ, ◌+◌, ◌<◌, ◌≤◌, List, [], ◌∷◌, ◌++◌, Some, None, Ok, true}
use Rattle.std.specs.Prelude.{codes, pos, Result}
use Rattle.std.proofs.lemmas.Bool.Decides.{nat_tests}
use Rattle.stm_history.specs.declared.change.Change.TheVariants.{Put as PutChange}
use Rattle.stm_history.specs.declared.revisions.TheConstants.{HIGHEST_REVISION}
use Rattle.stm_history.specs.declared.key_state.KeyState.{KeyState}
use Rattle.stm_history.specs.Opening.{opening_at}
use Rattle.stm_history.specs.History.{now}
use Rattle.stm_keys.specs.declared.event.Event.TheVariants.{Put as PutEvent}
use Rattle.stm_program.specs.Syntax.{ProgramTree, of_statements, Expression, End as EndBlock, Then, Text, Number, Get, NumOf, Arithmetic}
use Rattle.stm_program.specs.Syntax.{Put as PutStatement, Emit, Abort}
use Rattle.stm_program.specs.Writes.{last_write, latest_writes}
use Rattle.stm_program.specs.declared.operator.Operator.TheVariants.{Add, Sub, Div}
use Rattle.stm_program.specs.declared.level.Level.{Level}
use Rattle.stm_program.specs.declared.level.Level.TheVariants.{SerializableSnapshot, Serializable, RepeatableReads}
use Rattle.stm_steps.specs.Session.{fresh}
use Rattle.stm_steps.specs.Steps.{get_key}
use Rattle.stm_steps.specs.Values.{text_in, key_in, num_of, written_number, arithmetic, computed, put_of}
use Rattle.stm_steps.specs.declared.fault.Fault.TheVariants.{ZeroDivisor}
use Rattle.stm_steps.specs.declared.value.Value.TheVariants.{Number as NumberValue}
use Rattle.stm_steps.specs.declared.trace_item.TraceItem.{TraceItem}
use Rattle.stm_steps.specs.declared.trace_item.TraceItem.TheVariants as seen
use Rattle.stm_steps.specs.declared.run.End.TheVariants.{Done, Aborted as AbortedEnd, Faulted as FaultedEnd}
use Rattle.stm_steps.specs.declared.run.Run.{Run}
use Rattle.stm_steps.specs.declared.run.Answered.TheVariants.{Ended as EndedRun}
use Rattle.stm_meaning.specs.Meaning.{evaluate, run_block, run_over}
use Rattle.stm_compile.specs.Answers.{state_now}
use Rattle.stm_attempt.specs.Settled.{settle}
use Rattle.stm_outcome.specs.declared.txn.Op.{Op}
use Rattle.stm_outcome.specs.declared.txn.Op.TheVariants.{Put}
use Rattle.stm_outcome.specs.declared.answer.OpAnswer.TheVariants.{Put as PutAnswer}
use Rattle.stm_events.specs.declared.refusal.EventRefusal.TheVariants.{NoWatcher, EmptyKey, FutureRevision, Compacted as CompactedRefusal}
use Rattle.stm_entries.specs.declared.entry.Entry.{Entry}
use Rattle.stm_entries.specs.declared.entry.Entry.TheVariants.{Program}
use Rattle.stm_events.specs.declared.event.WorldEvent.{WorldEvent}
use Rattle.stm_events.specs.declared.event.WorldEvent.TheVariants.{Start, Step, Txn, WatchKey, WatchRange, Poll, Cancel, Compact}
use Rattle.stm_events.specs.declared.reply.Reply.{Reply}
use Rattle.stm_events.specs.declared.reply.Reply.TheVariants.{Started, Fetched, Committed, Conflict, GaveUp, Aborted, Faulted, Txn as TxnDone, Watching, Batch, Compacted, Lost}
use Rattle.stm_events.specs.declared.refusal.Denied.{Denied}
use Rattle.stm_events.specs.declared.reply.OpReply.TheVariants.{Put as PutReply}
use Rattle.stm_events.specs.Replies.{denied}
use Rattle.stm_world.specs.Task.{Task}
use Rattle.stm_world.specs.Log.{Line, IsLogOf, store}
use Rattle.stm_txn.specs.Standing.{at_revision}
use Rattle.stm_world.specs.World.{World, opened, start_runner, fetch, commit, step_live, step, world_after, replies_to}
use Rattle.stm_world.specs.Doomed.{FailedCommit, IsRealFailure, IsRealStop, since, failed_commits}
use Rattle.stm_world.specs.Appended.{HasAppended}
use Rattle.stm_world_laws.specs.WrongFailures.{WrongFailures}
use Rattle.stm_compile.proofs.AgreeLemmas.{commit_is_the_run_now}
use Rattle.stm_compile.proofs.ConflictLemmas.{failed_compares_conflict}
use Rattle.stm_world.proofs.Logs.{log_of}
use Rattle.stm_world_laws.proofs.Failures.{failures_move_on}
use Rattle.stm_world_laws.proofs.WrongFailures.{wrong_failures}

-- a put that needs nothing
abbrev put : List ℕ → Op
put key = Put key (codes "1") 0

abbrev puts : List Op → WorldEvent
puts ops = Txn (record { compares = []; success = ops; failure = [] })

-- the reply to an event after these
abbrev reply_after : List WorldEvent → WorldEvent → Result Reply Denied
reply_after before event = (step event (world_after before (opened (at_revision 1)))).reply

abbrev first_put : ℕ → KeyState
first_put revision = record { value = codes "1"; create_rev = revision; mod_rev = revision; version = 1; lease = 0 }

-- ---- one revision with three events

abbrev three_puts : List WorldEvent
three_puts = WatchRange (codes "a") (codes "d") 0 ∷ puts (put (codes "c") ∷ put (codes "a") ∷ put (codes "b") ∷ []) ∷ []

whole_revision : reply_after three_puts (Poll 1 1)
    ≡ Ok (Batch 1 2 (PutEvent (codes "c") (first_put 2) ∷ PutEvent (codes "a") (first_put 2) ∷ PutEvent (codes "b") (first_put 2) ∷ []))
whole_revision = refl

nothing_more : reply_after (WatchRange (codes "a") (codes "d") 0 ∷ puts (put (codes "c") ∷ put (codes "a") ∷ put (codes "b") ∷ []) ∷ Poll 1 1 ∷ []) (Poll 1 1)
    ≡ Ok (Batch 1 2 [])
nothing_more = refl

-- ---- three watchers

abbrev three_watchers : List WorldEvent
three_watchers =
    WatchKey (codes "a") 0 ∷ WatchRange (codes "a") (codes "c") 0 ∷ WatchKey (codes "b") 1 ∷ puts (put (codes "b") ∷ []) ∷ Cancel 2 ∷ []

third_begins : reply_after (WatchKey (codes "a") 0 ∷ WatchRange (codes "a") (codes "c") 0 ∷ []) (WatchKey (codes "b") 1) ≡ Ok (Watching 3)
third_begins = refl

none_asked : reply_after three_watchers (Poll 3 0) ≡ Ok (Batch 3 0 [])
none_asked = refl

one_asked : reply_after three_watchers (Poll 3 1) ≡ Ok (Batch 3 2 (PutEvent (codes "b") (first_put 2) ∷ []))
one_asked = refl

cancelled_is_gone : reply_after three_watchers (Poll 2 1) ≡ denied NoWatcher
cancelled_is_gone = refl

cancelled_twice : reply_after three_watchers (Cancel 2) ≡ denied NoWatcher
cancelled_twice = refl

number_is_not_used_again : reply_after three_watchers (WatchKey (codes "c") 9) ≡ Ok (Watching 4)
number_is_not_used_again = refl

start_is_waited_for : reply_after (WatchKey (codes "c") 9 ∷ puts (put (codes "b") ∷ []) ∷ []) (Poll 1 5) ≡ Ok (Batch 1 8 [])
start_is_waited_for = refl

key_is_empty : reply_after [] (WatchRange [] (codes "c") 0) ≡ denied EmptyKey
key_is_empty = refl

end_is_not_watched : reply_after (WatchRange (codes "a") (codes "b") 0 ∷ puts (put (codes "b") ∷ []) ∷ []) (Poll 1 1) ≡ Ok (Batch 1 2 [])
end_is_not_watched = refl

end_at_first : reply_after (WatchRange (codes "b") (codes "b") 0 ∷ puts (put (codes "b") ∷ []) ∷ []) (Poll 1 1) ≡ Ok (Batch 1 2 [])
end_at_first = refl

-- ---- a compaction, by which a watcher is lost

abbrev compacted_at_three : List WorldEvent
compacted_at_three =
    WatchKey (codes "a") 0 ∷ WatchKey (codes "c") 0 ∷ puts (put (codes "a") ∷ []) ∷ puts (put (codes "b") ∷ []) ∷ Compact 3 ∷ []

taken_at_three :
    reply_after (WatchKey (codes "a") 0 ∷ WatchKey (codes "c") 0 ∷ puts (put (codes "a") ∷ []) ∷ puts (put (codes "b") ∷ []) ∷ []) (Compact 3) ≡ Ok (Compacted 3)
taken_at_three = refl

first_is_lost : reply_after compacted_at_three (Poll 1 9) ≡ Ok (Lost 1 3)
first_is_lost = refl

lost_is_gone : reply_after (compacted_at_three ++ Poll 1 9 ∷ []) (Poll 1 9) ≡ denied NoWatcher
lost_is_gone = refl

second_is_not_lost : reply_after compacted_at_three (Poll 2 9) ≡ Ok (Batch 2 3 [])
second_is_not_lost = refl

lost_from_its_start : reply_after (compacted_at_three ++ WatchKey (codes "a") 2 ∷ []) (Poll 3 9) ≡ Ok (Lost 3 3)
lost_from_its_start = refl

from_the_floor_on : reply_after (compacted_at_three ++ WatchKey (codes "b") 3 ∷ []) (Poll 3 9) ≡ Ok (Batch 3 3 (PutEvent (codes "b") (first_put 3) ∷ []))
from_the_floor_on = refl

not_again : reply_after compacted_at_three (Compact 3) ≡ denied CompactedRefusal
not_again = refl

not_yet : reply_after compacted_at_three (Compact 4) ≡ denied FutureRevision
not_yet = refl

-- ---- attempts that come to nothing: both keys are put twice, and a runner reads one before, and one after

abbrev both_put : List ℕ → WorldEvent
both_put value = puts (Put (codes "x") value 0 ∷ Put (codes "y") value 0 ∷ [])

abbrev both_are_put : ℕ → Result Reply Denied
both_are_put revision =
    Ok (TxnDone true revision (PutReply ∷ PutReply ∷ []))

abbrev number_in : List ℕ → Expression
number_in key = NumOf (Get (Text key))

-- emits 1 divided by 1 + x - y: where x and y never differ it divides by 1
abbrev quotient : ProgramTree
quotient = of_statements (Then (Emit (Arithmetic Div (Number (pos 1))
    (Arithmetic Add (Number (pos 1)) (Arithmetic Sub (number_in (codes "x")) (number_in (codes "y")))))) EndBlock)

abbrev raced : Level → ℕ → List WorldEvent
raced level limit = both_put (codes "1") ∷ Start quotient level limit ∷ Step 1 ∷ both_put (codes "2") ∷ Step 1 ∷ Step 1 ∷ []

abbrev both_seen : List ℕ → List TraceItem
both_seen value = seen.Get (codes "x") value ∷ seen.Get (codes "y") value ∷ []

-- at serializable the sixth reply is a conflict over x, seen at 2 and now at 3, and the attempt after it commits
conflict_is_reported : replies_to (raced Serializable 2 ++ Step 1 ∷ []) (opened (at_revision 1))
    ≡ both_are_put 2 ∷ Ok (Started 1) ∷ Ok (Fetched 1 (codes "x") 2 2 2) ∷ both_are_put 3 ∷ Ok (Fetched 1 (codes "y") 2 2 3)
    ∷ Ok (Conflict 1 (codes "x") 2 3) ∷ Ok (Committed 1 3 2 (NumberValue (pos 1) ∷ []) (both_seen (codes "2")) []) ∷ []
unfolding start_runner fetch commit step_live settle run_over run_block evaluate key_in num_of written_number arithmetic computed get_key last_write latest_writes fresh
conflict_is_reported = refl

-- where it may send one commit it gives up over the same key
gives_up : replies_to (raced Serializable 1) (opened (at_revision 1))
    ≡ both_are_put 2 ∷ Ok (Started 1) ∷ Ok (Fetched 1 (codes "x") 2 2 2) ∷ both_are_put 3 ∷ Ok (Fetched 1 (codes "y") 2 2 3)
    ∷ Ok (GaveUp 1 1 (codes "x") 2 3) ∷ []
unfolding start_runner fetch commit step_live settle run_over run_block evaluate key_in num_of written_number arithmetic computed get_key last_write latest_writes fresh
gives_up = refl

-- at repeatable reads the second read is of the later revision, and the torn read divides by 0: the laws say nothing of it
torn_read_faults : replies_to (raced RepeatableReads 1) (opened (at_revision 1))
    ≡ both_are_put 2 ∷ Ok (Started 1) ∷ Ok (Fetched 1 (codes "x") 2 2 2) ∷ both_are_put 3 ∷ Ok (Fetched 1 (codes "y") 3 3 3)
    ∷ Ok (Faulted 1 ZeroDivisor) ∷ []
unfolding start_runner fetch commit step_live settle run_over run_block evaluate key_in num_of written_number arithmetic computed get_key last_write latest_writes fresh
torn_read_faults = refl

-- a program that reads x and writes another key
abbrev copy_to : List ℕ → ProgramTree
copy_to key = of_statements (Then (PutStatement (Text key) (Get (Text (codes "x"))) 0) EndBlock)

abbrev one_is_put : ℕ → Result Reply Denied
one_is_put revision = Ok (TxnDone true revision (PutReply ∷ []))

abbrev overwritten : Level → List WorldEvent
overwritten level = both_put (codes "1") ∷ Start (copy_to (codes "y")) level 1 ∷ Step 1 ∷ puts (put (codes "y") ∷ []) ∷ Step 1 ∷ []

-- at serializable snapshot a key that is written alone is in conflict, too: x was read at 2, and y is put at 3
written_key_conflicts : replies_to (overwritten SerializableSnapshot) (opened (at_revision 1))
    ≡ both_are_put 2 ∷ Ok (Started 1) ∷ Ok (Fetched 1 (codes "x") 2 2 2) ∷ one_is_put 3 ∷ Ok (GaveUp 1 1 (codes "y") 2 3) ∷ []
unfolding start_runner fetch commit step_live settle run_over run_block evaluate key_in put_of get_key last_write latest_writes fresh
written_key_conflicts = refl

-- at serializable it is not compared
written_key_commits : replies_to (overwritten Serializable) (opened (at_revision 1))
    ≡ both_are_put 2 ∷ Ok (Started 1) ∷ Ok (Fetched 1 (codes "x") 2 2 2) ∷ one_is_put 3
    ∷ Ok (Committed 1 4 1 [] (seen.Get (codes "x") (codes "1") ∷ []) []) ∷ []
unfolding start_runner fetch commit step_live settle run_over run_block evaluate key_in put_of get_key last_write latest_writes fresh
written_key_commits = refl

-- ---- the conflict is a real one

abbrev line : WorldEvent → Result Reply Denied → Line
line event reply = record { event = event; reply = reply }

-- the lines of two reads
abbrev two_reads : Level → ℕ → ℕ → List Line
two_reads level limit revision =
    line (Step 1) (Ok (Fetched 1 (codes "y") revision revision 3)) ∷ line (both_put (codes "2")) (both_are_put 3)
    ∷ line (Step 1) (Ok (Fetched 1 (codes "x") 2 2 2)) ∷ line (Start quotient level limit) (Ok (Started 1))
    ∷ line (both_put (codes "1")) (both_are_put 2) ∷ []

abbrev quotient_run : Run
quotient_run = record {
  end = Done;
  output = NumberValue (pos 1) ∷ [];
  trace = both_seen (codes "1");
  writes = [];
  reads = codes "x" ∷ codes "y" ∷ [];
}

abbrev over_x : FailedCommit
over_x = record { runner = 1; key = codes "x"; seen = 2; now_modified = 3 }

conflict_is_real : IsRealFailure (at_revision 1) (two_reads Serializable 2 2) over_x
unfolding settle run_over run_block evaluate key_in num_of written_number arithmetic computed get_key last_write latest_writes fresh
conflict_is_real = record {
  task = record { program = quotient; level = Serializable; limit = 2 };
  runs = refl;
  has_list = refl;
  run = quotient_run;
  is_run = refl;
  is_done = refl;
  named = record {
    compare = record { index = 0; mod_rev = 3 };
    fails = refl;
    conflict = record { seen = record { key = codes "x"; mod_rev = 2; at = 2 }; about = refl; reported = refl; changed = refl };
    key = refl;
    was = refl;
    is = refl;
  };
}

-- ---- failures and revisions

-- the runner was started at revision 2
abbrev failed_once : List Line
failed_once = line (Step 1) (Ok (Conflict 1 (codes "x") 2 3)) ∷ two_reads Serializable 2 2

failed_once_is_reported : log_of (at_revision 1) (raced Serializable 2) ≡ failed_once
unfolding start_runner fetch commit step_live settle run_over run_block evaluate key_in num_of written_number arithmetic computed get_key last_write latest_writes fresh
failed_once_is_reported = refl

one_failure : (since (at_revision 1) 1 failed_once ≡ 2) × (failed_commits 1 failed_once ≡ 1) × (now (store (at_revision 1) failed_once).history ≡ 3)
one_failure = (refl, refl, refl)

-- a give-up counts, too
one_give_up : failed_commits 1 (line (Step 1) (Ok (GaveUp 1 1 (codes "x") 2 3)) ∷ two_reads Serializable 1 2) ≡ 1
one_give_up = refl

-- a change of another key leaves room
with_room : now (store (at_revision 1) (line (puts (put (codes "z") ∷ [])) (one_is_put 4) ∷ failed_once)).history ≡ 4
with_room = refl

-- ---- an abort of an earlier state

abbrev abort_with_x : ProgramTree
abort_with_x = of_statements (Then (Abort (Get (Text (codes "x")))) EndBlock)

abbrev abort_task : Task
abort_task = record { program = abort_with_x; level = Serializable; limit = 1 }

abbrev before_abort : List Line
before_abort =
    line (both_put (codes "2")) (both_are_put 3) ∷ line (Step 1) (Ok (Fetched 1 (codes "x") 2 2 2))
    ∷ line (Start abort_with_x Serializable 1) (Ok (Started 1)) ∷ line (both_put (codes "1")) (both_are_put 2) ∷ []

earlier_abort_is_reported :
    log_of (at_revision 1) (both_put (codes "1") ∷ Start abort_with_x Serializable 1 ∷ Step 1 ∷ both_put (codes "2") ∷ Step 1 ∷ [])
    ≡ line (Step 1) (Ok (Aborted 1 (codes "1"))) ∷ before_abort
unfolding start_runner fetch commit step_live settle run_over run_block evaluate key_in text_in get_key last_write fresh
earlier_abort_is_reported = refl

abbrev abort_run : List ℕ → Run
abort_run value =
    record { end = AbortedEnd value; output = []; trace = seen.Get (codes "x") value ∷ []; writes = []; reads = codes "x" ∷ [] }

-- alone on the current state it would abort with another text
other_text_now : run_over (state_now (store (at_revision 1) before_abort).history) abort_with_x.statements ≡ EndedRun (abort_run (codes "2"))
unfolding run_over run_block evaluate key_in text_in get_key last_write fresh
other_text_now = refl

one_of_two : 1 ≤ 2
one_of_two = omega arith

two_of_three : 2 ≤ 3
two_of_three = omega arith

earlier_abort_is_real : IsRealStop (at_revision 1) before_abort (record { runner = 1; end = AbortedEnd (codes "1") })
unfolding settle run_over run_block evaluate key_in text_in get_key last_write fresh
earlier_abort_is_real = record {
  task = abort_task;
  runs = refl;
  of_one_state = λ serializable. record {
    has_list = refl;
    state = record {
      one_revision = (one_of_two, tt);
      truth = (record { reached = two_of_three; shown = refl }, tt);
      continued = refl;
    };
    reached = two_of_three;
    run = abort_run (codes "1");
    is_run = refl;
    alone = refl;
    ends = refl;
  };
}

-- ---- failures and ends that are rejected

abbrev wrong : WrongFailures
wrong = wrong_failures (failures_move_on (record { run_now = commit_is_the_run_now; conflicts = failed_compares_conflict }))

-- a conflict over a key that was never read
unread_key : IsRealFailure (at_revision 1) (two_reads Serializable 2 2) (record { runner = 1; key = codes "z"; seen = 0; now_modified = 3 }) → ⊥
unfolding settle run_over run_block evaluate key_in num_of written_number arithmetic computed get_key last_write fresh
unread_key = grind (arith, nat_tests)

-- the fault of a torn read, reported at serializable
torn_read : IsRealStop (at_revision 1) (two_reads Serializable 2 3) (record { runner = 1; end = FaultedEnd ZeroDivisor }) → ⊥
unfolding settle run_over run_block evaluate key_in num_of written_number arithmetic computed get_key last_write fresh
torn_read =
    wrong.torn_read (at_revision 1) (two_reads Serializable 2 3) (record { program = quotient; level = Serializable; limit = 2 })
    (record { runner = 1; end = FaultedEnd ZeroDivisor }) (codes "x") (codes "y")
    (record { key = codes "x"; kv = Some (first_put 2); of_rev = 2; revision = 2 })
    (record { key = codes "y"; kv = Some (record { value = codes "2"; create_rev = 2; mod_rev = 3; version = 2; lease = 0 }); of_rev = 3; revision = 3 })
    refl refl refl refl (λ same. let torn : 2 ≡ 3 = same in omega (arith, torn))

-- the commit after the conflict, reported as a second one
second_conflict : (events : List WorldEvent) →
    IsLogOf events (replies_to events (opened (at_revision 1))) (line (Step 1) (Ok (Conflict 1 (codes "x") 2 3)) ∷ failed_once) → ⊥
second_conflict events =
    let low : 1 ≤ HIGHEST_REVISION = omega arith in
    let below : 3 < 2 + 2 = omega arith in
    wrong.more_failures_than_growth (at_revision 1) events (line (Step 1) (Ok (Conflict 1 (codes "x") 2 3)) ∷ failed_once) 1
    (record { program = quotient; level = Serializable; limit = 2 }) low refl below

-- ---- entries are appended to those of a world that has run before

abbrev copy : ProgramTree
copy = copy_to (codes "z")

abbrev with_x : World
with_x = world_after (puts (put (codes "x") ∷ []) ∷ []) (opened (at_revision 1))

abbrev copied : World
copied = world_after (Start copy Serializable 1 ∷ Step 1 ∷ Step 1 ∷ []) with_x

abbrev copy_entry : Entry
copy_entry = Program copy Serializable [] [] (seen.Get (codes "x") (codes "1") ∷ []) 3

copy_is_appended : HasAppended with_x copied
unfolding start_runner fetch commit step_live settle run_over run_block evaluate key_in put_of get_key last_write latest_writes fresh
copy_is_appended = record {
  more = copy_entry ∷ [];
  entries = refl;
  legal = (
    record {
      run = record {
        end = Done;
        output = [];
        trace = seen.Get (codes "x") (codes "1") ∷ [];
        writes = PutChange (codes "z") (codes "1") 0 ∷ [];
        reads = codes "x" ∷ [];
      };
      is_run = refl;
      is_done = refl;
      emits = refl;
      sees = refl;
      reads_truth = refl;
      done = record {
        answer = record { succeeded = true; revision = 3; answers = PutAnswer ∷ []; failed = None };
        history = record {
          opening = opening_at 1;
          revisions = (PutChange (codes "z") (codes "1") 0 ∷ []) ∷ (PutChange (codes "x") (codes "1") 0 ∷ []) ∷ [];
        };
      };
      applies = refl;
      reached = refl;
    },
    tt,
  );
  replays = refl;
}
