-- The world's step: from a world and one event to the reply and the next world.
--
-- The Go package `concurrency`, "STM", for a runner's step: it makes at most one transaction, the fetch of its program's list or of the key
-- that the program wants, or its commit. etcd's API reference, "Transaction", "Lease", "Watch" and "Compaction", for the other events, each of
-- which is one call of the store.
--
-- The history of a world is whole: a compaction drops nothing of it, but what is below the store's floor can't be read any more, and
-- watchers that still had to be notified of it are lost.
use Rattle.std.specs.Prelude.{ℕ, ◌+◌, ◌-◌, nat_eq, nat_lt, if◌then◌else◌, List, [], ◌∷◌, ◌++◌, map, length, Option, None, Some}
use Rattle.std.specs.Prelude.{slice_get, slice_set, Result, Ok, Err}
use Rattle.stm_history.specs.declared.key_state.ReadAnswer.{ReadAnswer}
use Rattle.stm_history.specs.History.{now, key_at, mod_of}
use Rattle.stm_program.specs.Writes.{latest_writes}
use Rattle.stm_steps.specs.declared.run.End.{End}
use Rattle.stm_steps.specs.declared.run.End.TheVariants.{Done as DoneEnd, Aborted as AbortedEnd, Faulted as FaultedEnd}
use Rattle.stm_steps.specs.declared.run.Run.{Run}
use Rattle.stm_steps.specs.declared.run.Answered.{Answered}
use Rattle.stm_steps.specs.declared.run.Answered.TheVariants.{Ended as EndedRun, Wants}
use Rattle.stm_outcome.specs.declared.answer.FailedCompare.{FailedCompare}
use Rattle.stm_outcome.specs.declared.refusal.Refusal.{Refusal as StoreRefusal}
use Rattle.stm_outcome.specs.declared.refusal.Refusal.TheVariants.{TooManyOps as TooManyOpsRefusal, Compacted as CompactedRefusal}
use Rattle.stm_outcome.specs.Outcome.{Done}
use Rattle.stm_outcome.specs.Commits.{revision_read}
use Rattle.stm_txn.specs.Standing.{Standing, opening, with_history, terms_of, Setup}
use Rattle.stm_outcome.specs.Terms.{is_below_floor}
use Rattle.stm_compile.specs.Committed.{committed}
use Rattle.stm_compile.specs.Conflicts.{Seen, seen_in, seen_by}
use Rattle.stm_attempt.specs.Known.{Known}
use Rattle.stm_attempt.specs.Settled.{run_on}
use Rattle.stm_attempt.specs.Entering.{is_due}
use Rattle.stm_attempt.specs.Fetches.{at_of}
use Rattle.stm_entries.specs.declared.entry.Entry.{Entry}
use Rattle.stm_entries.specs.declared.entry.Entry.TheVariants.{Program}
use Rattle.stm_entries.specs.Entered.{answers_kept}
use Rattle.stm_events.specs.declared.event.WorldEvent.{WorldEvent}
use Rattle.stm_events.specs.declared.reply.Reply.{Reply}
use Rattle.stm_events.specs.declared.reply.Reply.TheVariants.{Started, Prefetched, Fetched, Committed, Conflict, GaveUp, Aborted, Faulted, Ended}
use Rattle.stm_events.specs.declared.refusal.EventRefusal.{EventRefusal}
use Rattle.stm_events.specs.declared.refusal.EventRefusal.TheVariants.{BadLimit, NoRunner}
use Rattle.stm_events.specs.declared.refusal.Denied.{Denied}
use Rattle.stm_events.specs.Replies.{committed_read, event_refusal, denied}
use Rattle.stm_events.specs.Called.{Call, Asked, Starts, Steps, Calls, asked, called, is_entered, entered}
use Rattle.stm_world.specs.Task.{Task, nothing_known, answer_at, modified_now, after_list, after_fetch, after_conflict}

-- a runner whose run goes on: its task, the commits of it that failed, and what it knows in its attempt
pub record Runner : Type 0 where
  pub task : Task
  pub failures : ℕ
  pub known : Known

-- the place of a runner, which is kept when its run has ended
pub data Slot : Type 0 where
  Over : Slot
  Live : Runner → Slot

-- a world: its store, the places of its runners (runner 1 stands first), and the entries of what changed the store
pub record World : Type 0 where
  pub standing : Standing
  pub runners : List Slot
  pub entries : List Entry

-- a world whose store opens so
abbrev pub opened : Setup → World
opened start = record { standing = opening start; runners = []; entries = [] }

pub record Stepped : Type 0 where
  pub reply : Result Reply Denied
  pub next : World

-- ---- runners ----

abbrev pub live_in : Option Slot → Option Runner
live_in None = None
live_in (Some Over) = None
live_in (Some (Live r)) = Some r

-- the runner with this number, if there is one that has not ended
abbrev pub runner_at : ℕ → List Slot → Option Runner
runner_at id slots = if nat_eq id 0 then None else live_in (slice_get slots (id - 1))

abbrev pub with_slot : ℕ → Slot → List Slot → List Slot
with_slot id slot slots = slice_set slots (id - 1) slot

abbrev pub refused : EventRefusal → World → Stepped
refused cause w = record { reply = denied cause; next = w }

-- a reply after which a runner stands at its place so, and nothing else has changed
abbrev pub replied : Reply → ℕ → Slot → World → Stepped
replied reply id slot w = record {
  reply = Ok reply;
  next = record { standing = w.standing; runners = with_slot id slot w.runners; entries = w.entries };
}

-- a new runner, the next one; a run that may send no commit is refused
abbrev pub begin : Task → Runner
begin task = record { task = task; failures = 0; known = nothing_known }

unfoldable pub start_runner : Task → World → Stepped
start_runner task w =
    if nat_eq task.limit 0 then refused BadLimit w
    else record {
      reply = Ok (Started (length w.runners + 1));
      next = record { standing = w.standing; runners = w.runners ++ Live (begin task) ∷ []; entries = w.entries };
    }

-- ---- the step of a runner ----

-- a fetch of the key that the program wants, at the revision of its level: the answer is recorded
unfoldable pub fetch : ℕ → Runner → List ℕ → ℕ → World → Stepped
fetch id r key of_rev w =
    let h = w.standing.history in
    replied (Fetched id key (mod_of (key_at h key of_rev)) of_rev (now h)) id
    (Live (record r { known = after_fetch r.task (answer_at h key of_rev) r.known })) w

-- A fetch of the key at the base of the attempt, 0 for the current revision. The store refuses one that is compacted, which ends the run.
abbrev pub fetch_at : ℕ → Runner → List ℕ → ℕ → World → Stepped
fetch_at id r key base w =
    if is_below_floor w.standing.floor base then replied (Ended id (event_refusal CompactedRefusal)) id Over w
    else fetch id r key (revision_read w.standing.history base) w

-- A fetch of all keys of the list, as they are now. The store refuses one of more keys than it takes operations, which ends the run.
abbrev pub fetch_list : ℕ → Runner → World → Stepped
fetch_list id r w =
    let h = w.standing.history in
    let keys = r.task.program.prefetch in
    if nat_lt w.standing.limit (length keys) then replied (Ended id (event_refusal TooManyOpsRefusal)) id Over w
    else replied (Prefetched id (now h) (map (modified_now h) keys)) id (Live (record r { known = after_list r.task h r.known })) w

-- the entry of a commit
abbrev pub entry_of : Task → List ReadAnswer → Run → ℕ → Entry
entry_of task reads run revision = Program task.program task.level (answers_kept task.level reads) run.output run.trace revision

-- a commit that succeeded is an entry, and the run is over
abbrev pub take_commit : ℕ → Runner → List ReadAnswer → Run → Done → World → Stepped
take_commit id r reads run done w = record {
  reply = Ok (Committed id (now done.history) (r.failures + 1) run.output run.trace
      (map committed_read (answers_kept r.task.level reads)));
  next = record {
    standing = with_history w.standing done.history;
    runners = with_slot id Over w.runners;
    entries = w.entries ++ entry_of r.task reads run (now done.history) ∷ [];
  };
}

-- a commit that failed: the next attempt, or the end of the run where it may send no more
abbrev pub fail_commit : ℕ → Runner → Seen → ℕ → World → Stepped
fail_commit id r seen now_modified w =
    if nat_lt (r.failures + 1) r.task.limit
    then replied (Conflict id seen.key seen.mod_rev now_modified) id
    (Live (record { task = r.task; failures = r.failures + 1; known = after_conflict r.task w.standing.history r.known })) w
    else replied (GaveUp id (r.failures + 1) seen.key seen.mod_rev now_modified) id Over w

abbrev pub decided : ℕ → Runner → List ReadAnswer → Run → Done → Option FailedCompare → World → Stepped
decided id r reads run done None w = take_commit id r reads run done w
decided id r reads run done (Some failed) w =
    fail_commit id r (seen_in (slice_get (seen_by reads (latest_writes run.writes)) failed.index)) failed.mod_rev w

abbrev pub commit_reported : ℕ → Runner → List ReadAnswer → Run → Result Done StoreRefusal → World → Stepped
commit_reported id r reads run (Ok done) w = decided id r reads run done done.answer.failed w
commit_reported id r reads run (Err cause) w = replied (Ended id (event_refusal cause)) id Over w

-- the commit of a run that is done, one transaction; a refused one ends the run
unfoldable pub commit : ℕ → Runner → List ReadAnswer → Run → World → Stepped
commit id r reads run w =
    commit_reported id r reads run (committed (terms_of w.standing) r.task.level reads run) w

-- a run that has come to its end: an abort or a fault ends it with nothing committed
abbrev pub finish : ℕ → Runner → List ReadAnswer → Run → End → World → Stepped
finish id r reads run DoneEnd w = commit id r reads run w
finish id r reads run (AbortedEnd text) w = replied (Aborted id text) id Over w
finish id r reads run (FaultedEnd fault) w = replied (Faulted id fault) id Over w

abbrev pub step_on : ℕ → Runner → List ReadAnswer → Answered → World → Stepped
step_on id r reads (Wants key trace) w = fetch_at id r key (at_of r.task.level reads) w
step_on id r reads (EndedRun run) w = finish id r reads run run.end w

-- One step of a runner: its list is fetched, where that is due, else its program is evaluated on what it has read, the prefetched answers that served
-- among it.
unfoldable pub step_live : ℕ → Runner → World → Stepped
step_live id r w =
    if is_due r.task.program.prefetch r.known.reads then fetch_list id r w else step_on id r r.known.reads (run_on r.task.program r.known.reads) w

abbrev pub step_runner : ℕ → Option Runner → World → Stepped
step_runner id None w = refused NoRunner w
step_runner id (Some r) w = step_live id r w

-- ---- the calls of the store ----

-- after a call of the store, which adds these entries
abbrev pub after_call : Result Reply Denied → Standing → List Entry → World → Stepped
after_call reply next entries w =
    record { reply = reply; next = record { standing = next; runners = w.runners; entries = w.entries ++ entries } }

-- after a call that is no entry: one about watchers, or a compaction
abbrev pub after_quiet_call : Result Reply Denied → Standing → World → Stepped
after_quiet_call reply next w = record { reply = reply; next = record { standing = next; runners = w.runners; entries = w.entries } }

abbrev pub make_call : Call → World → Stepped
make_call c w =
    let s = w.standing in
    if is_entered c then after_call (called s c).reply (called s c).next (entered s c) w else after_quiet_call (called s c).reply (called s c).next w

-- ---- the step of the world ----

abbrev pub step_asked : Asked → World → Stepped
step_asked (Starts program level limit) w = start_runner (record { program = program; level = level; limit = limit }) w
step_asked (Steps id) w = step_runner id (runner_at id w.runners) w
step_asked (Calls c) w = make_call c w

abbrev pub step : WorldEvent → World → Stepped
step event w = step_asked (asked event) w

-- ---- whole runs ----

-- the world after these events
abbrev pub world_after : List WorldEvent → World → World
world_after [] w = w
world_after (e ∷ es) w = world_after es (step e w).next

-- the replies to these events
abbrev pub replies_to : List WorldEvent → World → List (Result Reply Denied)
replies_to [] w = []
replies_to (e ∷ es) w = (step e w).reply ∷ replies_to es (step e w).next
