-- The steps of a runner, as the log has them.
use Rattle.std.proofs.Common.{◌≡◌, ℕ, ◌+◌, ◌<◌, ◌≤◌, List, [], ◌∷◌, length, map, Option, Some, None, Ok, Err, Bool, true, false, cond, inl, inr, refl, sym}
use Rattle.std.proofs.Common.{◌∙◌, ap, subst, arith}
use Rattle.std.proofs.lemmas.List.{append-nil}
use Rattle.std.proofs.lemmas.Bool.{ltb-true, ltb-false, Decides.nat_tests}
use Rattle.std.specs.Prelude.{nat_lt, option_map, Result, slice_get}
use Rattle.stm_history.specs.declared.key_state.ReadAnswer.{ReadAnswer}
use Rattle.stm_history.specs.History.{History, now, key_at, mod_of}
use Rattle.stm_program.specs.Writes.{latest_writes}
use Rattle.stm_steps.specs.declared.trace_item.TraceItem.{TraceItem}
use Rattle.stm_steps.specs.declared.run.End.{End}
use Rattle.stm_steps.specs.declared.run.End.TheVariants.{Done as DoneEnd, Aborted as AbortedEnd, Faulted as FaultedEnd}
use Rattle.stm_steps.specs.declared.run.Run.{Run}
use Rattle.stm_steps.specs.declared.run.Answered.{Answered}
use Rattle.stm_steps.specs.declared.run.Answered.TheVariants.{Ended as EndedRun, Wants}
use Rattle.stm_meaning.specs.Meaning.{run_over}
use Rattle.stm_outcome.specs.declared.answer.FailedCompare.{FailedCompare}
use Rattle.stm_outcome.specs.declared.refusal.Refusal.{Refusal as StoreRefusal}
use Rattle.stm_outcome.specs.Outcome.{Done}
use Rattle.stm_outcome.specs.Commits.{revision_read}
use Rattle.stm_txn.specs.Standing.{Standing, HasKept, with_history, terms_of, Setup}
use Rattle.stm_outcome.specs.Terms.{is_below_floor}
use Rattle.stm_outcome.specs.declared.refusal.Refusal.TheVariants.{TooManyOps as TooManyOpsRefusal, Compacted as CompactedRefusal}
use Rattle.stm_compile.specs.Answers.{AreTrue}
use Rattle.stm_compile.specs.Committed.{committed}
use Rattle.stm_compile.specs.Conflicts.{Seen, seen_by, IsConflict, seen_in}
use Rattle.stm_compile.specs.Laws.{CommitIsTheRunNow, FailedComparesConflict}
use Rattle.stm_attempt.specs.Known.{Known}
use Rattle.stm_attempt.specs.Settled.{run_on}
use Rattle.stm_attempt.specs.Entering.{is_due}
use Rattle.stm_attempt.specs.Fetches.{at_of}
use Rattle.stm_entries.specs.declared.entry.Entry.{Entry}
use Rattle.stm_entries.specs.declared.entry.Entry.TheVariants.{Program}
use Rattle.stm_entries.specs.Replayed.{Replayed, without_moment}
use Rattle.stm_entries.specs.Alone.{seen_at, left_by_run}
use Rattle.stm_entries.specs.Entered.{answers_kept}
use Rattle.stm_events.specs.declared.event.WorldEvent.TheVariants.{Step}
use Rattle.stm_events.specs.declared.reply.Reply.{Reply}
use Rattle.stm_events.specs.declared.reply.Reply.TheVariants.{Prefetched, Fetched, Committed, Conflict, GaveUp, Aborted, Faulted, Ended}
use Rattle.stm_events.specs.declared.reply.KeyRead.{KeyRead}
use Rattle.stm_events.specs.declared.reply.CommittedRead.{CommittedRead}
use Rattle.stm_events.specs.Replies.{committed_read, reads_in, event_refusal, runner_named}
use Rattle.stm_world.specs.Task.{Task, answer_at, modified_now, after_list, after_fetch, after_conflict}
use Rattle.stm_world.specs.Log.{Line, begun, is_over, running, failures, is_id, runner_started, runner_ended, store, known_after_log, with_commit, commit_entry}
use Rattle.stm_world.specs.Log.{line_entries}
use Rattle.stm_world.specs.Right.{IsRight, RunnerIsRight, situation, HasList, ReplyIsRight, IsConflicted}
use Rattle.stm_world.specs.World.{Runner, Slot, Over, Live, live_in, runner_at, with_slot, replied, fetch, entry_of, take_commit, decided}
use Rattle.stm_world.specs.World.{commit_reported, commit, finish, step_on, step_live}
use Rattle.stm_world.specs.Sound.{KnowsTruth}
use Rattle.stm_world.specs.Headline.{runner_for, runner_in_log}
use Rattle.stm_world.proofs.Truth.{Keeps, keeps_same, prefetch_true, fetch_true, conflict_true}
use Rattle.stm_world.proofs.Entered.{EntriesFollow, floor_stays}
use Rattle.stm_world.proofs.Bases.{IsWellRun, counter_some, list_runs, fetch_runs, conflict_runs}
use Rattle.stm_world.proofs.Carried.{kept_again}
use Rattle.stm_world.proofs.Asked.{answers_are_the_reads}
use Rattle.stm_world.proofs.Slots.{same_number}
use Rattle.stm_world.proofs.Untouched.{by_reply}
use Rattle.stm_world.proofs.Following.{FollowsAt, FollowsStep, with_line, world_at, slot_touched}
use Rattle.stm_world.proofs.CommitCases.{Fails, fails}
use Rattle.stm_world.proofs.CommitEntries.{Takes, Taken, taken, commit_follows_entry}

-- a runner of a world that follows its log, which by the log runs this task
pub record Runs (start : Setup) (log : List Line) (runners : List Slot) (entries : List Entry) (id : ℕ) (task : Task) : Type 0 where
  pub follows : FollowsAt start log runners entries
  pub running : running id log ≡ Some task

there : (start : Setup) (log : List Line) (runners : List Slot) (entries : List Entry) (id : ℕ) (task : Task) → Runs start log runners entries id task →
    runner_at id runners ≡ Some (runner_for start log id task)
there start log runners entries id task x = x.follows.slots id ∙ ap (option_map (runner_for start log id)) x.running

known_truth : (start : Setup) (log : List Line) (runners : List Slot) (entries : List Entry) (id : ℕ) (task : Task) → Runs start log runners entries id task →
    KnowsTruth (store start log).history (known_after_log start id task log)
known_truth start log runners entries id task x = x.follows.truth id (runner_for start log id task) (there start log runners entries id task x)

well_run : (start : Setup) (log : List Line) (runners : List Slot) (entries : List Entry) (id : ℕ) (task : Task) → Runs start log runners entries id task →
    IsWellRun start (runner_for start log id task)
well_run start log runners entries id task x = x.follows.well_run id (runner_for start log id task) (there start log runners entries id task x)

counter : (start : Setup) (log : List Line) (runners : List Slot) (entries : List Entry) (id : ℕ) (task : Task) → Runs start log runners entries id task →
    1 ≤ start.revision → 1 ≤ now (store start log).history
counter start log runners entries id task x some = counter_some start entries (store start log) x.follows.replays some

pub reads_truth : (start : Setup) (log : List Line) (runners : List Slot) (entries : List Entry) (id : ℕ) (task : Task) → Runs start log runners entries id task →
    AreTrue (store start log).history (known_after_log start id task log).reads
reads_truth start log runners entries id task x = grind (arith, nat_tests, known_truth)

is_right : (start : Setup) (log : List Line) (id : ℕ) (task : Task) (reply : Reply) → running id log ≡ Some task →
    ReplyIsRight (situation start log id task) reply → IsRight start log (Step id) (Ok reply)
is_right start log id task reply runs right = subst (λ (o : Option Task). RunnerIsRight start log id o (Ok reply)) (sym runs) right

-- a reply that ends the run
over_now : (start : Setup) (log : List Line) (id : ℕ) (reply : Reply) → runner_ended (Ok reply) ≡ Some id →
    runner_in_log start (with_line (Step id) (Ok reply) log) id ≡ None
over_now start log id reply ended = grind (arith, nat_tests, with_line, same_number)

-- a reply that changes nothing of the store
replied_follows : (start : Setup) (log : List Line) (runners : List Slot) (entries : List Entry) (id : ℕ) (task : Task) (slot : Slot) (reply : Reply) →
    Runs start log runners entries id task → ReplyIsRight (situation start log id task) reply → runner_named reply ≡ Some id →
    runner_started (Ok reply) ≡ None → store start (with_line (Step id) (Ok reply) log) ≡ store start log →
    [] ≡ line_entries start (record { event = Step id; reply = Ok reply }) log →
    runner_in_log start (with_line (Step id) (Ok reply) log) id ≡ live_in (Some slot) →
    ((r : Runner) → live_in (Some slot) ≡ Some r → KnowsTruth (store start log).history r.known) →
    ((r : Runner) → live_in (Some slot) ≡ Some r → IsWellRun start r) →
    FollowsStep start log (Step id) (replied reply id slot (world_at start log runners entries))
replied_follows start log runners entries id task slot reply x right named none same entered mine truth read =
    let after : List Line = with_line (Step id) (Ok reply) log in
    record {
      standing = sym same;
      follows = subst (λ (es : List Entry). FollowsAt start after (with_slot id slot runners) es) (append-nil entries)
          (slot_touched start log runners entries [] id (runner_for start log id task) slot reply x.follows
          (there start log runners entries id task x) (is_right start log id task reply x.running right) none
          (λ other ne. by_reply other reply (ap (is_id other) named ∙ ne)) mine
          (λ r is. subst (λ (s : Standing). KnowsTruth s.history r.known) (sym same) (truth r is)) read entered
          (record {
            replays = ap without_moment (sym same);
            legal = tt;
            keeps = subst (λ (s : Standing). Keeps (store start log).history s.history) (sym same) (keeps_same (store start log).history);
            kept = subst (λ (s : Standing). HasKept (store start log) → HasKept s) (sym same) (λ k. k);
            floor = subst (λ (s : Standing). (store start log).floor ≤ s.floor) (sym same) (floor_stays (store start log));
            limit = ap (λ (s : Standing). s.limit) same;
          }));
    }

-- a reply that ends the run, and changes nothing of the store
ended_follows : (start : Setup) (log : List Line) (runners : List Slot) (entries : List Entry) (id : ℕ) (task : Task) (reply : Reply) →
    Runs start log runners entries id task → ReplyIsRight (situation start log id task) reply → runner_named reply ≡ Some id →
    runner_started (Ok reply) ≡ None → runner_ended (Ok reply) ≡ Some id → store start (with_line (Step id) (Ok reply) log) ≡ store start log →
    [] ≡ line_entries start (record { event = Step id; reply = Ok reply }) log →
    FollowsStep start log (Step id) (replied reply id Over (world_at start log runners entries))
ended_follows start log runners entries id task reply x right named none ended same entered =
    replied_follows start log runners entries id task Over reply x right named none same entered (over_now start log id reply ended) (λ r is. absurd (cc))
    (λ r is. absurd (cc))

-- ---- a list ----

listed_in_log : (start : Setup) (log : List Line) (id : ℕ) (task : Task) (revision : ℕ) (reads : List KeyRead) → running id log ≡ Some task →
    runner_in_log start (with_line (Step id) (Ok (Prefetched id revision reads)) log) id ≡ Some (record {
      task = task;
      failures = failures id log;
      known = after_list task (store start log).history (known_after_log start id task log);
    })
listed_in_log start log id task revision reads runs = grind (arith, nat_tests, with_line, same_number)

-- ---- a fetch ----

fetched_in_log : (start : Setup) (log : List Line) (id : ℕ) (task : Task) (key : List ℕ) (mod_rev of_rev revision : ℕ) → running id log ≡ Some task →
    runner_in_log start (with_line (Step id) (Ok (Fetched id key mod_rev of_rev revision)) log) id ≡ Some (record {
      task = task;
      failures = failures id log;
      known = after_fetch task (answer_at (store start log).history key of_rev) (known_after_log start id task log);
    })
fetched_in_log start log id task key mod_rev of_rev revision runs = grind (arith, nat_tests, with_line, same_number)

live_is : (a r : Runner) (P : Runner → Type 0) → live_in (Some (Live a)) ≡ Some r → P a → P r
live_is a r P is p = let same : a ≡ r = cc in subst P same p

fetch_follows : (start : Setup) (log : List Line) (runners : List Slot) (entries : List Entry) (id : ℕ) (task : Task) (key : List ℕ) (trace : List TraceItem) →
    Runs start log runners entries id task → HasList (situation start log id task) → run_on task.program (known_after_log start id task log).reads ≡ Wants key trace →
    is_below_floor (store start log).floor (at_of task.level (known_after_log start id task log).reads) ≡ false →
    FollowsStep start log (Step id) (fetch id (runner_for start log id task) key
    (revision_read (store start log).history (at_of task.level (known_after_log start id task log).reads)) (world_at start log runners entries))
unfolding fetch
fetch_follows start log runners entries id task key trace x listed wants readable =
    let h : History = (store start log).history in
    let reads : List ReadAnswer = (known_after_log start id task log).reads in
    let of_rev : ℕ = revision_read h (at_of task.level reads) in
    let known : Known = after_fetch task (answer_at h key of_rev) (known_after_log start id task log) in
    let new : KnowsTruth h known = fetch_true h task key (known_after_log start id task log) (known_truth start log runners entries id task x) in
    replied_follows start log runners entries id task
    (Live (record { task = task; failures = failures id log; known = known }))
    (Fetched id key (mod_of (key_at h key of_rev)) of_rev (now h)) x
    (refl, record { has_list = listed; trace = trace; wants = wants; readable = readable; shows = refl; modified = refl; carries = refl })
    refl refl refl refl
    (fetched_in_log start log id task key (mod_of (key_at h key of_rev)) of_rev (now h) x.running)
    (λ r is. live_is (record { task = task; failures = failures id log; known = known }) r (λ q. KnowsTruth h q.known) is new)
    (λ r is. live_is (record { task = task; failures = failures id log; known = known }) r (λ q. IsWellRun start q) is
    (fetch_runs start (runner_for start log id task) h key trace (counter start log runners entries id task x) listed wants
    (well_run start log runners entries id task x)))

-- the fetch of a list that is due, by whether it has too many keys
list_follows : (start : Setup) (log : List Line) (runners : List Slot) (entries : List Entry) (id : ℕ) (task : Task) (many : Bool) →
    Runs start log runners entries id task → is_due task.program.prefetch (known_after_log start id task log).reads ≡ true →
    nat_lt (store start log).limit (length task.program.prefetch) ≡ many →
    FollowsStep start log (Step id) (cond many (replied (Ended id (event_refusal TooManyOpsRefusal)) id Over (world_at start log runners entries))
    (replied (Prefetched id (now (store start log).history) (map (modified_now (store start log).history) task.program.prefetch)) id
    (Live (record { task = task; failures = failures id log; known = after_list task (store start log).history (known_after_log start id task log) }))
    (world_at start log runners entries)))
list_follows start log runners entries id task true x due is =
    ended_follows start log runners entries id task (Ended id (event_refusal TooManyOpsRefusal)) x (
      refl,
      record {
        by_store = TooManyOpsRefusal;
        named = refl;
        refused = inr (inr (refl, record { due = due; many = ltb-true (store start log).limit (length task.program.prefetch) is }));
      },
    ) refl refl refl refl refl
list_follows start log runners entries id task false x due is =
    let h : History = (store start log).history in
    let reads : List KeyRead = map (modified_now h) task.program.prefetch in
    let known : Known = after_list task h (known_after_log start id task log) in
    let new : KnowsTruth h known = prefetch_true h task (known_after_log start id task log) (known_truth start log runners entries id task x) in
    replied_follows start log runners entries id task
    (Live (record { task = task; failures = failures id log; known = known }))
    (Prefetched id (now h) reads) x
    (refl, record { due = due; few = ltb-false (store start log).limit (length task.program.prefetch) is; shows = refl; carries = refl })
    refl refl refl refl
    (listed_in_log start log id task (now h) reads x.running)
    (λ r is. live_is (record { task = task; failures = failures id log; known = known }) r (λ q. KnowsTruth h q.known) is new)
    (λ r is. live_is (record { task = task; failures = failures id log; known = known }) r (λ q. IsWellRun start q) is
    (list_runs start (runner_for start log id task) h (counter start log runners entries id task x) (well_run start log runners entries id task x)))

-- by whether the base is compacted
base_follows : (start : Setup) (log : List Line) (runners : List Slot) (entries : List Entry) (id : ℕ) (task : Task) (key : List ℕ) (trace : List TraceItem)
    (below : Bool) → Runs start log runners entries id task → HasList (situation start log id task) → run_on task.program (known_after_log start id task log).reads ≡ Wants key trace →
    is_below_floor (store start log).floor (at_of task.level (known_after_log start id task log).reads) ≡ below →
    FollowsStep start log (Step id) (cond below (replied (Ended id (event_refusal CompactedRefusal)) id Over (world_at start log runners entries))
    (fetch id (runner_for start log id task) key
    (revision_read (store start log).history (at_of task.level (known_after_log start id task log).reads)) (world_at start log runners entries)))
base_follows start log runners entries id task key trace true x listed wants is =
    ended_follows start log runners entries id task (Ended id (event_refusal CompactedRefusal)) x (
      refl,
      record {
        by_store = CompactedRefusal;
        named = refl;
        refused = inr (inl (refl, record { has_list = listed; key = key; trace = trace; wants = wants; compacted = is }));
      },
    ) refl refl refl refl refl
base_follows start log runners entries id task key trace false x listed wants is = fetch_follows start log runners entries id task key trace x listed wants is

-- ---- a commit that failed ----

conflict_in_log : (start : Setup) (log : List Line) (id : ℕ) (task : Task) (key : List ℕ) (seen modified : ℕ) → running id log ≡ Some task →
    runner_in_log start (with_line (Step id) (Ok (Conflict id key seen modified)) log) id ≡ Some (record {
      task = task;
      failures = failures id log + 1;
      known = after_conflict task (store start log).history (known_after_log start id task log);
    })
conflict_in_log start log id task key seen modified runs = grind (arith, nat_tests, with_line, same_number)

failed_by : (start : Setup) (log : List Line) (runners : List Slot) (entries : List Entry) (id : ℕ) (task : Task) (seen : Seen) (modified : ℕ) (more : Bool) →
    nat_lt (failures id log + 1) task.limit ≡ more → Runs start log runners entries id task →
    IsConflicted (situation start log id task) seen.key seen.mod_rev modified →
    FollowsStep start log (Step id) (cond more
    (replied (Conflict id seen.key seen.mod_rev modified) id (Live (record {
      task = task;
      failures = failures id log + 1;
      known = after_conflict task (store start log).history (known_after_log start id task log);
    })) (world_at start log runners entries))
    (replied (GaveUp id (failures id log + 1) seen.key seen.mod_rev modified) id Over (world_at start log runners entries)))
failed_by start log runners entries id task seen modified true left x conflicted =
    let h : History = (store start log).history in
    let some : failures id log + 1 < task.limit = ltb-true (failures id log + 1) task.limit left in
    let r : Runner = record { task = task; failures = failures id log + 1; known = after_conflict task h (known_after_log start id task log) } in
    replied_follows start log runners entries id task (Live r) (Conflict id seen.key seen.mod_rev modified) x (refl, some, conflicted) refl refl refl refl
    (conflict_in_log start log id task seen.key seen.mod_rev modified x.running)
    (λ q is. live_is r q (λ y. KnowsTruth h y.known) is (conflict_true h task (known_after_log start id task log)))
    (λ q is. live_is r q (λ y. IsWellRun start y) is
    (conflict_runs start task (failures id log + 1) h (known_after_log start id task log) (counter start log runners entries id task x) some))
failed_by start log runners entries id task seen modified false left x conflicted =
    let none : task.limit ≤ failures id log + 1 = ltb-false (failures id log + 1) task.limit left in
    let within : failures id log < task.limit = (well_run start log runners entries id task x).within in
    let last : failures id log + 1 ≡ task.limit = omega arith in
    ended_follows start log runners entries id task (GaveUp id (failures id log + 1) seen.key seen.mod_rev modified) x (refl, refl, last, conflicted)
    refl refl refl refl refl

-- ---- a commit that succeeded ----

begun_by : (b : Bool) (o : Option Task) (task : Task) → cond b None o ≡ Some task → o ≡ Some task
begun_by b o task is = grind (arith, nat_tests)

taken_follows : (start : Setup) (log : List Line) (runners : List Slot) (entries : List Entry) (id : ℕ) (task : Task) (run : Run) (done : Done) →
    CommitIsTheRunNow →
    Runs start log runners entries id task → HasList (situation start log id task) → run_on task.program (known_after_log start id task log).reads ≡ EndedRun run → run.end ≡ DoneEnd →
    committed (terms_of (store start log)) task.level (known_after_log start id task log).reads run ≡ Ok done →
    done.answer.failed ≡ None →
    FollowsStep start log (Step id) (take_commit id (runner_for start log id task) (known_after_log start id task log).reads run done
    (world_at start log runners entries))
taken_follows start log runners entries id task run done law x listed is_run is_done is none =
    let s : Standing = store start log in
    let reads : List ReadAnswer = (known_after_log start id task log).reads in
    let takes : Takes s task reads run done =
    record { truth = reads_truth start log runners entries id task x; is_run = is_run; is_done = is_done; comes_to = is; succeeds = none } in
    let came : Taken s task reads run done = taken s task reads run done law takes in
    let answers : List CommittedRead = map committed_read (answers_kept task.level reads) in
    let reply : Reply = Committed id (now done.history) (failures id log + 1) run.output run.trace answers in
    let after : List Line = with_line (Step id) (Ok reply) log in
    let begun_is : begun id log ≡ Some task = begun_by (is_over id log) (begun id log) task x.running in
    let well : IsWellRun start (runner_for start log id task) = well_run start log runners entries id task x in
    let again : reads_in s.history answers ≡ answers_kept task.level reads =
    kept_again s.history task (known_after_log start id task log) takes.truth well.current in
    let same : store start after ≡ with_history s done.history =
    ap (with_commit s answers) begun_is
    ∙ ap (λ (rs : List ReadAnswer). with_history s (left_by_run (run_over (seen_at task.level rs s.history) task.program.statements) (without_moment s)).history)
    again
    ∙ ap (λ (r : Replayed). with_history s r.history) came.replayed in
    let entry : Entry = entry_of task reads run (now done.history) in
    let left : failures id log < task.limit = well.within in
    let within : failures id log + 1 ≤ task.limit = omega arith in
    record {
      standing = sym same;
      follows = slot_touched start log runners entries (entry ∷ []) id (runner_for start log id task) Over reply x.follows
          (there start log runners entries id task x)
          (is_right start log id task reply x.running (
            refl,
            refl,
            within,
            record {
              done = done;
              commits = record { has_list = listed; run = run; is_run = is_run; is_done = is_done; comes_to = is };
              succeeds = none;
              is_alone = came.alone;
              emits = refl;
              sees = refl;
              changes = came.applies;
              reached = refl;
              reported = refl;
              in_order = answers_are_the_reads task.program reads run well.listed listed well.asked is_run;
            },
          ))
          refl (λ other ne. by_reply other reply ne) (over_now start log id reply refl) (λ r impossible. absurd (cc)) (λ r impossible. absurd (cc))
          (sym (ap (commit_entry s.history (now done.history) run.output run.trace answers) begun_is
          ∙ ap (λ (rs : List ReadAnswer). Program task.program task.level rs run.output run.trace (now done.history) ∷ []) again))
          (subst (λ (y : Standing). EntriesFollow s y (entry ∷ [])) (sym same) (commit_follows_entry s task reads run done takes came));
    }

-- ---- the commit ----

conflicted : (start : Setup) (log : List Line) (runners : List Slot) (entries : List Entry) (id : ℕ) (task : Task) (run : Run) (done : Done)
    (failed : FailedCompare) → FailedComparesConflict → Runs start log runners entries id task → HasList (situation start log id task) →
    run_on task.program (known_after_log start id task log).reads ≡ EndedRun run → run.end ≡ DoneEnd →
    committed (terms_of (store start log)) task.level (known_after_log start id task log).reads run ≡ Ok done →
    done.answer.failed ≡ Some failed →
    IsConflicted (situation start log id task)
    (seen_in (slice_get (seen_by (known_after_log start id task log).reads (latest_writes run.writes)) failed.index)).key
    (seen_in (slice_get (seen_by (known_after_log start id task log).reads (latest_writes run.writes)) failed.index)).mod_rev failed.mod_rev
conflicted start log runners entries id task run done failed law x listed is_run is_done is some =
    let s : Standing = store start log in
    let reads : List ReadAnswer = (known_after_log start id task log).reads in
    let failure : Fails s.history task.level reads run failed done = fails (terms_of s) task.level reads run failed done is some in
    let conflict : IsConflict s.history reads (latest_writes run.writes) failed =
    law s.history task.level reads (latest_writes run.writes) failed (reads_truth start log runners entries id task x) failure.conflict in
    record {
      done = done;
      commits = record { has_list = listed; run = run; is_run = is_run; is_done = is_done; comes_to = is };
      failed = failed;
      fails = some;
      unchanged = failure.unchanged;
      conflict = conflict;
      about = ap (λ (o : Option Seen). (seen_in o).key) conflict.about;
      was = ap (λ (o : Option Seen). (seen_in o).mod_rev) conflict.about;
      is = refl;
    }

-- what the laws of commits say, on which all this stands
pub record CommitLaws : Type 0 where
  pub run_now : CommitIsTheRunNow
  pub conflicts : FailedComparesConflict

decided_follows : (start : Setup) (log : List Line) (runners : List Slot) (entries : List Entry) (id : ℕ) (task : Task) (run : Run) (done : Done)
    (o : Option FailedCompare) → CommitLaws → Runs start log runners entries id task → HasList (situation start log id task) →
    run_on task.program (known_after_log start id task log).reads ≡ EndedRun run → run.end ≡ DoneEnd →
    committed (terms_of (store start log)) task.level (known_after_log start id task log).reads run ≡ Ok done →
    done.answer.failed ≡ o →
    FollowsStep start log (Step id) (decided id (runner_for start log id task) (known_after_log start id task log).reads run done o
    (world_at start log runners entries))
decided_follows start log runners entries id task run done None laws x listed is_run is_done is found =
    taken_follows start log runners entries id task run done laws.run_now x listed is_run is_done is found
decided_follows start log runners entries id task run done (Some failed) laws x listed is_run is_done is found =
    failed_by start log runners entries id task
    (seen_in (slice_get (seen_by (known_after_log start id task log).reads (latest_writes run.writes)) failed.index)) failed.mod_rev
    (nat_lt (failures id log + 1) task.limit) refl x
    (conflicted start log runners entries id task run done failed laws.conflicts x listed is_run is_done is found)

commit_follows : (start : Setup) (log : List Line) (runners : List Slot) (entries : List Entry) (id : ℕ) (task : Task) (run : Run) (o : Result Done StoreRefusal) →
    CommitLaws → Runs start log runners entries id task → HasList (situation start log id task) →
    run_on task.program (known_after_log start id task log).reads ≡ EndedRun run → run.end ≡ DoneEnd →
    committed (terms_of (store start log)) task.level (known_after_log start id task log).reads run ≡ o →
    FollowsStep start log (Step id) (commit_reported id (runner_for start log id task) (known_after_log start id task log).reads run o
    (world_at start log runners entries))
commit_follows start log runners entries id task run (Ok done) laws x listed is_run is_done is =
    decided_follows start log runners entries id task run done done.answer.failed laws x listed is_run is_done is refl
commit_follows start log runners entries id task run (Err cause) laws x listed is_run is_done is =
    ended_follows start log runners entries id task (Ended id (event_refusal cause)) x (
      refl,
      record {
        by_store = cause;
        named = refl;
        refused = inl (record { has_list = listed; run = run; is_run = is_run; is_done = is_done; comes_to = is });
      },
    ) refl refl refl refl refl

done_follows : (start : Setup) (log : List Line) (runners : List Slot) (entries : List Entry) (id : ℕ) (task : Task) (run : Run) →
    CommitLaws → Runs start log runners entries id task → HasList (situation start log id task) →
    run_on task.program (known_after_log start id task log).reads ≡ EndedRun run → run.end ≡ DoneEnd →
    FollowsStep start log (Step id) (commit id (runner_for start log id task) (known_after_log start id task log).reads run
    (world_at start log runners entries))
unfolding commit
done_follows start log runners entries id task run laws x listed is_run is_done = grind (arith, nat_tests, commit_follows)

end_follows : (start : Setup) (log : List Line) (runners : List Slot) (entries : List Entry) (id : ℕ) (task : Task) (run : Run) (end : End) →
    CommitLaws → Runs start log runners entries id task → HasList (situation start log id task) →
    run_on task.program (known_after_log start id task log).reads ≡ EndedRun run → run.end ≡ end →
    FollowsStep start log (Step id) (finish id (runner_for start log id task) (known_after_log start id task log).reads run end
    (world_at start log runners entries))
end_follows start log runners entries id task run DoneEnd laws x listed is_run ended = done_follows start log runners entries id task run laws x listed is_run ended
end_follows start log runners entries id task run (AbortedEnd text) laws x listed is_run ended =
    ended_follows start log runners entries id task (Aborted id text) x (refl, record { has_list = listed; run = run; is_run = is_run; ended = ended }) refl refl refl refl refl
end_follows start log runners entries id task run (FaultedEnd fault) laws x listed is_run ended =
    ended_follows start log runners entries id task (Faulted id fault) x (refl, record { has_list = listed; run = run; is_run = is_run; ended = ended }) refl refl refl refl refl

answered_follows : (start : Setup) (log : List Line) (runners : List Slot) (entries : List Entry) (id : ℕ) (task : Task) (answered : Answered) →
    CommitLaws → Runs start log runners entries id task → HasList (situation start log id task) → run_on task.program (known_after_log start id task log).reads ≡ answered →
    FollowsStep start log (Step id) (step_on id (runner_for start log id task) (known_after_log start id task log).reads answered
    (world_at start log runners entries))
answered_follows start log runners entries id task (Wants key trace) laws x listed is =
    base_follows start log runners entries id task key trace
    (is_below_floor (store start log).floor (at_of task.level (known_after_log start id task log).reads)) x listed is refl
answered_follows start log runners entries id task (EndedRun run) laws x listed is = end_follows start log runners entries id task run run.end laws x listed is refl

-- a step of a runner that runs
pub live_follows : (start : Setup) (log : List Line) (runners : List Slot) (entries : List Entry) (id : ℕ) (task : Task) →
    CommitLaws → Runs start log runners entries id task →
    FollowsStep start log (Step id) (step_live id (runner_for start log id task) (world_at start log runners entries))
unfolding step_live
live_follows start log runners entries id task laws x = grind (arith, nat_tests, list_follows, answered_follows)
