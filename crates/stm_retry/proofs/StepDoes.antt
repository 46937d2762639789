-- What a runner's step does, whatever the other runners are.
use Rattle.std.proofs.Common.{◌≡◌, ◌∙◌, ◌+◌, ℕ, Bool, true, false, cond, List, length, map, Option, Some, None, Result, Ok, Err, refl, sym, ap, arith}
use Rattle.std.specs.Prelude.{nat_lt, slice_get}
use Rattle.std.proofs.lemmas.Bool.Decides.{nat_tests}
use Rattle.stm_history.specs.declared.key_state.ReadAnswer.{ReadAnswer}
use Rattle.stm_history.specs.History.{now, key_at, mod_of}
use Rattle.stm_program.specs.Writes.{latest_writes}
use Rattle.stm_steps.specs.declared.run.End.{End}
use Rattle.stm_steps.specs.declared.run.End.TheVariants.{Done as DoneEnd, Aborted as AbortedEnd, Faulted as FaultedEnd}
use Rattle.stm_steps.specs.declared.run.Run.{Run}
use Rattle.stm_steps.specs.declared.run.Answered.{Answered}
use Rattle.stm_steps.specs.declared.run.Answered.TheVariants.{Ended as EndedRun, Wants}
use Rattle.stm_outcome.specs.declared.answer.FailedCompare.{FailedCompare}
use Rattle.stm_outcome.specs.declared.refusal.Refusal.{Refusal as StoreRefusal}
use Rattle.stm_outcome.specs.declared.refusal.Refusal.TheVariants.{TooManyOps as TooManyOpsRefusal, Compacted as CompactedRefusal}
use Rattle.stm_outcome.specs.Outcome.{Done}
use Rattle.stm_outcome.specs.Commits.{revision_read}
use Rattle.stm_outcome.specs.Terms.{is_below_floor}
use Rattle.stm_txn.specs.Standing.{Standing, terms_of, with_history}
use Rattle.stm_compile.specs.Committed.{committed}
use Rattle.stm_compile.specs.Conflicts.{Seen, seen_by, seen_in}
use Rattle.stm_attempt.specs.Settled.{run_on}
use Rattle.stm_attempt.specs.Entering.{is_due}
use Rattle.stm_attempt.specs.Fetches.{at_of}
use Rattle.stm_entries.specs.declared.entry.Entry.{Entry}
use Rattle.stm_entries.specs.Entered.{answers_kept}
use Rattle.stm_events.specs.declared.event.WorldEvent.TheVariants.{Step}
use Rattle.stm_events.specs.declared.reply.Reply.{Reply}
use Rattle.stm_events.specs.declared.reply.Reply.TheVariants.{Prefetched, Fetched, Committed, Conflict, GaveUp, Aborted, Faulted, Ended}
use Rattle.stm_events.specs.declared.refusal.Denied.{Denied}
use Rattle.stm_events.specs.Replies.{committed_read, event_refusal}
use Rattle.stm_world.specs.Task.{answer_at, modified_now, after_list, after_fetch, after_conflict}
use Rattle.stm_world.specs.World.{World, Runner, Slot, Over, Live, Stepped, runner_at, with_slot, replied, fetch, fetch_list, decided}
use Rattle.stm_world.specs.World.{commit_reported, commit, finish, step_on, step_live, step_runner, step}
use Rattle.stm_retry.specs.Quiet.{is_commit}
use Rattle.stm_retry.specs.WorldOf.{with_places}

abbrev pub world : Standing → List Slot → List Entry → World
world s slots entries = record { standing = s; runners = slots; entries = entries }

abbrev pub after_step : ℕ → World → World
after_step id w = (step (Step id) w).next

-- ---- what a runner's step does in a store, whatever the other runners are

-- it makes one reply, leaves one store, of the same floor, and writes its own place; store and entries stay unless it commits
pub record Does (id : ℕ) (s : Standing) (entries : List Entry) (x : List Slot → Stepped) : Type 0 where
  pub reply : Result Reply Denied
  pub standing : Standing
  pub slot : Slot
  pub replies : (slots : List Slot) → (x slots).reply ≡ reply
  pub leaves : (slots : List Slot) → (x slots).next.standing ≡ standing
  pub puts : (slots : List Slot) → (x slots).next.runners ≡ with_slot id slot slots
  pub floor : standing.floor ≡ s.floor
  pub stays : is_commit reply ≡ false → standing ≡ s
  pub enters : is_commit reply ≡ false → (slots : List Slot) → (x slots).next.entries ≡ entries

by_test : (id : ℕ) (s : Standing) (entries : List Entry) (b : Bool) (x y : List Slot → Stepped) → Does id s entries x → Does id s entries y → Does id s entries (λ slots. cond b (x slots) (y slots))
by_test id s entries true x y first second = first
by_test id s entries false x y first second = second

replied_does : (id : ℕ) (s : Standing) (reply : Reply) (slot : Slot) (entries : List Entry) → Does id s entries (λ slots. replied reply id slot (world s slots entries))
replied_does id s reply slot entries =
    record {
      reply = Ok reply;
      standing = s;
      slot = slot;
      replies = λ slots. refl;
      leaves = λ slots. refl;
      puts = λ slots. refl;
      floor = refl;
      stays = λ quiet. refl;
      enters = λ quiet slots. refl;
    }

fetch_does : (id : ℕ) (s : Standing) (r : Runner) (key : List ℕ) (of_rev : ℕ) (entries : List Entry) → Does id s entries (λ slots. fetch id r key of_rev (world s slots entries))
unfolding fetch
fetch_does id s r key of_rev entries = replied_does id s (Fetched id key (mod_of (key_at s.history key of_rev)) of_rev (now s.history))
    (Live (record r { known = after_fetch r.task (answer_at s.history key of_rev) r.known })) entries

decided_does : (id : ℕ) (s : Standing) (r : Runner) (reads : List ReadAnswer) (run : Run) (done : Done) (o : Option FailedCompare) (entries : List Entry) →
    Does id s entries (λ slots. decided id r reads run done o (world s slots entries))
decided_does id s r reads run done None entries = record {
  reply = Ok (Committed id (now done.history) (r.failures + 1) run.output run.trace (map committed_read (answers_kept r.task.level reads)));
  standing = with_history s done.history;
  slot = Over;
  replies = λ slots. refl;
  leaves = λ slots. refl;
  puts = λ slots. refl;
  floor = refl;
  stays = λ quiet. absurd (cc);
  enters = λ quiet slots. absurd (cc);
}
decided_does id s r reads run done (Some failed) entries =
    let seen : Seen = seen_in (slice_get (seen_by reads (latest_writes run.writes)) failed.index) in
    by_test id s entries (nat_lt (r.failures + 1) r.task.limit)
    (λ slots. replied (Conflict id seen.key seen.mod_rev failed.mod_rev) id
    (Live (record { task = r.task; failures = r.failures + 1; known = after_conflict r.task s.history r.known })) (world s slots entries))
    (λ slots. replied (GaveUp id (r.failures + 1) seen.key seen.mod_rev failed.mod_rev) id Over (world s slots entries))
    (replied_does id s _ _ entries) (replied_does id s _ _ entries)

reported_does : (id : ℕ) (s : Standing) (r : Runner) (reads : List ReadAnswer) (run : Run) (o : Result Done StoreRefusal) (entries : List Entry) →
    Does id s entries (λ slots. commit_reported id r reads run o (world s slots entries))
reported_does id s r reads run (Ok done) entries = decided_does id s r reads run done done.answer.failed entries
reported_does id s r reads run (Err cause) entries = replied_does id s (Ended id (event_refusal cause)) Over entries

commit_does : (id : ℕ) (s : Standing) (r : Runner) (reads : List ReadAnswer) (run : Run) (entries : List Entry) →
    Does id s entries (λ slots. commit id r reads run (world s slots entries))
unfolding commit
commit_does id s r reads run entries = reported_does id s r reads run (committed (terms_of s) r.task.level reads run) entries

finish_does : (id : ℕ) (s : Standing) (r : Runner) (reads : List ReadAnswer) (run : Run) (end : End) (entries : List Entry) →
    Does id s entries (λ slots. finish id r reads run end (world s slots entries))
finish_does id s r reads run DoneEnd entries = commit_does id s r reads run entries
finish_does id s r reads run (AbortedEnd text) entries = replied_does id s (Aborted id text) Over entries
finish_does id s r reads run (FaultedEnd fault) entries = replied_does id s (Faulted id fault) Over entries

answered_does : (id : ℕ) (s : Standing) (r : Runner) (reads : List ReadAnswer) (answered : Answered) (entries : List Entry) →
    Does id s entries (λ slots. step_on id r reads answered (world s slots entries))
answered_does id s r reads (Wants key trace) entries =
    by_test id s entries (is_below_floor s.floor (at_of r.task.level reads)) (λ slots. replied (Ended id (event_refusal CompactedRefusal)) id Over (world s slots entries))
    (λ slots. fetch id r key (revision_read s.history (at_of r.task.level reads)) (world s slots entries))
    (replied_does id s _ Over entries) (fetch_does id s r key (revision_read s.history (at_of r.task.level reads)) entries)
answered_does id s r reads (EndedRun run) entries = finish_does id s r reads run run.end entries

list_does : (id : ℕ) (s : Standing) (r : Runner) (entries : List Entry) → Does id s entries (λ slots. fetch_list id r (world s slots entries))
list_does id s r entries =
    by_test id s entries (nat_lt s.limit (length r.task.program.prefetch)) (λ slots. replied (Ended id (event_refusal TooManyOpsRefusal)) id Over (world s slots entries))
    (λ slots. replied (Prefetched id (now s.history) (map (modified_now s.history) r.task.program.prefetch)) id
    (Live (record r { known = after_list r.task s.history r.known })) (world s slots entries))
    (replied_does id s _ Over entries) (replied_does id s _ _ entries)

pub step_does : (id : ℕ) (s : Standing) (r : Runner) (entries : List Entry) → Does id s entries (λ slots. step_live id r (world s slots entries))
unfolding step_live
step_does id s r entries =
    by_test id s entries (is_due r.task.program.prefetch r.known.reads) (λ slots. fetch_list id r (world s slots entries))
    (λ slots. step_on id r r.known.reads (run_on r.task.program r.known.reads) (world s slots entries))
    (list_does id s r entries) (answered_does id s r r.known.reads (run_on r.task.program r.known.reads) entries)

-- a step of a runner that is there
pub step_of : (id : ℕ) (w : World) (r : Runner) → runner_at id w.runners ≡ Some r → step (Step id) w ≡ step_live id r w
step_of id w r there = ap (λ (o : Option Runner). step_runner id o w) there

-- ---- a step that does not commit

same_but_places : (v w : World) → v.standing ≡ w.standing → v.entries ≡ w.entries → v ≡ with_places v.runners w
same_but_places v w standing entries = grind (arith, nat_tests)

quiet_by : (id : ℕ) (w : World) (o : Option Runner) → is_commit (step_runner id o w).reply ≡ false → (step_runner id o w).next ≡ with_places (step_runner id o w).next.runners w
quiet_by id w None quiet = refl
quiet_by id w (Some r) quiet =
    let does = step_does id w.standing r w.entries in
    let none : is_commit does.reply ≡ false = ap is_commit (sym (does.replies w.runners)) ∙ quiet in
    same_but_places (step_live id r w).next w (does.leaves w.runners ∙ does.stays none) (does.enters none w.runners)

-- it leaves the store and the entries as they were
pub quiet_keeps : (id : ℕ) (w : World) → is_commit (step (Step id) w).reply ≡ false → (step (Step id) w).next ≡ with_places (step (Step id) w).next.runners w
quiet_keeps id w quiet = quiet_by id w (runner_at id w.runners) quiet
