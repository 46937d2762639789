-- What a step of a runner at a serializable level comes to: its run goes on, or is over with nothing changed, or commits.
use Rattle.std.proofs.Common.{◌≡◌, ◌⊎◌, inl, inr, ℕ, ◌+◌, ◌≤◌, List, map, Option, Some, None, Result, Ok, Err, Bool, true, false, cond, refl, sym, ap, subst}
use Rattle.std.proofs.lemmas.Bool.{ltb-true, Decides.nat_tests}
use Rattle.std.specs.Prelude.{nat_lt, slice_get}
use Rattle.std.proofs.Common.{arith}
use Rattle.stm_history.specs.History.{History, now}
use Rattle.stm_program.specs.Levels.{is_comparing, is_serializable}
use Rattle.stm_program.specs.declared.level.Level.{Level}
use Rattle.stm_program.specs.Writes.{latest_writes}
use Rattle.stm_steps.specs.declared.run.End.{End}
use Rattle.stm_steps.specs.declared.run.End.TheVariants.{Done as DoneEnd, Aborted as AbortedEnd, Faulted as FaultedEnd}
use Rattle.stm_steps.specs.declared.run.Run.{Run}
use Rattle.stm_steps.specs.declared.run.Answered.TheVariants.{Ended as EndedRun, Wants}
use Rattle.stm_steps.specs.declared.trace_item.TraceItem.{TraceItem}
use Rattle.stm_meaning.specs.Meaning.{run_over}
use Rattle.stm_outcome.specs.declared.answer.FailedCompare.{FailedCompare}
use Rattle.stm_outcome.specs.declared.refusal.Refusal.{Refusal as StoreRefusal}
use Rattle.stm_outcome.specs.Outcome.{Done}
use Rattle.stm_outcome.specs.Commits.{revision_read}
use Rattle.stm_txn.specs.Standing.{Setup, terms_of}
use Rattle.stm_compile.specs.Answers.{AreTrue, state_now}
use Rattle.stm_compile.specs.Committed.{committed}
use Rattle.stm_compile.specs.Conflicts.{Seen, seen_in, seen_by}
use Rattle.stm_compile.proofs.AgreeLemmas.{commit_is_the_run_now}
use Rattle.stm_attempt.specs.Settled.{run_on}
use Rattle.stm_attempt.specs.Entering.{is_due}
use Rattle.stm_attempt.specs.Fetches.{at_of}
use Rattle.stm_events.specs.declared.event.WorldEvent.TheVariants.{Step}
use Rattle.stm_events.specs.declared.reply.Reply.{Reply}
use Rattle.stm_events.specs.declared.reply.Reply.TheVariants.{Prefetched, Conflict, GaveUp, Ended}
use Rattle.stm_events.specs.declared.refusal.EventRefusal.TheVariants.{TooManyOps as TooManyOpsRefusal, Compacted as CompactedRefusal}
use Rattle.stm_events.specs.Replies.{event_refusal}
use Rattle.stm_world.specs.Task.{answer_at, modified_now, after_list, after_fetch, after_conflict}
use Rattle.stm_world.specs.World.{World, Runner, Over, Live, Stepped, runner_at, with_slot, replied, fetch, fetch_list, take_commit, decided}
use Rattle.stm_world.specs.World.{commit_reported, commit, finish, step_on, step_live, step}
use Rattle.stm_world.specs.Sound.{IsSound}
use Rattle.stm_world.proofs.Bases.{IsWellRun, fetch_runs, list_runs, conflict_runs}
use Rattle.stm_world.proofs.CommitEntries.{Takes, Taken, taken}
use Rattle.stm_schedules.specs.declared.outcome.RunnerEnd.{RunnerEnd}
use Rattle.stm_schedules.specs.declared.outcome.RunnerEnd.TheVariants as how
use Rattle.stm_schedules.specs.Outcomes.{Ends, with_end, after_reported}
use Rattle.stm_serial.specs.Serial.{alone}
use Rattle.stm_serial.proofs.StepCases.{few}
use Rattle.stm_serial_laws.specs.Ends.{counts, end_by}
use Rattle.stm_serial_laws.proofs.BaseReads.{BaseFrom, fetch_from, list_from, conflict_from}

-- a run that does not come to its last statement
abbrev pub Stops : End → Type 0
Stops DoneEnd = ⊥
Stops (AbortedEnd text) = Unit {0}
Stops (FaultedEnd fault) = Unit {0}

-- the run goes on
pub record GoesOn (start : Setup) (id : ℕ) (r : Runner) (w : World) (x : Stepped) : Type 0 where
  pub after : Runner
  pub task : after.task ≡ r.task
  pub well : IsWellRun start after
  pub base : BaseFrom w.standing.history r.known.reads after.known.reads
  pub next : x.next ≡ record { standing = w.standing; runners = with_slot id (Live after) w.runners; entries = w.entries }
  pub ends : (ends : Ends) → after_reported x.reply ends ≡ ends

-- the run has come to an abort or a fault on what the attempt has read
pub record Stopped (r : Runner) (end : RunnerEnd) : Type 0 where
  pub run : Run
  pub is_run : run_on r.task.program r.known.reads ≡ EndedRun run
  pub stops : Stops run.end
  pub is : end ≡ end_by run.output run.end

-- the run is over, and nothing else has changed: it has given up, or the store has ended it, or it has come to an abort or a fault
pub record IsOver (id : ℕ) (r : Runner) (w : World) (x : Stepped) : Type 0 where
  pub end : RunnerEnd
  pub why : (counts end ≡ false) ⊎ Stopped r end
  pub next : x.next ≡ record { standing = w.standing; runners = with_slot id Over w.runners; entries = w.entries }
  pub ends : (ends : Ends) → after_reported x.reply ends ≡ with_end id end ends

-- the run is over, and the store is as its program's run alone leaves it
pub record Commits (id : ℕ) (r : Runner) (w : World) (x : Stepped) : Type 0 where
  pub run : Run
  pub is_run : run_over (state_now w.standing.history) r.task.program.statements ≡ EndedRun run
  pub done : run.end ≡ DoneEnd
  pub standing : x.next.standing ≡ alone r.task.program w.standing
  pub runners : x.next.runners ≡ with_slot id Over w.runners
  pub ends : (ends : Ends) → after_reported x.reply ends ≡ with_end id (how.Committed run.output) ends

abbrev pub Does : Setup → ℕ → Runner → World → Stepped → Type 0
Does start id r w x = GoesOn start id r w x ⊎ (IsOver id r w x ⊎ Commits id r w x)

-- a runner at a serializable level that is well run, over a store whose counter is no 0
pub record IsReady (start : Setup) (w : World) (r : Runner) : Type 0 where
  pub level : is_serializable r.task.level ≡ true
  pub counter : 1 ≤ now w.standing.history
  pub well : IsWellRun start r

pub serializable_compares : (level : Level) → is_serializable level ≡ true → is_comparing level ≡ true
serializable_compares level is = grind (arith, nat_tests)

-- a reply that ends the run, where that does not count
uncounted : (start : Setup) (id : ℕ) (r : Runner) (w : World) (reply : Reply) (end : RunnerEnd) → counts end ≡ false →
    ((ends : Ends) → after_reported (Ok reply) ends ≡ with_end id end ends) → Does start id r w (replied reply id Over w)
uncounted start id r w reply end none told = inr (inl (record { end = end; why = inl none; next = refl; ends = told }))

-- ---- a commit

take_does : (start : Setup) (w : World) (id : ℕ) (r : Runner) (run : Run) (done : Done) → is_comparing r.task.level ≡ true →
    Takes w.standing r.task r.known.reads run done → Does start id r w (take_commit id r r.known.reads run done w)
take_does start w id r run done compares takes = grind (arith, nat_tests, Taken, taken, commit_is_the_run_now, few)

fail_by : (start : Setup) (w : World) (id : ℕ) (r : Runner) (seen : Seen) (modified : ℕ) (more : Bool) → IsReady start w r →
    nat_lt (r.failures + 1) r.task.limit ≡ more → Does start id r w (cond more
    (replied (Conflict id seen.key seen.mod_rev modified) id
    (Live (record { task = r.task; failures = r.failures + 1; known = after_conflict r.task w.standing.history r.known })) w)
    (replied (GaveUp id (r.failures + 1) seen.key seen.mod_rev modified) id Over w))
fail_by start w id r seen modified true ready left = inl (record {
  after = record { task = r.task; failures = r.failures + 1; known = after_conflict r.task w.standing.history r.known };
  task = refl;
  well = conflict_runs start r.task (r.failures + 1) w.standing.history r.known (λ opens. ready.counter) (ltb-true (r.failures + 1) r.task.limit left);
  base = conflict_from r.task w.standing.history r.known;
  next = refl;
  ends = λ ends. refl;
})
fail_by start w id r seen modified false ready left =
    uncounted start id r w (GaveUp id (r.failures + 1) seen.key seen.mod_rev modified) (how.GaveUp seen.key) refl (λ ends. refl)

-- a runner that is ready, and knows the truth, whose program is done
record IsDone (start : Setup) (w : World) (r : Runner) (run : Run) : Type 0 where
  ready : IsReady start w r
  truth : AreTrue w.standing.history r.known.reads
  is_run : run_on r.task.program r.known.reads ≡ EndedRun run
  is_done : run.end ≡ DoneEnd

decided_does : (start : Setup) (w : World) (id : ℕ) (r : Runner) (run : Run) (done : Done) (o : Option FailedCompare) → IsDone start w r run →
    committed (terms_of w.standing) r.task.level r.known.reads run ≡ Ok done → done.answer.failed ≡ o →
    Does start id r w (decided id r r.known.reads run done o w)
decided_does start w id r run done None x comes_to none =
    take_does start w id r run done (serializable_compares r.task.level x.ready.level)
    (record { truth = x.truth; is_run = x.is_run; is_done = x.is_done; comes_to = comes_to; succeeds = none })
decided_does start w id r run done (Some failed) x comes_to some =
    fail_by start w id r (seen_in (slice_get (seen_by r.known.reads (latest_writes run.writes)) failed.index)) failed.mod_rev
    (nat_lt (r.failures + 1) r.task.limit) x.ready refl

reported_does : (start : Setup) (w : World) (id : ℕ) (r : Runner) (run : Run) (o : Result Done StoreRefusal) → IsDone start w r run →
    committed (terms_of w.standing) r.task.level r.known.reads run ≡ o → Does start id r w (commit_reported id r r.known.reads run o w)
reported_does start w id r run (Ok done) x is = decided_does start w id r run done done.answer.failed x is refl
reported_does start w id r run (Err cause) x is =
    uncounted start id r w (Ended id (event_refusal cause)) (how.Ended (event_refusal cause)) refl (λ ends. refl)

commit_does : (start : Setup) (w : World) (id : ℕ) (r : Runner) (run : Run) → IsDone start w r run → Does start id r w (commit id r r.known.reads run w)
unfolding commit
commit_does start w id r run x = reported_does start w id r run (committed (terms_of w.standing) r.task.level r.known.reads run) x refl

-- ---- the other steps

finish_does : (start : Setup) (w : World) (id : ℕ) (r : Runner) (run : Run) (e : End) → IsReady start w r → AreTrue w.standing.history r.known.reads →
    run_on r.task.program r.known.reads ≡ EndedRun run → run.end ≡ e → Does start id r w (finish id r r.known.reads run e w)
finish_does start w id r run DoneEnd ready truth is_run ended =
    commit_does start w id r run (record { ready = ready; truth = truth; is_run = is_run; is_done = ended })
finish_does start w id r run (AbortedEnd text) ready truth is_run ended = inr (inl (record {
  end = how.Aborted text;
  why = inr (record { run = run; is_run = is_run; stops = subst Stops (sym ended) tt; is = ap (end_by run.output) (sym ended) });
  next = refl;
  ends = λ ends. refl;
}))
finish_does start w id r run (FaultedEnd fault) ready truth is_run ended = inr (inl (record {
  end = how.Faulted fault;
  why = inr (record { run = run; is_run = is_run; stops = subst Stops (sym ended) tt; is = ap (end_by run.output) (sym ended) });
  next = refl;
  ends = λ ends. refl;
}))

fetch_does : (start : Setup) (w : World) (id : ℕ) (r : Runner) (key : List ℕ) (trace : List TraceItem) → IsReady start w r →
    is_due r.task.program.prefetch r.known.reads ≡ false → run_on r.task.program r.known.reads ≡ Wants key trace →
    Does start id r w (fetch id r key (revision_read w.standing.history (at_of r.task.level r.known.reads)) w)
unfolding fetch
fetch_does start w id r key trace ready not wants =
    let h : History = w.standing.history in
    let of_rev : ℕ = revision_read h (at_of r.task.level r.known.reads) in
    inl (record {
      after = record r { known = after_fetch r.task (answer_at h key of_rev) r.known };
      task = refl;
      well = fetch_runs start r h key trace (λ opens. ready.counter) not wants ready.well;
      base = fetch_from r.task h key r.known ready.level not;
      next = refl;
      ends = λ ends. refl;
    })

base_does : (start : Setup) (w : World) (id : ℕ) (r : Runner) (key : List ℕ) (trace : List TraceItem) (below : Bool) → IsReady start w r →
    is_due r.task.program.prefetch r.known.reads ≡ false → run_on r.task.program r.known.reads ≡ Wants key trace →
    Does start id r w (cond below (replied (Ended id CompactedRefusal) id Over w)
    (fetch id r key (revision_read w.standing.history (at_of r.task.level r.known.reads)) w))
base_does start w id r key trace true ready not wants =
    uncounted start id r w (Ended id CompactedRefusal) (how.Ended CompactedRefusal) refl (λ ends. refl)
base_does start w id r key trace false ready not wants = fetch_does start w id r key trace ready not wants

list_does : (start : Setup) (w : World) (id : ℕ) (r : Runner) (many : Bool) → IsReady start w r → is_due r.task.program.prefetch r.known.reads ≡ true →
    Does start id r w (cond many (replied (Ended id TooManyOpsRefusal) id Over w)
    (replied (Prefetched id (now w.standing.history) (map (modified_now w.standing.history) r.task.program.prefetch)) id
    (Live (record r { known = after_list r.task w.standing.history r.known })) w))
list_does start w id r true ready due =
    uncounted start id r w (Ended id TooManyOpsRefusal) (how.Ended TooManyOpsRefusal) refl (λ ends. refl)
list_does start w id r false ready due = inl (record {
  after = record r { known = after_list r.task w.standing.history r.known };
  task = refl;
  well = list_runs start r w.standing.history (λ opens. ready.counter) ready.well;
  base = list_from r.task w.standing.history r.known due;
  next = refl;
  ends = λ ends. refl;
})

live_by : (start : Setup) (w : World) (id : ℕ) (r : Runner) (due : Bool) → IsReady start w r → AreTrue w.standing.history r.known.reads →
    is_due r.task.program.prefetch r.known.reads ≡ due →
    Does start id r w (cond due (fetch_list id r w) (step_on id r r.known.reads (run_on r.task.program r.known.reads) w))
live_by start w id r due ready truth not = grind (arith, nat_tests, list_does, base_does, finish_does)

pub step_does : (start : Setup) (w : World) (id : ℕ) (r : Runner) → IsReady start w r → IsSound w → runner_at id w.runners ≡ Some r →
    Does start id r w (step (Step id) w)
unfolding step_live
step_does start w id r ready sound found = grind (arith, nat_tests, live_by)
