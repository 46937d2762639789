-- What a step of a runner does over a store, whatever the other runners and the entries are.
use Rattle.std.proofs.Common.{◌≡◌, ◌⊎◌, ℕ, ◌+◌, Bool, true, false, cond, List, length, map, Option, Some, None, Result, Ok, Err, arith, inl, inr, refl}
use Rattle.std.specs.Prelude.{nat_lt, slice_get}
use Rattle.std.proofs.lemmas.Bool.Decides.{nat_tests}
use Rattle.stm_history.specs.declared.key_state.ReadAnswer.{ReadAnswer}
use Rattle.stm_history.specs.History.{now, key_at, mod_of}
use Rattle.stm_program.specs.Writes.{latest_writes}
use Rattle.stm_steps.specs.declared.run.End.{End}
use Rattle.stm_steps.specs.declared.run.End.TheVariants.{Done as DoneEnd, Aborted as AbortedEnd, Faulted as FaultedEnd}
use Rattle.stm_steps.specs.declared.run.Run.{Run}
use Rattle.stm_steps.specs.declared.run.Answered.{Answered}
use Rattle.stm_steps.specs.declared.run.Answered.TheVariants.{Ended as EndedRun, Wants}
use Rattle.stm_outcome.specs.declared.answer.FailedCompare.{FailedCompare}
use Rattle.stm_outcome.specs.declared.refusal.Refusal.{Refusal as StoreRefusal}
use Rattle.stm_outcome.specs.Outcome.{Done}
use Rattle.stm_outcome.specs.Commits.{revision_read}
use Rattle.stm_txn.specs.Standing.{Standing, terms_of}
use Rattle.stm_outcome.specs.Terms.{is_below_floor}
use Rattle.stm_compile.specs.Committed.{committed}
use Rattle.stm_compile.specs.Conflicts.{Seen, seen_by, seen_in}
use Rattle.stm_attempt.specs.Settled.{run_on}
use Rattle.stm_attempt.specs.Entering.{is_due}
use Rattle.stm_attempt.specs.Fetches.{at_of}
use Rattle.stm_entries.specs.declared.entry.Entry.{Entry}
use Rattle.stm_entries.specs.Entered.{answers_kept}
use Rattle.stm_events.specs.declared.reply.Reply.{Reply}
use Rattle.stm_events.specs.declared.reply.Reply.TheVariants.{Prefetched, Fetched, Committed, Conflict, GaveUp, Aborted, Faulted, Ended}
use Rattle.stm_events.specs.declared.refusal.Denied.{Denied}
use Rattle.stm_events.specs.declared.refusal.EventRefusal.TheVariants.{NoRunner, TooManyOps as TooManyOpsRefusal, Compacted as CompactedRefusal}
use Rattle.stm_events.specs.Replies.{committed_read, event_refusal, denied}
use Rattle.stm_world.specs.Task.{answer_at, modified_now, after_list, after_fetch, after_conflict}
use Rattle.stm_world.specs.World.{World, Runner, Slot, Over, Live, Stepped, with_slot, replied, fetch, fetch_list, decided}
use Rattle.stm_world.specs.World.{commit_reported, commit, finish, step_on, step_live, step_runner}
use Rattle.stm_schedules.specs.declared.outcome.RunnerEnd.{RunnerEnd}
use Rattle.stm_schedules.specs.declared.outcome.RunnerEnd.TheVariants.{Committed as CommittedEnd, GaveUp as GaveUpEnd, Aborted as AbortedRun, Faulted as FaultedRun, Ended as EndedEnd}
use Rattle.stm_schedules.specs.Outcomes.{Ends, with_end, after_reported, IsKnown}

abbrev pub world : Standing → List Slot → List Entry → World
world s slots entries = record { standing = s; runners = slots; entries = entries }

-- a runner's place is written, or nothing is
abbrev pub put : ℕ → Option Slot → List Slot → List Slot
put id None slots = slots
put id (Some slot) slots = with_slot id slot slots

abbrev pub stepped : Result Reply Denied → World → Stepped
stepped reply next = record { reply = reply; next = next }

-- what is known of a runner's end is written, or nothing is
abbrev pub put_end : ℕ → Option RunnerEnd → Ends → Ends
put_end id None ends = ends
put_end id (Some end) ends = with_end id end ends

-- what is written fits together: an end where the run is over, and none where it goes on
abbrev pub IsKnownChange : Option Slot → Option RunnerEnd → Type 0
IsKnownChange None None = Unit {0}
IsKnownChange None (Some end) = ⊥
IsKnownChange (Some slot) end = IsKnown slot end

-- ---- what a step does over a store, whatever the other runners and the entries are

-- it enters nothing, makes one reply, and touches its own place at most
pub record Touches (id : ℕ) (s : Standing) (f : World → Stepped) : Type 0 where
  pub reply : Result Reply Denied
  pub slot : Option Slot
  pub end : Option RunnerEnd
  pub is : (slots : List Slot) (entries : List Entry) → f (world s slots entries) ≡ stepped reply (world s (put id slot slots) entries)
  pub known : (ends : Ends) → after_reported reply ends ≡ put_end id end ends
  pub fits : IsKnownChange slot end

-- its one reply is a commit, and its run is over
pub record Enters (id : ℕ) (s : Standing) (f : World → Stepped) : Type 0 where
  pub reply : Result Reply Denied
  pub end : RunnerEnd
  pub reports : (slots : List Slot) (entries : List Entry) → (f (world s slots entries)).reply ≡ reply
  pub over : (slots : List Slot) (entries : List Entry) → (f (world s slots entries)).next.runners ≡ with_slot id Over slots
  pub known : (ends : Ends) → after_reported reply ends ≡ with_end id end ends

abbrev pub Does : ℕ → Standing → (World → Stepped) → Type 0
Does id s f = Touches id s f ⊎ Enters id s f

does_alike : (id : ℕ) (s : Standing) (f g : World → Stepped) →
    ((slots : List Slot) (entries : List Entry) → g (world s slots entries) ≡ f (world s slots entries)) → Does id s f → Does id s g
does_alike id s f g same does = grind (arith, nat_tests)

fetch_touches : (id : ℕ) (r : Runner) (key : List ℕ) (of_rev : ℕ) (s : Standing) → Touches id s (fetch id r key of_rev)
unfolding fetch
fetch_touches id r key of_rev s = record {
  reply = Ok (Fetched id key (mod_of (key_at s.history key of_rev)) of_rev (now s.history));
  slot = Some (Live (record r { known = after_fetch r.task (answer_at s.history key of_rev) r.known }));
  end = None;
  is = λ slots entries. refl;
  known = λ ends. refl;
  fits = tt;
}

failed_by : (id : ℕ) (r : Runner) (seen : Seen) (now_modified : ℕ) (s : Standing) (b : Bool) → Touches id s (λ w. cond b
    (replied (Conflict id seen.key seen.mod_rev now_modified) id
    (Live (record { task = r.task; failures = r.failures + 1; known = after_conflict r.task w.standing.history r.known })) w)
    (replied (GaveUp id (r.failures + 1) seen.key seen.mod_rev now_modified) id Over w))
failed_by id r seen now_modified s true = record {
  reply = Ok (Conflict id seen.key seen.mod_rev now_modified);
  slot = Some (Live (record { task = r.task; failures = r.failures + 1; known = after_conflict r.task s.history r.known }));
  end = None;
  is = λ slots entries. refl;
  known = λ ends. refl;
  fits = tt;
}
failed_by id r seen now_modified s false = record {
  reply = Ok (GaveUp id (r.failures + 1) seen.key seen.mod_rev now_modified);
  slot = Some Over;
  end = Some (GaveUpEnd seen.key);
  is = λ slots entries. refl;
  known = λ ends. refl;
  fits = tt;
}

decided_does : (id : ℕ) (r : Runner) (reads : List ReadAnswer) (run : Run) (done : Done) (o : Option FailedCompare) (s : Standing) →
    Does id s (decided id r reads run done o)
decided_does id r reads run done None s = inr (record {
  reply = Ok (Committed id (now done.history) (r.failures + 1) run.output run.trace
      (map committed_read (answers_kept r.task.level reads)));
  end = CommittedEnd run.output;
  reports = λ slots entries. refl;
  over = λ slots entries. refl;
  known = λ ends. refl;
})
decided_does id r reads run done (Some failed) s =
    inl (failed_by id r (seen_in (slice_get (seen_by reads (latest_writes run.writes)) failed.index)) failed.mod_rev s (nat_lt (r.failures + 1) r.task.limit))

reported_does : (id : ℕ) (r : Runner) (reads : List ReadAnswer) (run : Run) (o : Result Done StoreRefusal) (s : Standing) →
    Does id s (commit_reported id r reads run o)
reported_does id r reads run (Ok done) s = decided_does id r reads run done done.answer.failed s
reported_does id r reads run (Err cause) s = inl (record {
  reply = Ok (Ended id (event_refusal cause));
  slot = Some Over;
  end = Some (EndedEnd (event_refusal cause));
  is = λ slots entries. refl;
  known = λ ends. refl;
  fits = tt;
})

commit_does : (id : ℕ) (r : Runner) (reads : List ReadAnswer) (run : Run) (s : Standing) → Does id s (commit id r reads run)
unfolding commit
commit_does id r reads run s =
    does_alike id s (commit_reported id r reads run (committed (terms_of s) r.task.level reads run)) (commit id r reads run)
    (λ slots entries. refl) (reported_does id r reads run (committed (terms_of s) r.task.level reads run) s)

finish_does : (id : ℕ) (r : Runner) (reads : List ReadAnswer) (run : Run) (end : End) (s : Standing) → Does id s (finish id r reads run end)
finish_does id r reads run DoneEnd s = commit_does id r reads run s
finish_does id r reads run (AbortedEnd text) s = inl (record {
  reply = Ok (Aborted id text);
  slot = Some Over;
  end = Some (AbortedRun text);
  is = λ slots entries. refl;
  known = λ ends. refl;
  fits = tt;
})
finish_does id r reads run (FaultedEnd fault) s = inl (record {
  reply = Ok (Faulted id fault);
  slot = Some Over;
  end = Some (FaultedRun fault);
  is = λ slots entries. refl;
  known = λ ends. refl;
  fits = tt;
})

-- a fetch, by whether its base is compacted
abbrev fetch_if : ℕ → Runner → List ℕ → ℕ → Standing → Bool → World → Stepped
fetch_if id r key base s true w = replied (Ended id CompactedRefusal) id Over w
fetch_if id r key base s false w = fetch id r key (revision_read s.history base) w

fetch_if_touches : (id : ℕ) (r : Runner) (key : List ℕ) (base : ℕ) (s : Standing) (below : Bool) → Touches id s (fetch_if id r key base s below)
fetch_if_touches id r key base s true = record {
  reply = Ok (Ended id CompactedRefusal);
  slot = Some Over;
  end = Some (EndedEnd CompactedRefusal);
  is = λ slots entries. refl;
  known = λ ends. refl;
  fits = tt;
}
fetch_if_touches id r key base s false = fetch_touches id r key (revision_read s.history base) s

same_fetch : (id : ℕ) (r : Runner) (key : List ℕ) (base : ℕ) (s : Standing) (slots : List Slot) (entries : List Entry) (below : Bool) →
    cond below (replied (Ended id CompactedRefusal) id Over (world s slots entries)) (fetch id r key (revision_read s.history base) (world s slots entries))
    ≡ fetch_if id r key base s below (world s slots entries)
same_fetch id r key base s slots entries below = grind (arith, nat_tests)

answered_does : (id : ℕ) (r : Runner) (reads : List ReadAnswer) (a : Answered) (s : Standing) → Does id s (step_on id r reads a)
answered_does id r reads (Wants key trace) s =
    let base : ℕ = at_of r.task.level reads in
    let below : Bool = is_below_floor s.floor base in
    does_alike id s (fetch_if id r key base s below) (step_on id r reads (Wants key trace))
    (λ slots entries. same_fetch id r key base s slots entries below) (inl (fetch_if_touches id r key base s below))
answered_does id r reads (EndedRun run) s = finish_does id r reads run run.end s

-- a fetch of a list, by whether it has too many keys
list_touches_by : (id : ℕ) (r : Runner) (s : Standing) (many : Bool) → Touches id s (λ w. cond many (replied (Ended id TooManyOpsRefusal) id Over w)
    (replied (Prefetched id (now w.standing.history) (map (modified_now w.standing.history) r.task.program.prefetch)) id
    (Live (record r { known = after_list r.task w.standing.history r.known })) w))
list_touches_by id r s true = record {
  reply = Ok (Ended id TooManyOpsRefusal);
  slot = Some Over;
  end = Some (EndedEnd TooManyOpsRefusal);
  is = λ slots entries. refl;
  known = λ ends. refl;
  fits = tt;
}
list_touches_by id r s false = record {
  reply = Ok (Prefetched id (now s.history) (map (modified_now s.history) r.task.program.prefetch));
  slot = Some (Live (record r { known = after_list r.task s.history r.known }));
  end = None;
  is = λ slots entries. refl;
  known = λ ends. refl;
  fits = tt;
}

list_does : (id : ℕ) (r : Runner) (s : Standing) → Does id s (fetch_list id r)
list_does id r s =
    does_alike id s
    (λ w. cond (nat_lt s.limit (length r.task.program.prefetch)) (replied (Ended id TooManyOpsRefusal) id Over w)
    (replied (Prefetched id (now w.standing.history) (map (modified_now w.standing.history) r.task.program.prefetch)) id
    (Live (record r { known = after_list r.task w.standing.history r.known })) w))
    (fetch_list id r) (λ slots entries. refl) (inl (list_touches_by id r s (nat_lt s.limit (length r.task.program.prefetch))))

does_by : (id : ℕ) (r : Runner) (s : Standing) (due : Bool) →
    Does id s (λ w. cond due (fetch_list id r w) (step_on id r r.known.reads (run_on r.task.program r.known.reads) w))
does_by id r s true = list_does id r s
does_by id r s false = answered_does id r r.known.reads (run_on r.task.program r.known.reads) s

live_does : (id : ℕ) (r : Runner) (s : Standing) → Does id s (step_live id r)
unfolding step_live
live_does id r s = does_by id r s (is_due r.task.program.prefetch r.known.reads)

pub runner_does : (id : ℕ) (o : Option Runner) (s : Standing) → Does id s (step_runner id o)
runner_does id None s =
    inl (record { reply = denied NoRunner; slot = None; end = None; is = λ slots entries. refl; known = λ ends. refl; fits = tt })
runner_does id (Some r) s = live_does id r s
