-- The numbers of the replies to a runner's step and to a start, and of the world after it.
use Rattle.std.proofs.Common.{◌≡◌, ℕ, suc, ◌+◌, ◌≤◌, Bool, true, false, cond, List, [], ◌∷◌, ◌++◌, length, map, refl, sym, ◌∙◌}
use Rattle.std.proofs.Common.{subst, arith, Option, Some, None, Ok, Err}
use Rattle.std.specs.Prelude.{Result, nat_eq, nat_lt, slice_get}
use Rattle.std.proofs.lemmas.Bool.{ltb-true, Decides.nat_tests}
use Rattle.std.proofs.lemmas.List.{length-append}
use Rattle.stm_history.specs.declared.key_state.ReadAnswer.{ReadAnswer}
use Rattle.stm_history.specs.declared.revisions.TheConstants.{HIGHEST_NUMBER}
use Rattle.stm_history.specs.History.{History, now, key_at, mod_of}
use Rattle.stm_program.specs.Limits.{BlockInRange}
use Rattle.stm_program.specs.Writes.{latest_writes}
use Rattle.stm_program.specs.Levels.{is_comparing}
use Rattle.stm_steps.specs.declared.run.End.{End}
use Rattle.stm_steps.specs.declared.run.End.TheVariants.{Done as DoneEnd, Aborted as AbortedEnd, Faulted as FaultedEnd}
use Rattle.stm_steps.specs.declared.run.Run.{Run}
use Rattle.stm_steps.specs.declared.run.Answered.{Answered}
use Rattle.stm_steps.specs.declared.run.Answered.TheVariants.{Ended as EndedRun, Wants}
use Rattle.stm_outcome.specs.declared.answer.FailedCompare.{FailedCompare}
use Rattle.stm_outcome.specs.declared.refusal.Refusal.{Refusal as StoreRefusal}
use Rattle.stm_outcome.specs.declared.refusal.Refusal.TheVariants.{TooManyOps as TooManyOpsRefusal, Compacted as CompactedRefusal}
use Rattle.stm_outcome.specs.Commits.{revision_read}
use Rattle.stm_outcome.specs.Outcome.{Done}
use Rattle.stm_outcome.specs.Terms.{is_below_floor}
use Rattle.stm_txn.specs.Standing.{terms_of}
use Rattle.stm_compile.specs.Answers.{look_up, AreTrue}
use Rattle.stm_compile.specs.Conflicts.{Seen, seen_in, seen_by, IsConflict}
use Rattle.stm_compile.specs.Committed.{committed}
use Rattle.stm_compile.proofs.ConflictLemmas.{failed_compares_conflict}
use Rattle.stm_attempt.specs.Entering.{is_due}
use Rattle.stm_attempt.specs.Fetches.{at_of}
use Rattle.stm_attempt.specs.Settled.{run_on}
use Rattle.stm_entries.specs.declared.entry.Entry.{Entry}
use Rattle.stm_entries.specs.Alone.{history_left}
use Rattle.stm_events.specs.declared.reply.Reply.{Reply}
use Rattle.stm_events.specs.declared.reply.Reply.TheVariants.{Started, Prefetched, Fetched, Conflict, GaveUp, Aborted, Faulted, Ended}
use Rattle.stm_events.specs.declared.refusal.EventRefusal.TheVariants.{BadLimit, NoRunner}
use Rattle.stm_events.specs.Replies.{event_refusal}
use Rattle.stm_world.specs.Task.{Task, answer_at, modified_now, after_list, after_fetch, after_conflict}
use Rattle.stm_world.specs.World.{World, Runner, Slot, Over, Live as LiveSlot, Stepped, live_in, runner_at, with_slot, refused, replied, begin, start_runner}
use Rattle.stm_world.specs.World.{fetch, fetch_list, entry_of, take_commit, decided, commit_reported, commit, finish, step_on, step_live, step_runner}
use Rattle.stm_world.specs.Sound.{IsSound}
use Rattle.stm_world.proofs.Sound.{worlds_are_sound}
use Rattle.stm_world.proofs.CommitCases.{fails, Fails}
use Rattle.stm_world.proofs.Slots.{differ, equal_numbers, runner_there, runner_own, runner_other, count_stays, runner_new, runner_old, count_grows}
use Rattle.stm_report_laws.proofs.SmallRuns.{run_fits}
use Rattle.stm_report_laws.proofs.SmallStores.{IsSmall, HistoryFits, commit_fits}
use Rattle.stm_report_laws.proofs.Plain.{Few, values_plain, traces_plain, line_of, and_number, and_text}
use Rattle.stm_report_laws.proofs.SmallReplies.{AnswersFit, AnswerToFits, RunnerFits, RunnersFit, WorldFits, mod_fits, low_fits, answers_fit, found_in}
use Rattle.stm_report_laws.proofs.SmallReplies.{keys_plain, plain_by_level, refused_fits, FailureFits, failure_fits, StepFits}

-- ---- runners

runners_set : (w : World) (id : ℕ) (r : Runner) (slot : Slot) → RunnersFit w.runners → runner_at id w.runners ≡ Some r →
    ((x : Runner) → live_in (Some slot) ≡ Some x → RunnerFits x) → RunnersFit (with_slot id slot w.runners)
runners_set w id r slot fits found mine other x at = grind (arith, nat_tests, runner_there, runner_own, RunnerFits, equal_numbers, runner_other, differ)

over_fits : (x : Runner) → live_in (Some Over) ≡ Some x → RunnerFits x
over_fits x is = absurd (cc)

live_fits : (r x : Runner) → RunnerFits r → live_in (Some (LiveSlot r)) ≡ Some x → RunnerFits x
live_fits r x fits is = let same : r ≡ x = cc in subst RunnerFits same fits

-- a step that leads a runner to another place, and changes nothing of the store
replied_fits : (n : ℕ) (w : World) (id : ℕ) (r : Runner) (slot : Slot) (reply : Reply) → WorldFits n w → runner_at id w.runners ≡ Some r →
    ((x : Runner) → live_in (Some slot) ≡ Some x → RunnerFits x) → IsSound (replied reply id slot w).next → AnswerToFits (Ok reply) →
    StepFits n (replied reply id slot w)
replied_fits n w id r slot reply fits found mine sound one = grind (arith, nat_tests, count_stays, runners_set)

-- where a runner stands that takes a step
record Stands (n : ℕ) (w : World) (id : ℕ) (r : Runner) : Type 0 where
  fits : WorldFits n w
  found : runner_at id w.runners ≡ Some r
  few : Few id

ended_fits : (n : ℕ) (w : World) (id : ℕ) (r : Runner) (reply : Reply) → Stands n w id r → IsSound (replied reply id Over w).next → AnswerToFits (Ok reply) →
    StepFits n (replied reply id Over w)
ended_fits n w id r reply at sound one = replied_fits n w id r Over reply at.fits at.found over_fits sound one

read_by : (h : History) (base : ℕ) (b : Bool) → HistoryFits h → base ≤ now h → Few (cond b (now h) base)
read_by h base b fits reached = grind (arith, nat_tests, low_fits, Few)

fetch_fits : (n : ℕ) (w : World) (id : ℕ) (r : Runner) (key : List ℕ) → Stands n w id r →
    IsSound (fetch id r key (revision_read w.standing.history (at_of r.task.level r.known.reads)) w).next →
    StepFits n (fetch id r key (revision_read w.standing.history (at_of r.task.level r.known.reads)) w)
unfolding fetch
fetch_fits n w id r key at sound =
    let h : History = w.standing.history in
    let base : ℕ = at_of r.task.level r.known.reads in
    let of_rev : ℕ = revision_read h base in
    let fits : HistoryFits h = at.fits.small.history in
    let next : Runner = record r { known = after_fetch r.task (answer_at h key of_rev) r.known } in
    let mine = at.fits.runners id r at.found in
    replied_fits n w id r (LiveSlot next) (Fetched id key (mod_of (key_at h key of_rev)) of_rev (now h)) at.fits at.found
    (λ x is. live_fits next x (record { limit = mine.limit; failures = mine.failures; literals = mine.literals }) is) sound
    (line_of (and_number id at.few (and_text (and_number (mod_of (key_at h key of_rev)) (mod_fits h key of_rev fits)
    (and_number of_rev (read_by h base (nat_eq base 0) fits (worlds_are_sound.base_is_reached w id r at.fits.sound at.found))
    (and_number (now h) (low_fits h fits) tt))))))

base_fits : (n : ℕ) (w : World) (id : ℕ) (r : Runner) (key : List ℕ) (below : Bool) → Stands n w id r →
    (let o : Stepped = cond below (replied (Ended id (event_refusal CompactedRefusal)) id Over w)
    (fetch id r key (revision_read w.standing.history (at_of r.task.level r.known.reads)) w) in IsSound o.next → StepFits n o)
base_fits n w id r key true at sound = ended_fits n w id r (Ended id (event_refusal CompactedRefusal)) at sound (line_of (and_number id at.few (and_text tt)))
base_fits n w id r key false at sound = fetch_fits n w id r key at sound

list_by : (n : ℕ) (w : World) (id : ℕ) (r : Runner) (many : Bool) → Stands n w id r →
    (let o : Stepped = cond many (replied (Ended id (event_refusal TooManyOpsRefusal)) id Over w)
    (replied (Prefetched id (now w.standing.history) (map (modified_now w.standing.history) r.task.program.prefetch)) id
    (LiveSlot (record r { known = after_list r.task w.standing.history r.known })) w) in IsSound o.next → StepFits n o)
list_by n w id r true at sound = ended_fits n w id r (Ended id (event_refusal TooManyOpsRefusal)) at sound (line_of (and_number id at.few (and_text tt)))
list_by n w id r false at sound =
    let h : History = w.standing.history in
    let next : Runner = record r { known = after_list r.task h r.known } in
    let mine = at.fits.runners id r at.found in
    replied_fits n w id r (LiveSlot next) (Prefetched id (now h) (map (modified_now h) r.task.program.prefetch)) at.fits at.found
    (λ x is. live_fits next x (record { limit = mine.limit; failures = mine.failures; literals = mine.literals }) is) sound
    (line_of (and_number id at.few (and_number (now h) (low_fits h at.fits.small.history)
    (keys_plain h r.task.program.prefetch at.fits.small.history, tt))))

fail_by : (n : ℕ) (w : World) (id : ℕ) (r : Runner) (seen : Seen) (failed : FailedCompare) (more : Bool) → Stands n w id r →
    nat_lt (r.failures + 1) r.task.limit ≡ more → FailureFits seen failed →
    (let o : Stepped = cond more
    (replied (Conflict id seen.key seen.mod_rev failed.mod_rev) id
    (LiveSlot (record { task = r.task; failures = r.failures + 1; known = after_conflict r.task w.standing.history r.known })) w)
    (replied (GaveUp id (r.failures + 1) seen.key seen.mod_rev failed.mod_rev) id Over w) in IsSound o.next → StepFits n o)
fail_by n w id r seen failed true at is f sound =
    let next : Runner = record { task = r.task; failures = r.failures + 1; known = after_conflict r.task w.standing.history r.known } in
    let mine = at.fits.runners id r at.found in
    replied_fits n w id r (LiveSlot next) (Conflict id seen.key seen.mod_rev failed.mod_rev) at.fits at.found
    (λ x same. live_fits next x (record { limit = mine.limit; failures = ltb-true (r.failures + 1) r.task.limit is; literals = mine.literals }) same)
    sound (line_of (and_number id at.few (and_text (and_number seen.mod_rev f.seen (and_number failed.mod_rev f.stands tt)))))
fail_by n w id r seen failed false at is f sound =
    ended_fits n w id r (GaveUp id (r.failures + 1) seen.key seen.mod_rev failed.mod_rev) at sound
    (line_of (and_number id at.few
    (and_number (r.failures + 1) (omega (arith, (at.fits.runners id r at.found).limit, (at.fits.runners id r at.found).failures))
    (and_text (and_number seen.mod_rev f.seen (and_number failed.mod_rev f.stands tt))))))

take_fits : (n : ℕ) (w : World) (id : ℕ) (r : Runner) (run : Run) (done : Done) → Stands n w id r → run_on r.task.program r.known.reads ≡ EndedRun run →
    HistoryFits done.history → IsSound (take_commit id r r.known.reads run done w).next → StepFits n (take_commit id r r.known.reads run done w)
take_fits n w id r run done at is_run left sound =
    let reads : List ReadAnswer = r.known.reads in
    let h : History = w.standing.history in
    let mine = at.fits.runners id r at.found in
    let answers : AnswersFit reads = answers_fit h reads at.fits.small.history (at.fits.sound.truth id r at.found).0 in
    let came = run_fits (look_up reads) (λ key a found. found_in reads key a answers found) r.task.program.statements run mine.literals is_run in
    let one : List Entry = entry_of r.task reads run (now done.history) ∷ [] in
    record {
      reply = line_of (and_number id at.few (and_number (now done.history) (low_fits done.history left)
          (and_number (r.failures + 1) (omega (arith, mine.limit, mine.failures))
          (values_plain run.output came.0, (traces_plain run.trace came.1, (plain_by_level reads (is_comparing r.task.level) answers, tt))))));
      next = record {
        sound = sound;
        small = record { history = left; live = at.fits.small.live; renewed = at.fits.small.renewed; moment = at.fits.small.moment };
        watchers = at.fits.watchers;
        watching = omega (arith, at.fits.watching);
        started = omega (arith, count_stays id w.runners Over, at.fits.started);
        runners = runners_set w id r Over at.fits.runners at.found over_fits;
        entries = omega (arith, at.fits.entries, length-append w.entries one);
      };
    }

decided_fits : (n : ℕ) (w : World) (id : ℕ) (r : Runner) (run : Run) (done : Done) (o : Option FailedCompare) → Stands n w id r →
    run_on r.task.program r.known.reads ≡ EndedRun run → committed (terms_of w.standing) r.task.level r.known.reads run ≡ Ok done →
    done.answer.failed ≡ o → IsSound (decided id r r.known.reads run done o w).next → StepFits n (decided id r r.known.reads run done o w)
decided_fits n w id r run done None at is_run comes none sound =
    let small : IsSmall w.standing = at.fits.small in
    take_fits n w id r run done at is_run
    (subst (λ (x : Result Done StoreRefusal). HistoryFits (history_left w.standing.history x)) comes
    (commit_fits w.standing r.task.level r.known.reads run small.live small.history)) sound
decided_fits n w id r run done (Some failed) at is_run comes some sound =
    let h : History = w.standing.history in
    let reads : List ReadAnswer = r.known.reads in
    let truth : AreTrue h reads = (at.fits.sound.truth id r at.found).0 in
    let fell : Fails h r.task.level reads run failed done = fails (terms_of w.standing) r.task.level reads run failed done comes some in
    let c : IsConflict h reads (latest_writes run.writes) failed =
    failed_compares_conflict h r.task.level reads (latest_writes run.writes) failed truth fell.conflict in
    fail_by n w id r (seen_in (slice_get (seen_by reads (latest_writes run.writes)) failed.index)) failed (nat_lt (r.failures + 1) r.task.limit) at refl
    (failure_fits h reads (latest_writes run.writes) failed at.fits.small.history (answers_fit h reads at.fits.small.history truth) c) sound

commit_by : (n : ℕ) (w : World) (id : ℕ) (r : Runner) (run : Run) (o : Result Done StoreRefusal) → Stands n w id r →
    run_on r.task.program r.known.reads ≡ EndedRun run → committed (terms_of w.standing) r.task.level r.known.reads run ≡ o →
    IsSound (commit_reported id r r.known.reads run o w).next → StepFits n (commit_reported id r r.known.reads run o w)
commit_by n w id r run (Ok done) at is_run comes sound = decided_fits n w id r run done done.answer.failed at is_run comes refl sound
commit_by n w id r run (Err cause) at is_run comes sound = ended_fits n w id r (Ended id (event_refusal cause)) at sound (line_of (and_number id at.few (and_text tt)))

commit_step : (n : ℕ) (w : World) (id : ℕ) (r : Runner) (run : Run) → Stands n w id r → run_on r.task.program r.known.reads ≡ EndedRun run →
    IsSound (commit id r r.known.reads run w).next → StepFits n (commit id r r.known.reads run w)
unfolding commit
commit_step n w id r run at is_run sound =
    commit_by n w id r run (committed (terms_of w.standing) r.task.level r.known.reads run) at is_run refl sound

finish_fits : (n : ℕ) (w : World) (id : ℕ) (r : Runner) (run : Run) (end : End) → Stands n w id r → run_on r.task.program r.known.reads ≡ EndedRun run →
    IsSound (finish id r r.known.reads run end w).next → StepFits n (finish id r r.known.reads run end w)
finish_fits n w id r run DoneEnd at is_run sound = commit_step n w id r run at is_run sound
finish_fits n w id r run (AbortedEnd text) at is_run sound = ended_fits n w id r (Aborted id text) at sound (line_of (and_number id at.few (and_text tt)))
finish_fits n w id r run (FaultedEnd fault) at is_run sound = ended_fits n w id r (Faulted id fault) at sound (line_of (and_number id at.few (and_text tt)))

answered_fits : (n : ℕ) (w : World) (id : ℕ) (r : Runner) (answered : Answered) → Stands n w id r → run_on r.task.program r.known.reads ≡ answered →
    IsSound (step_on id r r.known.reads answered w).next → StepFits n (step_on id r r.known.reads answered w)
answered_fits n w id r (Wants key trace) at is sound =
    base_fits n w id r key (is_below_floor w.standing.floor (at_of r.task.level r.known.reads)) at sound
answered_fits n w id r (EndedRun run) at is sound = finish_fits n w id r run run.end at is sound

due_by : (n : ℕ) (w : World) (id : ℕ) (r : Runner) (due : Bool) → Stands n w id r →
    (let o : Stepped = cond due (fetch_list id r w) (step_on id r r.known.reads (run_on r.task.program r.known.reads) w) in IsSound o.next → StepFits n o)
due_by n w id r true at sound = list_by n w id r (nat_lt w.standing.limit (length r.task.program.prefetch)) at sound
due_by n w id r false at sound = answered_fits n w id r (run_on r.task.program r.known.reads) at refl sound

live_step : (n : ℕ) (w : World) (id : ℕ) (r : Runner) → Stands n w id r → IsSound (step_live id r w).next → StepFits n (step_live id r w)
unfolding step_live
live_step n w id r at sound = due_by n w id r (is_due r.task.program.prefetch r.known.reads) at sound

-- a world that stays as it is
stays_fits : (n : ℕ) (w : World) → WorldFits n w → WorldFits (suc n) w
stays_fits n w fits = grind (arith, nat_tests)

pub runner_step : (n : ℕ) (w : World) (id : ℕ) (o : Option Runner) → WorldFits n w → Few id → runner_at id w.runners ≡ o →
    IsSound (step_runner id o w).next → StepFits n (step_runner id o w)
runner_step n w id None fits few is sound = record { reply = refused_fits NoRunner [] tt; next = stays_fits n w fits }
runner_step n w id (Some r) fits few is sound = live_step n w id r (record { fits = fits; found = is; few = few }) sound

-- ---- a start

start_by : (n : ℕ) (w : World) (task : Task) (none : Bool) → WorldFits n w → Few (suc n) → task.limit ≤ HIGHEST_NUMBER → BlockInRange task.program.statements →
    nat_eq task.limit 0 ≡ none →
    (let o : Stepped = cond none (refused BadLimit w) (record {
      reply = Ok (Started (length w.runners + 1));
      next = record { standing = w.standing; runners = w.runners ++ LiveSlot (begin task) ∷ []; entries = w.entries };
    }) in IsSound o.next → StepFits n o)
start_by n w task true fits room limit literals is sound = record { reply = refused_fits BadLimit [] tt; next = stays_fits n w fits }
start_by n w task false fits room limit literals is sound =
    let slot : Slot = LiveSlot (begin task) in
    let id : ℕ = length w.runners + 1 in
    let mine : RunnerFits (begin task) = record { limit = limit; failures = omega (arith, differ task.limit 0 is); literals = literals } in
    record {
      reply = line_of (and_number id (omega (arith, fits.started, room)) tt);
      next = record {
        sound = sound;
        small = fits.small;
        watchers = fits.watchers;
        watching = omega (arith, fits.watching);
        started = omega (arith, fits.started, count_grows w.runners slot);
        runners = λ other x at. elim (nat_eq id other) as (λ b. nat_eq id other ≡ b → RunnerFits x) [
          | true ↦ λ same. live_fits (begin task) x mine
              (sym (runner_new w.runners slot) ∙ subst (λ m. runner_at m (w.runners ++ slot ∷ []) ≡ Some x) (sym (equal_numbers id other same)) at)
          | false ↦ λ same. fits.runners other x (sym (runner_old w.runners slot other (λ e. differ id other same (sym e))) ∙ at)
        ] refl;
        entries = omega (arith, fits.entries);
      };
    }

pub start_fits : (n : ℕ) (w : World) (task : Task) → WorldFits n w → Few (suc n) → task.limit ≤ HIGHEST_NUMBER → BlockInRange task.program.statements →
    IsSound (start_runner task w).next → StepFits n (start_runner task w)
unfolding start_runner
start_fits n w task fits room limit literals sound = start_by n w task (nat_eq task.limit 0) fits room limit literals refl sound
