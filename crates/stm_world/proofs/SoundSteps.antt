-- A world stays sound from step to step.
use Rattle.std.proofs.Common.{◌≡◌, ℕ, ◌+◌, ◌<◌, ◌≤◌, List, [], ◌∷◌, ◌++◌, length, map, Option, Some, None, Bool, true, false, cond, refl, sym, ◌∙◌, subst}
use Rattle.std.proofs.lemmas.List.{append-nil}
use Rattle.std.specs.Prelude.{nat_eq, nat_lt, slice_get, Result, Ok, Err}
use Rattle.std.proofs.lemmas.Bool.Decides.{nat_tests}
use Rattle.std.proofs.Common.{arith}
use Rattle.stm_history.specs.declared.key_state.ReadAnswer.{ReadAnswer}
use Rattle.stm_history.specs.History.{History, now, key_at, mod_of}
use Rattle.stm_program.specs.Writes.{latest_writes}
use Rattle.stm_steps.specs.declared.run.End.{End}
use Rattle.stm_steps.specs.declared.run.End.TheVariants.{Done as DoneEnd, Aborted as AbortedEnd, Faulted as FaultedEnd}
use Rattle.stm_steps.specs.declared.run.Run.{Run}
use Rattle.stm_steps.specs.declared.run.Answered.{Answered}
use Rattle.stm_steps.specs.declared.run.Answered.TheVariants.{Ended as EndedRun, Wants}
use Rattle.stm_outcome.specs.declared.answer.FailedCompare.{FailedCompare}
use Rattle.stm_outcome.specs.declared.refusal.Refusal.{Refusal as StoreRefusal}
use Rattle.stm_outcome.specs.Outcome.{Done}
use Rattle.stm_outcome.specs.Commits.{revision_read}
use Rattle.stm_txn.specs.Standing.{Standing, with_history, terms_of}
use Rattle.stm_outcome.specs.Terms.{is_below_floor}
use Rattle.stm_compile.specs.Committed.{committed}
use Rattle.stm_compile.specs.Conflicts.{Seen, seen_by, seen_in}
use Rattle.stm_compile.specs.Laws.{CommitIsTheRunNow}
use Rattle.stm_attempt.specs.Settled.{run_on}
use Rattle.stm_attempt.specs.Entering.{is_due}
use Rattle.stm_attempt.specs.Fetches.{at_of}
use Rattle.stm_entries.specs.declared.entry.Entry.{Entry}
use Rattle.stm_entries.proofs.Replaying.{replay_goes_on, all_legal}
use Rattle.stm_entries.proofs.Adding.{replay_only_adds}
use Rattle.stm_events.specs.declared.event.WorldEvent.{WorldEvent}
use Rattle.stm_events.specs.declared.reply.Reply.{Reply}
use Rattle.stm_events.specs.declared.reply.Reply.TheVariants.{Started, Prefetched, Fetched, Conflict, GaveUp, Aborted, Faulted, Ended}
use Rattle.stm_events.specs.declared.refusal.EventRefusal.TheVariants.{BadLimit, TooManyOps as TooManyOpsRefusal, Compacted as CompactedRefusal}
use Rattle.stm_events.specs.Replies.{event_refusal}
use Rattle.stm_events.specs.Called.{Asked, Starts, Steps, Calls, asked, called, entered}
use Rattle.stm_world.specs.Task.{Task, answer_at, modified_now, after_list, after_fetch, after_conflict}
use Rattle.stm_world.specs.World.{World, Runner, Slot, Over, Live, live_in, runner_at, with_slot, refused, replied, begin, start_runner, fetch, fetch_list, entry_of}
use Rattle.stm_world.specs.World.{take_commit, decided, commit_reported, commit, finish, step_on, step_live, step_runner, Stepped, step_asked, step}
use Rattle.stm_world.specs.Sound.{KnowsTruth, IsSound}
use Rattle.stm_world.proofs.Truth.{known_stays, prefetch_true, fetch_true, conflict_true}
use Rattle.stm_world.proofs.Entered.{EntriesFollow, nothing_follows}
use Rattle.stm_world.proofs.Calls.{call_adds, call_follows}
use Rattle.stm_world.proofs.CommitEntries.{Takes, taken, commit_follows_entry}
use Rattle.stm_world.proofs.Slots.{equal_numbers, differ, runner_there, runner_own, runner_other, runner_new, runner_old}

abbrev pub world_with : Standing → List Slot → List Entry → World
world_with s runners entries = record { standing = s; runners = runners; entries = entries }

-- ---- more entries ----

pub sound_with : (w : World) (runners : List Slot) (after : Standing) (more : List Entry) → IsSound w → EntriesFollow w.standing after more →
    ((id : ℕ) (r : Runner) → runner_at id runners ≡ Some r → KnowsTruth after.history r.known) → IsSound (world_with after runners (w.entries ++ more))
sound_with w runners after more sound e truth = grind (arith, nat_tests, replay_goes_on, all_legal, replay_only_adds)

-- a call of the store
pub call_sound : (w : World) (after : Standing) (more : List Entry) → IsSound w → EntriesFollow w.standing after more →
    IsSound (world_with after w.runners (w.entries ++ more))
call_sound w after more sound e =
    sound_with w w.runners after more sound e (λ id r found. known_stays w.standing.history after.history r.known e.keeps (sound.truth id r found))

-- a step that leads a runner to another place
slot_sound : (w : World) (id : ℕ) (r : Runner) (slot : Slot) (after : Standing) (more : List Entry) → IsSound w → runner_at id w.runners ≡ Some r →
    EntriesFollow w.standing after more → ((x : Runner) → live_in (Some slot) ≡ Some x → KnowsTruth after.history x.known) →
    IsSound (world_with after (with_slot id slot w.runners) (w.entries ++ more))
slot_sound w id r slot after more sound found e truth =
    let there : (0 < id) × (id ≤ length w.runners) = runner_there id w.runners r found in
    let own : runner_at id (with_slot id slot w.runners) ≡ live_in (Some slot) = runner_own id w.runners slot there.0 there.1 in
    sound_with w (with_slot id slot w.runners) after more sound e
    (λ other x at. elim (nat_eq id other) as (λ b. nat_eq id other ≡ b → KnowsTruth after.history x.known) [
      | true ↦ λ is. truth x (sym own ∙ subst (λ n. runner_at n (with_slot id slot w.runners) ≡ Some x) (sym (equal_numbers id other is)) at)
      | false ↦ λ is. known_stays w.standing.history after.history x.known e.keeps
          (sound.truth other x (sym (runner_other id other w.runners slot there.0 (differ id other is)) ∙ at))
    ] refl)

-- a reply that changes nothing of the store
replied_sound : (w : World) (id : ℕ) (r : Runner) (slot : Slot) (reply : Reply) → IsSound w → runner_at id w.runners ≡ Some r →
    ((x : Runner) → live_in (Some slot) ≡ Some x → KnowsTruth w.standing.history x.known) → IsSound (replied reply id slot w).next
replied_sound w id r slot reply sound found truth =
    subst (λ (es : List Entry). IsSound (world_with w.standing (with_slot id slot w.runners) es)) (append-nil w.entries)
    (slot_sound w id r slot w.standing [] sound found (nothing_follows w.standing) truth)

-- a reply that ends the run, and changes nothing of the store
ended_sound : (w : World) (id : ℕ) (r : Runner) (reply : Reply) → IsSound w → runner_at id w.runners ≡ Some r → IsSound (replied reply id Over w).next
ended_sound w id r reply sound found = replied_sound w id r Over reply sound found (λ x is. absurd (cc))

-- a reply after which the runner knows this
known_sound : (w : World) (id : ℕ) (r next : Runner) (reply : Reply) → IsSound w → runner_at id w.runners ≡ Some r →
    KnowsTruth w.standing.history next.known → IsSound (replied reply id (Live next) w).next
known_sound w id r next reply sound found truth =
    replied_sound w id r (Live next) reply sound found
    (λ x is. let same : next ≡ x = cc in subst (λ (y : Runner). KnowsTruth w.standing.history y.known) same truth)

-- ---- a start ----

begun_sound : (w : World) (task : Task) → IsSound w → IsSound (world_with w.standing (w.runners ++ Live (begin task) ∷ []) w.entries)
begun_sound w task sound = grind (arith, nat_tests, runner_new, equal_numbers, runner_old, differ)

start_by : (w : World) (task : Task) (none : Bool) → IsSound w →
    IsSound (cond none (refused BadLimit w) (record {
      reply = Ok (Started (length w.runners + 1));
      next = world_with w.standing (w.runners ++ Live (begin task) ∷ []) w.entries;
    })).next
start_by w task true sound = sound
start_by w task false sound = begun_sound w task sound

start_sound : (w : World) (task : Task) → IsSound w → IsSound (start_runner task w).next
unfolding start_runner
start_sound w task sound = start_by w task (nat_eq task.limit 0) sound

-- ---- the step of a runner ----

fetch_sound : (w : World) (id : ℕ) (r : Runner) (key : List ℕ) → IsSound w → runner_at id w.runners ≡ Some r →
    IsSound (fetch id r key (revision_read w.standing.history (at_of r.task.level r.known.reads)) w).next
unfolding fetch
fetch_sound w id r key sound found =
    let h : History = w.standing.history in
    let of_rev : ℕ = revision_read h (at_of r.task.level r.known.reads) in
    known_sound w id r (record r { known = after_fetch r.task (answer_at h key of_rev) r.known })
    (Fetched id key (mod_of (key_at h key of_rev)) of_rev (now h)) sound found (fetch_true h r.task key r.known (sound.truth id r found))

base_sound : (w : World) (id : ℕ) (r : Runner) (key : List ℕ) (below : Bool) → IsSound w → runner_at id w.runners ≡ Some r →
    IsSound (cond below (replied (Ended id CompactedRefusal) id Over w)
    (fetch id r key (revision_read w.standing.history (at_of r.task.level r.known.reads)) w)).next
base_sound w id r key true sound found = ended_sound w id r (Ended id CompactedRefusal) sound found
base_sound w id r key false sound found = fetch_sound w id r key sound found

fail_by : (w : World) (id : ℕ) (r : Runner) (seen : Seen) (modified : ℕ) (more : Bool) → IsSound w → runner_at id w.runners ≡ Some r →
    IsSound (cond more
    (replied (Conflict id seen.key seen.mod_rev modified) id
    (Live (record { task = r.task; failures = r.failures + 1; known = after_conflict r.task w.standing.history r.known })) w)
    (replied (GaveUp id (r.failures + 1) seen.key seen.mod_rev modified) id Over w)).next
fail_by w id r seen modified true sound found =
    known_sound w id r (record { task = r.task; failures = r.failures + 1; known = after_conflict r.task w.standing.history r.known })
    (Conflict id seen.key seen.mod_rev modified) sound found (conflict_true w.standing.history r.task r.known)
fail_by w id r seen modified false sound found = ended_sound w id r (GaveUp id (r.failures + 1) seen.key seen.mod_rev modified) sound found

take_sound : (w : World) (id : ℕ) (r : Runner) (run : Run) (done : Done) → CommitIsTheRunNow → IsSound w → runner_at id w.runners ≡ Some r →
    Takes w.standing r.task r.known.reads run done → IsSound (take_commit id r r.known.reads run done w).next
take_sound w id r run done law sound found takes =
    let reads : List ReadAnswer = r.known.reads in
    slot_sound w id r Over (with_history w.standing done.history) (entry_of r.task reads run (now done.history) ∷ []) sound found
    (commit_follows_entry w.standing r.task reads run done takes (taken w.standing r.task reads run done law takes)) (λ x is. absurd (cc))

-- a runner of a sound world whose run is done
record IsDone (w : World) (id : ℕ) (r : Runner) (run : Run) : Type 0 where
  sound : IsSound w
  found : runner_at id w.runners ≡ Some r
  is_run : run_on r.task.program r.known.reads ≡ EndedRun run
  is_done : run.end ≡ DoneEnd

decided_sound : (w : World) (id : ℕ) (r : Runner) (run : Run) (done : Done) (o : Option FailedCompare) → CommitIsTheRunNow → IsDone w id r run →
    committed (terms_of w.standing) r.task.level r.known.reads run ≡ Ok done → done.answer.failed ≡ o →
    IsSound (decided id r r.known.reads run done o w).next
decided_sound w id r run done None law x comes_to none =
    take_sound w id r run done law x.sound x.found
    (record { truth = (x.sound.truth id r x.found).0; is_run = x.is_run; is_done = x.is_done; comes_to = comes_to; succeeds = none })
decided_sound w id r run done (Some failed) law x comes_to some =
    fail_by w id r (seen_in (slice_get (seen_by r.known.reads (latest_writes run.writes)) failed.index)) failed.mod_rev
    (nat_lt (r.failures + 1) r.task.limit) x.sound x.found

commit_by : (w : World) (id : ℕ) (r : Runner) (run : Run) (o : Result Done StoreRefusal) → CommitIsTheRunNow → IsDone w id r run →
    committed (terms_of w.standing) r.task.level r.known.reads run ≡ o →
    IsSound (commit_reported id r r.known.reads run o w).next
commit_by w id r run (Ok done) law x is = decided_sound w id r run done done.answer.failed law x is refl
commit_by w id r run (Err cause) law x is = ended_sound w id r (Ended id (event_refusal cause)) x.sound x.found

commit_sound : (w : World) (id : ℕ) (r : Runner) (run : Run) → CommitIsTheRunNow → IsDone w id r run → IsSound (commit id r r.known.reads run w).next
unfolding commit
commit_sound w id r run law x =
    commit_by w id r run (committed (terms_of w.standing) r.task.level r.known.reads run) law x refl

finish_sound : (w : World) (id : ℕ) (r : Runner) (run : Run) (end : End) → CommitIsTheRunNow → IsSound w → runner_at id w.runners ≡ Some r →
    run_on r.task.program r.known.reads ≡ EndedRun run → run.end ≡ end → IsSound (finish id r r.known.reads run end w).next
finish_sound w id r run DoneEnd law sound found is_run ended =
    commit_sound w id r run law (record { sound = sound; found = found; is_run = is_run; is_done = ended })
finish_sound w id r run (AbortedEnd text) law sound found is_run ended = ended_sound w id r (Aborted id text) sound found
finish_sound w id r run (FaultedEnd fault) law sound found is_run ended = ended_sound w id r (Faulted id fault) sound found

answered_sound : (w : World) (id : ℕ) (r : Runner) (answered : Answered) → CommitIsTheRunNow → IsSound w → runner_at id w.runners ≡ Some r →
    run_on r.task.program r.known.reads ≡ answered → IsSound (step_on id r r.known.reads answered w).next
answered_sound w id r (Wants key trace) law sound found is =
    base_sound w id r key (is_below_floor w.standing.floor (at_of r.task.level r.known.reads)) sound found
answered_sound w id r (EndedRun run) law sound found is = finish_sound w id r run run.end law sound found is refl

list_sound : (w : World) (id : ℕ) (r : Runner) (many : Bool) → IsSound w → runner_at id w.runners ≡ Some r →
    IsSound (cond many (replied (Ended id TooManyOpsRefusal) id Over w)
    (replied (Prefetched id (now w.standing.history) (map (modified_now w.standing.history) r.task.program.prefetch)) id
    (Live (record r { known = after_list r.task w.standing.history r.known })) w)).next
list_sound w id r true sound found = ended_sound w id r (Ended id TooManyOpsRefusal) sound found
list_sound w id r false sound found =
    known_sound w id r (record r { known = after_list r.task w.standing.history r.known })
    (Prefetched id (now w.standing.history) (map (modified_now w.standing.history) r.task.program.prefetch)) sound found
    (prefetch_true w.standing.history r.task r.known (sound.truth id r found))

list_or_run-sound : (w : World) (id : ℕ) (r : Runner) (due : Bool) → CommitIsTheRunNow → IsSound w → runner_at id w.runners ≡ Some r →
    IsSound (cond due (fetch_list id r w) (step_on id r r.known.reads (run_on r.task.program r.known.reads) w)).next
list_or_run-sound w id r true law sound found = list_sound w id r (nat_lt w.standing.limit (length r.task.program.prefetch)) sound found
list_or_run-sound w id r false law sound found = answered_sound w id r (run_on r.task.program r.known.reads) law sound found refl

live_sound : (w : World) (id : ℕ) (r : Runner) → CommitIsTheRunNow → IsSound w → runner_at id w.runners ≡ Some r → IsSound (step_live id r w).next
unfolding step_live
live_sound w id r law sound found = list_or_run-sound w id r (is_due r.task.program.prefetch r.known.reads) law sound found

runner_by : (w : World) (id : ℕ) (o : Option Runner) → CommitIsTheRunNow → IsSound w → runner_at id w.runners ≡ o → IsSound (step_runner id o w).next
runner_by w id None law sound found = sound
runner_by w id (Some r) law sound found = live_sound w id r law sound found

-- ---- every event ----

asked_sound : (a : Asked) (w : World) → CommitIsTheRunNow → IsSound w → IsSound (step_asked a w).next
asked_sound (Starts program level limit) w law sound = start_sound w (record { program = program; level = level; limit = limit }) sound
asked_sound (Steps id) w law sound = runner_by w id (runner_at id w.runners) law sound refl
asked_sound (Calls c) w law sound =
    subst (λ (x : Stepped). IsSound x.next) (sym (call_adds c w))
    (call_sound w (called w.standing c).next (entered w.standing c) sound (call_follows w.standing c sound.limit))

pub event_sound : (event : WorldEvent) (w : World) → CommitIsTheRunNow → IsSound w → IsSound (step event w).next
event_sound event w law sound = asked_sound (asked event) w law sound
