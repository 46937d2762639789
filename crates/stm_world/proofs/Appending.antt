-- Events only append entries.
use Rattle.std.proofs.Common.{◌≡◌, ℕ, ◌+◌, List, [], ◌∷◌, ◌++◌, length, Option, Some, None, Bool, true, false, cond, refl, sym, ◌∙◌, ap, subst, arith}
use Rattle.std.proofs.lemmas.List.{append-nil}
use Rattle.std.specs.Prelude.{nat_eq, nat_lt, slice_get, Result, Ok}
use Rattle.stm_history.specs.declared.key_state.ReadAnswer.{ReadAnswer}
use Rattle.stm_history.specs.History.{now}
use Rattle.stm_program.specs.Writes.{latest_writes}
use Rattle.stm_steps.specs.declared.run.End.TheVariants.{Done as DoneEnd}
use Rattle.stm_steps.specs.declared.run.Run.{Run}
use Rattle.stm_steps.specs.declared.run.Answered.{Answered}
use Rattle.stm_steps.specs.declared.run.Answered.TheVariants.{Ended as EndedRun}
use Rattle.stm_outcome.specs.declared.answer.FailedCompare.{FailedCompare}
use Rattle.stm_outcome.specs.declared.refusal.Refusal.{Refusal as StoreRefusal}
use Rattle.stm_outcome.specs.Outcome.{Done}
use Rattle.stm_outcome.specs.Commits.{revision_read}
use Rattle.stm_txn.specs.Standing.{terms_of}
use Rattle.stm_compile.specs.Committed.{committed}
use Rattle.stm_compile.specs.Conflicts.{Seen, seen_by, seen_in}
use Rattle.stm_attempt.specs.Settled.{run_on}
use Rattle.stm_attempt.specs.Entering.{is_due}
use Rattle.stm_entries.specs.declared.entry.Entry.{Entry}
use Rattle.stm_entries.specs.Replayed.{Replayed, without_moment}
use Rattle.stm_entries.specs.Replay.{replay}
use Rattle.stm_entries.specs.Legal.{AreLegal}
use Rattle.stm_entries.proofs.Replaying.{replay_goes_on, all_legal}
use Rattle.stm_events.specs.declared.event.WorldEvent.{WorldEvent}
use Rattle.stm_events.specs.declared.reply.Reply.{Reply}
use Rattle.stm_events.specs.declared.reply.Reply.TheVariants.{Started, Conflict, GaveUp, Ended}
use Rattle.stm_events.specs.Called.{Asked, Starts, Steps, Calls, asked, entered}
use Rattle.stm_world.specs.Task.{Task, after_conflict}
use Rattle.stm_world.specs.World.{World, Runner, Slot, Over, Live, runner_at, with_slot, refused, replied, begin, start_runner, fetch, fetch_list, entry_of}
use Rattle.stm_world.specs.World.{decided, commit_reported, commit, step_on, step_live, step_runner, step_asked, step, Stepped, world_after}
use Rattle.stm_world.specs.Sound.{IsSound}
use Rattle.stm_world.proofs.Entered.{EntriesFollow, nothing_follows}
use Rattle.stm_world.proofs.Calls.{call_adds, call_follows}
use Rattle.stm_world.proofs.CommitEntries.{Takes, taken, commit_follows_entry}
use Rattle.std.proofs.Common.{append_assoc}
use Rattle.std.proofs.lemmas.Bool.Decides.{nat_tests}
use Rattle.stm_compile.specs.Answers.{AreTrue}
use Rattle.stm_compile.proofs.AgreeLemmas.{commit_is_the_run_now}
use Rattle.stm_events.specs.declared.refusal.Denied.{Denied}
use Rattle.stm_events.specs.Replies.{denied}
use Rattle.stm_events.specs.declared.refusal.EventRefusal.TheVariants.{BadLimit, NoRunner, Compacted as CompactedRefusal}
use Rattle.stm_world.specs.Appended.{HasAppended, EventsAppend}
use Rattle.stm_world.proofs.SoundSteps.{world_with}
use Rattle.stm_world.proofs.Sound.{step_is_sound}

-- ---- one event ----

-- entries after those of a world, which follow from what its store was to what it is
record Appends (w : World) (s : Stepped) : Type 0 where
  more : List Entry
  entries : s.next.entries ≡ w.entries ++ more
  follows : EntriesFollow w.standing s.next.standing more

-- nothing changed but places of runners
stays : (w : World) (reply : Result Reply Denied) (runners : List Slot) →
    Appends w (record { reply = reply; next = world_with w.standing runners w.entries })
stays w reply runners = record { more = []; entries = sym (append-nil w.entries); follows = nothing_follows w.standing }

start_by : (w : World) (task : Task) (none : Bool) →
    Appends w (cond none (refused BadLimit w) (record {
      reply = Ok (Started (length w.runners + 1));
      next = world_with w.standing (w.runners ++ Live (begin task) ∷ []) w.entries;
    }))
start_by w task true = stays w (denied BadLimit) w.runners
start_by w task false = stays w (Ok (Started (length w.runners + 1))) (w.runners ++ Live (begin task) ∷ [])

start_appends : (w : World) (task : Task) → Appends w (start_runner task w)
unfolding start_runner
start_appends w task = start_by w task (nat_eq task.limit 0)

fail_by : (w : World) (id : ℕ) (r : Runner) (seen : Seen) (modified : ℕ) (more : Bool) →
    Appends w (cond more
    (replied (Conflict id seen.key seen.mod_rev modified) id
    (Live (record { task = r.task; failures = r.failures + 1; known = after_conflict r.task w.standing.history r.known })) w)
    (replied (GaveUp id (r.failures + 1) seen.key seen.mod_rev modified) id Over w))
fail_by w id r seen modified more = grind (arith, nat_tests, stays)

ended_appends : (w : World) (id : ℕ) (reply : Reply) → Appends w (replied reply id Over w)
ended_appends w id reply = stays w (Ok reply) (with_slot id Over w.runners)

-- a runner of a world whose run is done on true answers
record IsDone (w : World) (r : Runner) (run : Run) : Type 0 where
  truth : AreTrue w.standing.history r.known.reads
  is_run : run_on r.task.program r.known.reads ≡ EndedRun run
  is_done : run.end ≡ DoneEnd

decided_appends : (w : World) (id : ℕ) (r : Runner) (run : Run) (done : Done) (o : Option FailedCompare) → IsDone w r run →
    committed (terms_of w.standing) r.task.level r.known.reads run ≡ Ok done → done.answer.failed ≡ o →
    Appends w (decided id r r.known.reads run done o w)
decided_appends w id r run done None x comes_to none =
    let reads : List ReadAnswer = r.known.reads in
    let takes : Takes w.standing r.task reads run done =
    record { truth = x.truth; is_run = x.is_run; is_done = x.is_done; comes_to = comes_to; succeeds = none } in
    record {
      more = entry_of r.task reads run (now done.history) ∷ [];
      entries = refl;
      follows = commit_follows_entry w.standing r.task reads run done takes (taken w.standing r.task reads run done commit_is_the_run_now takes);
    }
decided_appends w id r run done (Some failed) x comes_to some =
    fail_by w id r (seen_in (slice_get (seen_by r.known.reads (latest_writes run.writes)) failed.index)) failed.mod_rev
    (nat_lt (r.failures + 1) r.task.limit)

commit_by : (w : World) (id : ℕ) (r : Runner) (run : Run) (o : Result Done StoreRefusal) → IsDone w r run →
    committed (terms_of w.standing) r.task.level r.known.reads run ≡ o → Appends w (commit_reported id r r.known.reads run o w)
commit_by w id r run o x is = grind (arith, nat_tests, decided_appends, ended_appends)

commit_appends : (w : World) (id : ℕ) (r : Runner) (run : Run) → IsDone w r run → Appends w (commit id r r.known.reads run w)
unfolding commit
commit_appends w id r run x = grind (arith, nat_tests, commit_by)

fetch_at_appends : (w : World) (id : ℕ) (r : Runner) (key : List ℕ) (base : ℕ) (below : Bool) →
    Appends w (cond below (replied (Ended id CompactedRefusal) id Over w) (fetch id r key (revision_read w.standing.history base) w))
unfolding fetch
fetch_at_appends w id r key base below = grind (arith, nat_tests, ended_appends, stays)

answered_appends : (w : World) (id : ℕ) (r : Runner) (answered : Answered) → AreTrue w.standing.history r.known.reads →
    run_on r.task.program r.known.reads ≡ answered → Appends w (step_on id r r.known.reads answered w)
answered_appends w id r answered truth is = grind (arith, nat_tests, fetch_at_appends, commit_appends, ended_appends)

list_or_run-appends : (w : World) (id : ℕ) (r : Runner) (due : Bool) → AreTrue w.standing.history r.known.reads →
    Appends w (cond due (fetch_list id r w) (step_on id r r.known.reads (run_on r.task.program r.known.reads) w))
list_or_run-appends w id r due truth = grind (arith, nat_tests, answered_appends, ended_appends, stays)

live_appends : (w : World) (id : ℕ) (r : Runner) → AreTrue w.standing.history r.known.reads → Appends w (step_live id r w)
unfolding step_live
live_appends w id r truth = list_or_run-appends w id r (is_due r.task.program.prefetch r.known.reads) truth

runner_by : (w : World) (id : ℕ) (o : Option Runner) → IsSound w → runner_at id w.runners ≡ o → Appends w (step_runner id o w)
runner_by w id None sound found = stays w (denied NoRunner) w.runners
runner_by w id (Some r) sound found = live_appends w id r (sound.truth id r found).0

asked_appends : (a : Asked) (w : World) → IsSound w → Appends w (step_asked a w)
asked_appends (Starts program level limit) w sound = start_appends w (record { program = program; level = level; limit = limit })
asked_appends (Steps id) w sound = runner_by w id (runner_at id w.runners) sound refl
asked_appends (Calls c) w sound =
    subst (Appends w) (sym (call_adds c w)) (record { more = entered w.standing c; entries = refl; follows = call_follows w.standing c sound.limit })

event_appends : (event : WorldEvent) (w : World) → IsSound w → Appends w (step event w)
event_appends event w sound = asked_appends (asked event) w sound

-- ---- all events ----

append_twice : (a b c : World) → HasAppended a b → HasAppended b c → HasAppended a c
append_twice a b c first second = record {
  more = first.more ++ second.more;
  entries = second.entries ∙ ap (λ (es : List Entry). es ++ second.more) first.entries ∙ append_assoc a.entries first.more second.more;
  legal = all_legal first.more second.more (without_moment a.standing) first.legal
      (subst (λ (r : Replayed). AreLegal second.more r) (sym first.replays) second.legal);
  replays = replay_goes_on first.more second.more (without_moment a.standing) ∙ ap (replay second.more) first.replays ∙ second.replays;
}

step_appends : (event : WorldEvent) (w : World) → IsSound w → HasAppended w (step event w).next
step_appends event w sound =
    let a : Appends w (step event w) = event_appends event w sound in
    record { more = a.more; entries = a.entries; legal = a.follows.legal; replays = a.follows.replays }

pub events_append : EventsAppend
events_append [] w sound = record { more = []; entries = sym (append-nil w.entries); legal = tt; replays = refl }
events_append (e ∷ es) w sound =
    append_twice w (step e w).next (world_after es (step e w).next) (step_appends e w sound) (events_append es (step e w).next (step_is_sound e w sound))
