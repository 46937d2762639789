-- Over every log that a world follows, the store has moved on by as much as a run's commits have failed.
use Rattle.std.proofs.Common.{◌≡◌, ℕ, ◌+◌, ◌≤◌, List, [], ◌∷◌, ◌++◌, Option, Some, None, Ok, Bool, true, false, cond, refl, sym, ◌∙◌, ap, subst, arith}
use Rattle.std.specs.Prelude.{nat_eq, ◌||◌, Result}
use Rattle.stm_history.specs.declared.revisions.TheConstants.{HIGHEST_REVISION}
use Rattle.stm_history.specs.History.{History, now}
use Rattle.stm_outcome.proofs.Branching.{neither}
use Rattle.stm_entries.specs.declared.entry.Entry.{Entry}
use Rattle.stm_entries.specs.Laws.{AddsTo}
use Rattle.stm_entries.specs.Replayed.{Replayed, opening, without_moment}
use Rattle.stm_entries.specs.Replay.{replay}
use Rattle.stm_entries.proofs.Adding.{replay_only_adds}
use Rattle.stm_entries.proofs.Replaying.{replay_goes_on}
use Rattle.stm_events.specs.declared.event.WorldEvent.{WorldEvent}
use Rattle.stm_events.specs.declared.event.WorldEvent.TheVariants.{Start, Step}
use Rattle.stm_events.specs.declared.reply.Reply.{Reply}
use Rattle.stm_events.specs.declared.reply.Reply.TheVariants.{Started, Prefetched, Fetched, Committed, Conflict, GaveUp, Aborted, Faulted, Ended}
use Rattle.stm_events.specs.declared.refusal.Denied.{Denied}
use Rattle.stm_events.specs.declared.reply.KeyRead.{KeyRead}
use Rattle.stm_world.specs.Task.{Task, answer_at, after_list, after_fetch, after_conflict}
use Rattle.stm_world.specs.Log.{Line, is_id, is_over, begun, running, started, failures, store, known_after_log, runner_started, runner_ended, runner_in_conflict}
use Rattle.stm_world.specs.Log.{entries_reported, line_entries}
use Rattle.stm_world.specs.Right.{IsRight, IsFetch, StepIsRight, situation}
use Rattle.stm_world.specs.World.{World, opened, replies_to, step}
use Rattle.stm_world.specs.Doomed.{FailedCommit, failed_commit, IsRealFailure, is_of_runner, since, failed_commits, FailuresMoveOn}
use Rattle.stm_world.proofs.Slots.{equal_numbers, same_number}
use Rattle.std.proofs.lemmas.List.{length-append}
use Rattle.std.proofs.lemmas.Option.{same_Some}
use Rattle.std.proofs.lemmas.Bool.Decides.{nat_tests}
use Rattle.stm_events.specs.Replies.{runner_named}
use Rattle.stm_world.proofs.Untouched.{Untouched, IsFresh, by_reply, same_running, same_reported}
use Rattle.stm_world.proofs.Following.{FollowsStep, with_line}
use Rattle.stm_world.proofs.RunnerSteps.{CommitLaws}
use Rattle.stm_world.proofs.Headlines.{Follows, step_follows, opened_follows}
use Rattle.stm_world.proofs.Logs.{logged, of_each_log}
use Rattle.stm_world.proofs.Lines.{by_event}
use Rattle.stm_world_laws.proofs.Doomed.{real_failure}
use Rattle.stm_world_laws.proofs.LowRevisions.{replay_stays_low}
use Rattle.stm_world_laws.proofs.MovingOn.{prefetched_from, KnowsFrom, fetched_from, conflicted_from, conflict_moves_on}
use Rattle.stm_txn.specs.Standing.{Setup}

-- the least revision that the store has after the failures of the log
abbrev least : Setup → List Line → ℕ → ℕ
least start log id = since start id log + failed_commits id log

-- the store has reached it, and the attempt of a runner that runs has seen nothing below it
record HasMovedOn (start : Setup) (log : List Line) (id : ℕ) : Type 0 where
  counter : (task : Task) → begun id log ≡ Some task → least start log id ≤ now (store start log).history
  known : (task : Task) → running id log ≡ Some task → KnowsFrom (least start log id) (known_after_log start id task log)

-- a log and the next one
record Grows (start : Setup) (log : List Line) (line : Line) : Type 0 where
  low : now (store start log).history ≤ HIGHEST_REVISION
  grown : now (store start log).history ≤ now (store start (line ∷ log)).history

-- ---- a line that is not about the runner ----

record IsAboutOthers (id : ℕ) (reply : Result Reply Denied) : Type 0 where
  untouched : Untouched id reply
  not_failed : is_of_runner id (failed_commit reply) ≡ false

same_least : (start : Setup) (log : List Line) (line : Line) (id : ℕ) → IsAboutOthers id line.reply → least start (line ∷ log) id ≡ least start log id
same_least start log line id o = grind (arith, nat_tests)

others_move_on : (start : Setup) (log : List Line) (line : Line) (id : ℕ) → Grows start log line → IsAboutOthers id line.reply → HasMovedOn start log id →
    HasMovedOn start (line ∷ log) id
others_move_on start log line id grows o m = grind (arith, nat_tests, same_least, KnowsFrom, same_reported, same_running)

-- ---- a start ----

failed_by : (id failed conflicts : ℕ) (over : Bool) (reply : Result Reply Denied) → (over ≡ false → failed ≡ conflicts) →
    (is_id id (runner_ended reply) || over) ≡ false →
    cond (is_of_runner id (failed_commit reply)) (failed + 1) failed ≡ cond (is_id id (runner_in_conflict reply)) (conflicts + 1) conflicts
failed_by id failed conflicts over reply on none = grind (arith, nat_tests, neither)

-- of a run that is not over only conflicts were reported as failures
none_failed : (id : ℕ) (log : List Line) → is_over id log ≡ false → failed_commits id log ≡ failures id log
none_failed id [] none = refl
none_failed id (line ∷ log) none = failed_by id (failed_commits id log) (failures id log) (is_over id log) line.reply (none_failed id log) none

started_moves_on : (start : Setup) (log : List Line) (task : Task) (id : ℕ) → IsFresh start log id →
    Grows start log (record { event = Start task.program task.level task.limit; reply = Ok (Started id) }) →
    HasMovedOn start (with_line (Start task.program task.level task.limit) (Ok (Started id)) log) id
started_moves_on start log task id fresh grows = grind (arith, nat_tests, same_number, none_failed, KnowsFrom)

-- ---- a step of the runner ----

is_begun : (over : Bool) (o : Option Task) (task : Task) → cond over None o ≡ Some task → o ≡ Some task
is_begun over o task is = grind (arith, nat_tests)

fetched_moves_on : (start : Setup) (log : List Line) (id : ℕ) (task : Task) (key : List ℕ) (mod_rev of_rev revision : ℕ) → running id log ≡ Some task →
    IsFetch (situation start log id task) key mod_rev of_rev revision →
    Grows start log (record { event = Step id; reply = Ok (Fetched id key mod_rev of_rev revision) }) → HasMovedOn start log id →
    HasMovedOn start (with_line (Step id) (Ok (Fetched id key mod_rev of_rev revision)) log) id
fetched_moves_on start log id task key mod_rev of_rev revision runs fetch grows m =
    let line : Line = record { event = Step id; reply = Ok (Fetched id key mod_rev of_rev revision) } in
    let h : History = (store start log).history in
    let before : least start log id ≤ now h = m.counter task (is_begun (is_over id log) (begun id log) task runs) in
    record {
      counter = λ other is. before;
      known = λ other runs_as.
          let is : task ≡ other = same_Some task other (sym runs ∙ runs_as) in
          subst (λ (t : Task). KnowsFrom (least start log id) (known_after_log start id t (line ∷ log))) is
          (subst (KnowsFrom (least start log id))
          (sym (ap (λ b. cond b (after_fetch task (answer_at h key of_rev) (known_after_log start id task log)) (known_after_log start id task log)) (same_number id)))
          (fetched_from (least start log id) h task key of_rev (known_after_log start id task log) before fetch.shows (m.known task runs)));
    }

prefetched_moves_on : (start : Setup) (log : List Line) (id : ℕ) (task : Task) (revision : ℕ) (reads : List KeyRead) → running id log ≡ Some task →
    Grows start log (record { event = Step id; reply = Ok (Prefetched id revision reads) }) → HasMovedOn start log id →
    HasMovedOn start (with_line (Step id) (Ok (Prefetched id revision reads)) log) id
prefetched_moves_on start log id task revision reads runs grows m =
    let line : Line = record { event = Step id; reply = Ok (Prefetched id revision reads) } in
    let h : History = (store start log).history in
    let before : least start log id ≤ now h = m.counter task (is_begun (is_over id log) (begun id log) task runs) in
    record {
      counter = λ other is. before;
      known = λ other runs_as.
          let is : task ≡ other = same_Some task other (sym runs ∙ runs_as) in
          subst (λ (t : Task). KnowsFrom (least start log id) (known_after_log start id t (line ∷ log))) is
          (subst (KnowsFrom (least start log id))
          (sym (ap (λ b. cond b (after_list task h (known_after_log start id task log)) (known_after_log start id task log)) (same_number id)))
          (prefetched_from (least start log id) h task (known_after_log start id task log) before (m.known task runs)));
    }

-- the store is above what the runner has seen
failure_moves_on : (start : Setup) (log : List Line) (id : ℕ) (task : Task) (failed : FailedCommit) → failed.runner ≡ id → running id log ≡ Some task →
    IsRealFailure start log failed → now (store start log).history ≤ HIGHEST_REVISION → HasMovedOn start log id →
    least start log id + 1 ≤ now (store start log).history
failure_moves_on start log id task failed same runs real low m = grind (arith, nat_tests, same_Some, is_begun, KnowsFrom, conflict_moves_on)

conflict_by : (start : Setup) (log : List Line) (id : ℕ) (task : Task) (key : List ℕ) (seen now_modified : ℕ) → running id log ≡ Some task →
    least start log id + 1 ≤ now (store start log).history → HasMovedOn start (with_line (Step id) (Ok (Conflict id key seen now_modified)) log) id
conflict_by start log id task key seen now_modified runs above =
    let line : Line = record { event = Step id; reply = Ok (Conflict id key seen now_modified) } in
    let h : History = (store start log).history in
    let more : failed_commits id (line ∷ log) ≡ failed_commits id log + 1 =
    ap (λ b. cond b (failed_commits id log + 1) (failed_commits id log)) (same_number id) in
    let reached : least start (line ∷ log) id ≤ now h = omega (arith, more) in
    record {
      counter = λ other is. reached;
      known = λ other runs_as.
          subst (KnowsFrom (least start (line ∷ log) id))
          (sym (ap (λ b. cond b (after_conflict other h (known_after_log start id other log)) (known_after_log start id other log)) (same_number id)))
          (conflicted_from (least start (line ∷ log) id) h other (known_after_log start id other log) reached);
    }

-- a run that is over knows nothing any more
over_by : (start : Setup) (log : List Line) (line : Line) (id : ℕ) (task : Task) → is_id id (runner_ended line.reply) ≡ true →
    least start (line ∷ log) id ≤ now (store start (line ∷ log)).history → HasMovedOn start (line ∷ log) id
over_by start log line id task ended reached = grind (arith, nat_tests)

gave_up_by : (start : Setup) (log : List Line) (id : ℕ) (task : Task) (attempts : ℕ) (key : List ℕ) (seen now_modified : ℕ) →
    least start log id + 1 ≤ now (store start log).history →
    HasMovedOn start (with_line (Step id) (Ok (GaveUp id attempts key seen now_modified)) log) id
gave_up_by start log id task attempts key seen now_modified above = grind (arith, nat_tests, same_number, over_by)

-- ---- each event ----

about_others : (id other : ℕ) (reply : Reply) → is_id other (runner_named reply) ≡ false → is_of_runner other (failed_commit (Ok reply)) ≡ false →
    IsAboutOthers other (Ok reply)
about_others id other reply named failed = record { untouched = by_reply other reply named; not_failed = failed }

-- a line about one runner
all_move_on : (start : Setup) (log : List Line) (line : Line) (id : ℕ) → Grows start log line → ((other : ℕ) → HasMovedOn start log other) →
    ((other : ℕ) → nat_eq id other ≡ false → IsAboutOthers other line.reply) → HasMovedOn start (line ∷ log) id →
    (other : ℕ) → HasMovedOn start (line ∷ log) other
all_move_on start log line id grows all about own other = grind (arith, nat_tests, equal_numbers, others_move_on)

-- what a line with this reply to a runner's step leads to
abbrev MovesOn : Setup → List Line → ℕ → Result Reply Denied → Type 0
MovesOn start log id reply =
    Grows start log (record { event = Step id; reply = reply }) → (other : ℕ) → HasMovedOn start (with_line (Step id) reply log) other

-- the end of a run by no failure
ends_by : (start : Setup) (log : List Line) (id : ℕ) (task : Task) (reply : Reply) → running id log ≡ Some task → is_id id (runner_ended (Ok reply)) ≡ true →
    runner_started (Ok reply) ≡ None → failed_commit (Ok reply) ≡ None → HasMovedOn start log id →
    Grows start log (record { event = Step id; reply = Ok reply }) → HasMovedOn start (with_line (Step id) (Ok reply) log) id
ends_by start log id task reply runs ended not_started not_failed m grows = grind (arith, nat_tests, is_begun, over_by)

step_moves_on : (start : Setup) (log : List Line) (id : ℕ) (task : Task) (reply : Result Reply Denied) → running id log ≡ Some task →
    StepIsRight (situation start log id task) reply → ((other : ℕ) → HasMovedOn start log other) → MovesOn start log id reply
step_moves_on start log id task (Ok (Prefetched runner revision reads)) runs right all =
    subst (λ n. MovesOn start log id (Ok (Prefetched n revision reads))) (sym right.0)
    (λ grows. all_move_on start log (record { event = Step id; reply = Ok (Prefetched id revision reads) }) id grows all
    (λ other is. about_others id other (Prefetched id revision reads) is refl)
    (prefetched_moves_on start log id task revision reads runs grows (all id)))
step_moves_on start log id task (Ok (Fetched runner key mod_rev of_rev revision)) runs right all =
    subst (λ n. MovesOn start log id (Ok (Fetched n key mod_rev of_rev revision))) (sym right.0)
    (λ grows. all_move_on start log (record { event = Step id; reply = Ok (Fetched id key mod_rev of_rev revision) }) id grows all
    (λ other is. about_others id other (Fetched id key mod_rev of_rev revision) is refl)
    (fetched_moves_on start log id task key mod_rev of_rev revision runs right.1 grows (all id)))
step_moves_on start log id task (Ok (Conflict runner key seen now)) runs right all =
    subst (λ n. MovesOn start log id (Ok (Conflict n key seen now))) (sym right.0)
    (λ grows. all_move_on start log (record { event = Step id; reply = Ok (Conflict id key seen now) }) id grows all
    (λ other is. about_others id other (Conflict id key seen now) is is)
    (conflict_by start log id task key seen now runs
    (failure_moves_on start log id task (record { runner = id; key = key; seen = seen; now_modified = now }) refl runs
    (real_failure start log id id task key seen now runs refl right.2) grows.low (all id))))
step_moves_on start log id task (Ok (GaveUp runner attempts key seen now)) runs right all =
    subst (λ n. MovesOn start log id (Ok (GaveUp n attempts key seen now))) (sym right.0)
    (λ grows. all_move_on start log (record { event = Step id; reply = Ok (GaveUp id attempts key seen now) }) id grows all
    (λ other is. about_others id other (GaveUp id attempts key seen now) is is)
    (gave_up_by start log id task attempts key seen now
    (failure_moves_on start log id task (record { runner = id; key = key; seen = seen; now_modified = now }) refl runs
    (real_failure start log id id task key seen now runs refl right.3) grows.low (all id))))
step_moves_on start log id task (Ok (Committed runner revision attempts output trace answers)) runs right all =
    subst (λ n. MovesOn start log id (Ok (Committed n revision attempts output trace answers))) (sym right.0)
    (λ grows. all_move_on start log (record { event = Step id; reply = Ok (Committed id revision attempts output trace answers) }) id grows all
    (λ other is. about_others id other (Committed id revision attempts output trace answers) is refl)
    (ends_by start log id task (Committed id revision attempts output trace answers) runs (same_number id) refl refl (all id) grows))
step_moves_on start log id task (Ok (Aborted runner text)) runs right all =
    subst (λ n. MovesOn start log id (Ok (Aborted n text))) (sym right.0)
    (λ grows. all_move_on start log (record { event = Step id; reply = Ok (Aborted id text) }) id grows all
    (λ other is. about_others id other (Aborted id text) is refl)
    (ends_by start log id task (Aborted id text) runs (same_number id) refl refl (all id) grows))
step_moves_on start log id task (Ok (Faulted runner fault)) runs right all =
    subst (λ n. MovesOn start log id (Ok (Faulted n fault))) (sym right.0)
    (λ grows. all_move_on start log (record { event = Step id; reply = Ok (Faulted id fault) }) id grows all
    (λ other is. about_others id other (Faulted id fault) is refl)
    (ends_by start log id task (Faulted id fault) runs (same_number id) refl refl (all id) grows))
step_moves_on start log id task (Ok (Ended runner cause)) runs right all =
    subst (λ n. MovesOn start log id (Ok (Ended n cause))) (sym right.0)
    (λ grows. all_move_on start log (record { event = Step id; reply = Ok (Ended id cause) }) id grows all
    (λ other is. about_others id other (Ended id cause) is refl)
    (ends_by start log id task (Ended id cause) runs (same_number id) refl refl (all id) grows))
step_moves_on start log id task (Ok (Started runner)) runs right all = absurd right
step_moves_on start log id task _ runs right all = absurd right

event_moves_on : (start : Setup) (log : List Line) (w : World) (event : WorldEvent) (reply : Result Reply Denied) → Follows start log w →
    IsRight start log event reply → ((other : ℕ) → HasMovedOn start log other) → Grows start log (record { event = event; reply = reply }) →
    (other : ℕ) → HasMovedOn start (with_line event reply log) other
event_moves_on start log w event reply f right all =
    by_event start log
    (λ (e : WorldEvent) (r : Result Reply Denied). Grows start log (record { event = e; reply = r }) → (other : ℕ) → HasMovedOn start (with_line e r log) other)
    (λ e r none grows other. others_move_on start log (record { event = e; reply = r }) other grows
    (record { untouched = none.untouched other; not_failed = ap (is_of_runner other) none.no_failure }) (all other))
    (λ task grows. all_move_on start log (record { event = Start task.program task.level task.limit; reply = Ok (Started (started log + 1)) })
    (started log + 1) grows all (λ other is. about_others (started log + 1) other (Started (started log + 1)) is refl)
    (started_moves_on start log task (started log + 1) (f.at.fresh (started log + 1) (omega arith)) grows))
    (λ id task r runs step. step_moves_on start log id task r runs step all) event reply right

-- ---- whole runs ----

store_low : (start : Setup) (log : List Line) (w : World) → Follows start log w → start.revision ≤ HIGHEST_REVISION → now (store start log).history ≤ HIGHEST_REVISION
store_low start log w f low = grind (arith, nat_tests, replay_stays_low)

adds_up : (before after : History) → AddsTo before after → now before ≤ now after
adds_up before after adds = grind (arith, nat_tests, length-append)

store_grows : (start : Setup) (log : List Line) (w : World) (event : WorldEvent) → Follows start log w → FollowsStep start log event (step event w) →
    now (store start log).history ≤ now (store start (with_line event (step event w).reply log)).history
store_grows start log w event f s =
    let line : Line = record { event = event; reply = (step event w).reply } in
    let earlier : List Entry = entries_reported start log in
    let more : List Entry = line_entries start line log in
    let before : replay earlier (opening start.revision) ≡ without_moment (store start log) =
    ap (λ (es : List Entry). replay es (opening start.revision)) (sym f.at.reported) ∙ f.at.replays in
    let after : replay (earlier ++ more) (opening start.revision) ≡ without_moment (store start (line ∷ log)) =
    ap (λ (es : List Entry). replay es (opening start.revision)) (sym s.follows.reported) ∙ s.follows.replays in
    let leads : replay more (without_moment (store start log)) ≡ without_moment (store start (line ∷ log)) =
    ap (replay more) (sym before) ∙ sym (replay_goes_on earlier more (opening start.revision)) ∙ after in
    subst (λ (r : Replayed). now (store start log).history ≤ now r.history) leads
    (adds_up (store start log).history (replay more (without_moment (store start log))).history (replay_only_adds more (without_moment (store start log))))

run_moves_on : (start : Setup) (events : List WorldEvent) (log : List Line) (w : World) → CommitLaws → start.revision ≤ HIGHEST_REVISION → Follows start log w →
    ((other : ℕ) → HasMovedOn start log other) → (other : ℕ) → HasMovedOn start (logged events (replies_to events w) log) other
run_moves_on start [] log w laws low f all = all
run_moves_on start (e ∷ es) log w laws low f all =
    let s : FollowsStep start log e (step e w) = step_follows start log e w laws f in
    run_moves_on start es (with_line e (step e w).reply log) (step e w).next laws low (record { standing = s.standing; at = s.follows })
    (event_moves_on start log w e (step e w).reply f s.follows.right.0 all
    (record { low = store_low start log w f low; grown = store_grows start log w e f s }))

pub failures_move_on : CommitLaws → FailuresMoveOn
failures_move_on laws =
    of_each_log (λ (start : Setup) (log : List Line). (id : ℕ) (task : Task) → start.revision ≤ HIGHEST_REVISION → begun id log ≡ Some task →
    since start id log + failed_commits id log ≤ now (store start log).history)
    (λ start events id task low is. (run_moves_on start events [] (opened start) laws low (opened_follows start)
    (λ other. record { counter = λ task is. absurd (cc); known = λ task runs. absurd (cc) }) id).counter task is)
