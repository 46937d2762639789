-- No line of the report of a right run is wrong: what a check knows at a point is what the log so far says.
use Rattle.std.proofs.Common.{◌≡◌, ◌≢◌, ℕ, ◌+◌, suc, Bool, true, cond, not, List, [], ◌∷◌, ◌++◌, length, length-append, append_assoc}
use Rattle.std.proofs.Common.{Option, Some, None, is_some, Ok, Err, refl, sym, ◌∙◌, ap, subst, arith}
use Rattle.std.proofs.lemmas.List.{append-nil}
use Rattle.std.specs.Prelude.{Result, nat_eq, ◌&&◌}
use Rattle.std.proofs.lemmas.Bool.Decides.{nat_tests}
use Rattle.stm_steps.specs.declared.value.Value.{Value}
use Rattle.stm_steps.specs.declared.trace_item.TraceItem.{TraceItem}
use Rattle.stm_txn.specs.Standing.{Standing, Setup}
use Rattle.stm_compile.specs.Answers.{AreTrue}
use Rattle.stm_entries.specs.declared.entry.Entry.{Entry}
use Rattle.stm_events.specs.declared.line.ReportLine.{ReportLine}
use Rattle.stm_events.specs.declared.line.ReportLine.TheVariants.{Event}
use Rattle.stm_events.specs.declared.event.WorldEvent.{WorldEvent}
use Rattle.stm_events.specs.declared.event.WorldEvent.TheVariants.{Start, Step}
use Rattle.stm_events.specs.declared.reply.Reply.{Reply}
use Rattle.stm_events.specs.declared.reply.Reply.TheVariants.{Prefetched, Fetched, Committed, Conflict, GaveUp, Aborted, Faulted, Ended}
use Rattle.stm_events.specs.declared.refusal.Denied.{Denied}
use Rattle.stm_events.specs.declared.refusal.EventRefusal.TheVariants.{BadLimit, NoRunner}
use Rattle.stm_events.specs.declared.reply.CommittedRead.{CommittedRead}
use Rattle.stm_events.specs.Replies.{denied}
use Rattle.stm_events.specs.Called.{Call, Asked, Steps, Calls, asked, called}
use Rattle.stm_events.proofs.CallEnters.{few_are_replayed}
use Rattle.stm_world.specs.Task.{Task}
use Rattle.stm_world.specs.Log.{Line, begun, is_over, running, started, failures, store, known_after_log, with_commit, store_after_asked}
use Rattle.stm_world.specs.Log.{commit_entry as entry_of_commit, entries_asked as entries_of, line_entries, entries_reported}
use Rattle.stm_world.specs.Right.{IsRight, StepIsRight, RunnerIsRight, StartIsRight, situation}
use Rattle.stm_world.specs.World.{World, opened, step, world_after, replies_to}
use Rattle.stm_world.proofs.Following.{FollowsStep, with_line}
use Rattle.stm_world.proofs.Headlines.{Follows, step_follows, opened_follows}
use Rattle.stm_world.proofs.RunnerSteps.{CommitLaws, reads_truth}
use Rattle.stm_world.proofs.Slots.{same_number, other_number}
use Rattle.stm_world.proofs.Untouched.{IsFresh, call_says_nothing}
use Rattle.stm_check.specs.declared.runner.Runner.{Runner}
use Rattle.stm_check.specs.Fits.{can_have}
use Rattle.stm_check.specs.Point.{Point, commit_entry, entries_asked, led_by, standing_asked, after}
use Rattle.stm_check.specs.Replays.{IsCommitOf, AskedReplays}
use Rattle.stm_check.specs.Runners.{running as running_in, runners_after}
use Rattle.stm_check.specs.StoreLines.{end_lines}
use Rattle.stm_check.specs.Wrong.{IsRight as IsRightLine, AreRight, entries_along}
use Rattle.stm_check.proofs.CallLemmas.{call_led}
use Rattle.stm_report.specs.Report.{event_lines}
use Rattle.stm_report_laws.proofs.RunsReported.{RunsAreReported, none_are_reported, run_with, runs_with}
use Rattle.stm_report_laws.proofs.RunsReported.{same_runs, quiet_runs, Goes, goes_on, ended_runs, failed_runs, begun_runs}
use Rattle.stm_world.proofs.EventKeeps.{store_limit}
use Rattle.stm_report_laws.proofs.CallsReported.{unwatched, calls_can, calls_replay, calls_leave, calls_enter}
use Rattle.stm_report_laws.proofs.CommitsReported.{IsCommitLine, commit_right, commit_store}

-- ---- a point, by the log so far

abbrev pub point_at : Setup → List Line → List Runner → Point
point_at start log rs = record { standing = unwatched (store start log); entries = length (entries_reported start log); runners = rs }

-- the store after the line of what is asked
abbrev store_after : Setup → List Line → Asked → Result Reply Denied → Standing
store_after start log a reply = store_after_asked (λ id. begun id log) a reply (store start log)

-- The line of an event that asks this can stand there and is what the replay gives, it leads to the store of the longer log, its entries are those of the
-- log, and so are the runners after it.
record GoesOn (start : Setup) (log : List Line) (rs : List Runner) (event : WorldEvent) (a : Asked) (reply : Result Reply Denied) : Type 0 where
  can : can_have rs a reply ≡ true
  replays : AskedReplays (unwatched (store start log)) rs a reply
  store_is : standing_asked (unwatched (store start log)) rs a reply ≡ unwatched (store_after start log a reply)
  entries_are : entries_asked (unwatched (store start log)) rs a reply
      ≡ entries_of (λ id. begun id log) (store start log) (store_after start log a reply) a reply
  runs : RunsAreReported (with_line event reply log) (runners_after a reply rs)

-- the same of an event, which asks one thing
abbrev LineGoesOn : Setup → List Line → List Runner → WorldEvent → Result Reply Denied → Type 0
LineGoesOn start log rs event reply = GoesOn start log rs event (asked event) reply

is_right : (start : Setup) (n : ℕ) (log : List Line) (rs : List Runner) (event : WorldEvent) (reply : Result Reply Denied) →
    LineGoesOn start log rs event reply → IsRightLine n (point_at start log rs) event (Event n reply)
is_right start n log rs event reply g = (ap (λ (b : Bool). b && can_have rs (asked event) reply) (same_number n) ∙ g.can, g.replays)

next_point : (start : Setup) (log : List Line) (rs : List Runner) (event : WorldEvent) (reply : Result Reply Denied) → LineGoesOn start log rs event reply →
    after (point_at start log rs) event reply ≡ point_at start (with_line event reply log) (runners_after (asked event) reply rs)
next_point start log rs event reply g = grind (arith, nat_tests, unwatched, length-append)

-- ---- starts

start_can : (limit count : ℕ) (rs : List Runner) → limit ≢ 0 → length rs ≡ count → not (nat_eq limit 0) && nat_eq (count + 1) (length rs + 1) ≡ true
start_can limit count rs some is = grind (arith, nat_tests, other_number, same_number)

start_goes : (start : Setup) (log : List Line) (rs : List Runner) (task : Task) (reply : Result Reply Denied) → RunsAreReported log rs →
    IsFresh start log (started log + 1) → StartIsRight (started log) task.limit reply →
    LineGoesOn start log rs (Start task.program task.level task.limit) reply
start_goes start log rs task (Ok reply) reported fresh right =
    subst (λ (x : Reply). LineGoesOn start log rs (Start task.program task.level task.limit) (Ok x)) (sym right.0) (record {
      can = start_can task.limit (started log) rs right.1 reported.count;
      replays = tt;
      store_is = refl;
      entries_are = refl;
      runs = begun_runs start log rs task fresh reported;
    })
start_goes start log rs task (Err refusal) reported fresh right =
    subst (λ (x : Denied). LineGoesOn start log rs (Start task.program task.level task.limit) (Err x)) (sym right.0) (record {
      can = refl;
      replays = (right.1, refl);
      store_is = refl;
      entries_are = refl;
      runs = same_runs (record { event = Start task.program task.level task.limit; reply = denied BadLimit }) log rs (refl, refl, refl) reported;
    })

-- ---- steps

-- a line of the runner, which runs
step_can : (log : List Line) (rs : List Runner) (id runner : ℕ) (task : Task) → runner ≡ id → Goes log rs id task →
    nat_eq runner id && is_some (running_in id rs) ≡ true
step_can log rs id runner task own goes = grind (arith, nat_tests, same_number)

-- the task that a log names as running was begun
begun_by : (over : Bool) (o : Option Task) (task : Task) → cond over None o ≡ Some task → o ≡ Some task
begun_by over o task is = grind (arith, nat_tests)

-- what a runner that runs has read is true
abbrev RunnersKnowTruth : Setup → List Line → Type 0
RunnersKnowTruth start log = (id : ℕ) (task : Task) → running id log ≡ Some task → AreTrue (store start log).history (known_after_log start id task log).reads

commit_goes : (start : Setup) (log : List Line) (rs : List Runner) (id revision attempts : ℕ) (task : Task) (output : List Value)
    (trace : List TraceItem) (answers : List CommittedRead) → RunsAreReported log rs → Goes log rs id task →
    IsCommitLine (situation start log id task) revision attempts (failures id log) output trace answers →
    LineGoesOn start log rs (Step id) (Ok (Committed id revision attempts output trace answers))
commit_goes start log rs id revision attempts task output trace answers reported goes e =
    let s : Standing = store start log in
    let was : begun id log ≡ Some task = begun_by (is_over id log) (begun id log) task goes.runs in
    let entered : commit_entry s.history revision output trace answers (running_in id rs)
    ≡ commit_entry s.history revision output trace answers (Some (run_with (failures id log) task)) =
    ap (commit_entry s.history revision output trace answers) goes.found in
    record {
      can = step_can log rs id id task refl goes;
      replays = subst (λ (o : Option Runner). IsCommitOf (unwatched s) o revision attempts output trace answers) (sym goes.found)
          (commit_right (situation start log id task) revision attempts (failures id log) output trace answers e);
      store_is = ap (λ (es : List Entry). led_by es (unwatched s)) entered ∙ commit_store s task revision output trace answers
          ∙ sym (ap (λ (o : Option Task). unwatched (with_commit s answers o)) was);
      entries_are = entered ∙ sym (ap (entry_of_commit s.history revision output trace answers) was);
      runs = ended_runs (record { event = Step id; reply = Ok (Committed id revision attempts output trace answers) }) log rs id task (refl, refl, refl) goes
          reported;
    }

-- a step that reports no commit enters nothing
abbrev IsNoCommit : Reply → Type 0
IsNoCommit (Committed runner revision attempts output trace answers) = ⊥
IsNoCommit other = Unit {0}

quietly : (start : Setup) (log : List Line) (rs : List Runner) (id : ℕ) (reply : Reply) → IsNoCommit reply → can_have rs (Steps id) (Ok reply) ≡ true →
    RunsAreReported (with_line (Step id) (Ok reply) log) (runners_after (Steps id) (Ok reply) rs) → LineGoesOn start log rs (Step id) (Ok reply)
quietly start log rs id reply none can runs = grind (arith, nat_tests)

live_goes : (start : Setup) (log : List Line) (rs : List Runner) (id : ℕ) (task : Task) (reply : Result Reply Denied) → RunsAreReported log rs → Goes log rs id task →
    RunnersKnowTruth start log → StepIsRight (situation start log id task) reply → LineGoesOn start log rs (Step id) reply
live_goes start log rs id task (Err refusal) reported goes known right = absurd right
live_goes start log rs id task (Ok (Prefetched runner revision reads)) reported goes known right =
    quietly start log rs id (Prefetched runner revision reads) tt (step_can log rs id runner task right.0 goes)
    (same_runs (record { event = Step id; reply = Ok (Prefetched runner revision reads) }) log rs (refl, refl, refl) reported)
live_goes start log rs id task (Ok (Fetched runner key mod_rev of_rev revision)) reported goes known right =
    quietly start log rs id (Fetched runner key mod_rev of_rev revision) tt (step_can log rs id runner task right.0 goes)
    (same_runs (record { event = Step id; reply = Ok (Fetched runner key mod_rev of_rev revision) }) log rs (refl, refl, refl) reported)
live_goes start log rs id task (Ok (Committed runner revision attempts output trace answers)) reported goes known right =
    subst (λ k. LineGoesOn start log rs (Step id) (Ok (Committed k revision attempts output trace answers))) (sym right.0)
    (commit_goes start log rs id revision attempts task output trace answers reported goes
    (record { right = right.3; truth = known id task goes.runs; attempt = right.1; may_be_sent = right.2 }))
live_goes start log rs id task (Ok (Conflict runner key seen now)) reported goes known right =
    quietly start log rs id (Conflict runner key seen now) tt (step_can log rs id runner task right.0 goes)
    (failed_runs (record { event = Step id; reply = Ok (Conflict runner key seen now) }) log rs id task (refl, refl, ap Some right.0) goes reported)
live_goes start log rs id task (Ok (GaveUp runner attempts key seen now)) reported goes known right =
    quietly start log rs id (GaveUp runner attempts key seen now) tt (step_can log rs id runner task right.0 goes)
    (ended_runs (record { event = Step id; reply = Ok (GaveUp runner attempts key seen now) }) log rs id task (refl, ap Some right.0, refl) goes reported)
live_goes start log rs id task (Ok (Aborted runner text)) reported goes known right =
    quietly start log rs id (Aborted runner text) tt (step_can log rs id runner task right.0 goes)
    (ended_runs (record { event = Step id; reply = Ok (Aborted runner text) }) log rs id task (refl, ap Some right.0, refl) goes reported)
live_goes start log rs id task (Ok (Faulted runner fault)) reported goes known right =
    quietly start log rs id (Faulted runner fault) tt (step_can log rs id runner task right.0 goes)
    (ended_runs (record { event = Step id; reply = Ok (Faulted runner fault) }) log rs id task (refl, ap Some right.0, refl) goes reported)
live_goes start log rs id task (Ok (Ended runner cause)) reported goes known right =
    quietly start log rs id (Ended runner cause) tt (step_can log rs id runner task right.0 goes)
    (ended_runs (record { event = Step id; reply = Ok (Ended runner cause) }) log rs id task (refl, ap Some right.0, refl) goes reported)
live_goes start log rs id task (Ok _) reported goes known right = absurd right

runner_goes : (start : Setup) (log : List Line) (rs : List Runner) (id : ℕ) (o : Option Task) (reply : Result Reply Denied) → RunsAreReported log rs →
    running id log ≡ o → RunnersKnowTruth start log → RunnerIsRight start log id o reply → LineGoesOn start log rs (Step id) reply
runner_goes start log rs id None reply reported runs known right =
    subst (λ (x : Result Reply Denied). LineGoesOn start log rs (Step id) x) (sym right) (record {
      can = refl;
      replays = (reported.runs id ∙ ap (runs_with (failures id log)) runs, refl);
      store_is = refl;
      entries_are = refl;
      runs = same_runs (record { event = Step id; reply = denied NoRunner }) log rs (refl, refl, refl) reported;
    })
runner_goes start log rs id (Some task) reply reported runs known right =
    live_goes start log rs id task reply reported (goes_on log rs id task reported runs) known right

-- ---- calls

call_goes : (start : Setup) (log : List Line) (rs : List Runner) (event : WorldEvent) (reply : Result Reply Denied) {c : Call} → asked event ≡ Calls c →
    reply ≡ (called (store start log) c).reply → RunsAreReported log rs → LineGoesOn start log rs event reply
call_goes start log rs event reply {c} is right reported =
    grind (arith, nat_tests, calls_can, calls_replay, call_led, unwatched, few_are_replayed, store_limit, calls_leave, calls_enter, quiet_runs, call_says_nothing)

event_goes : (start : Setup) (log : List Line) (rs : List Runner) (event : WorldEvent) (reply : Result Reply Denied) → RunsAreReported log rs →
    IsFresh start log (started log + 1) → RunnersKnowTruth start log → IsRight start log event reply → LineGoesOn start log rs event reply
event_goes start log rs (Start program level limit) reply reported fresh known right =
    start_goes start log rs (record { program = program; level = level; limit = limit }) reply reported fresh right
event_goes start log rs (Step id) reply reported fresh known right =
    runner_goes start log rs id (running id log) reply reported refl known right
event_goes start log rs event reply reported fresh known right = call_goes start log rs event reply refl right reported

-- ---- all lines

-- in a world that follows a log
known_truth : (start : Setup) (log : List Line) (w : World) → Follows start log w → RunnersKnowTruth start log
known_truth start log w f id task runs = reads_truth start log w.runners w.entries id task (record { follows = f.at; running = runs })

-- the line of its next event
line_goes : (start : Setup) (log : List Line) (w : World) (rs : List Runner) (event : WorldEvent) → Follows start log w → RunsAreReported log rs →
    FollowsStep start log event (step event w) → LineGoesOn start log rs event (step event w).reply
line_goes start log w rs event f reported s =
    event_goes start log rs event (step event w).reply reported (f.at.fresh (started log + 1) (omega arith)) (known_truth start log w f) s.follows.right.0

lines_right : (start : Setup) (n : ℕ) (events : List WorldEvent) (log : List Line) (w : World) (rs : List Runner) → CommitLaws → Follows start log w →
    RunsAreReported log rs →
    AreRight n (point_at start log rs) events
    (event_lines n (replies_to events w) ++ end_lines (world_after events w).standing (length (world_after events w).entries))
lines_right start n [] log w rs laws f reported = λ i. end_lines (f.standing i) (length (f.at.reported i))
lines_right start n (e ∷ es) log w rs laws f reported =
    let s : FollowsStep start log e (step e w) = step_follows start log e w laws f in
    let reply : Result Reply Denied = (step e w).reply in
    let g : LineGoesOn start log rs e reply = line_goes start log w rs e f reported s in
    let next : World = (step e w).next in
    let lines : List ReportLine =
    event_lines (suc n) (replies_to es next) ++ end_lines (world_after es next).standing (length (world_after es next).entries) in (
      is_right start n log rs e reply g,
      subst (λ (p : Point). AreRight (suc n) p es lines) (sym (next_point start log rs e reply g))
          (lines_right start (suc n) es (with_line e reply log) next (runners_after (asked e) reply rs) laws
          (record { standing = s.standing; at = s.follows }) g.runs),
    )

-- from the opening of a world on
pub all_right : (start : Setup) (events : List WorldEvent) → CommitLaws →
    AreRight 1 (point_at start [] []) events
    (event_lines 1 (replies_to events (opened start))
    ++ end_lines (world_after events (opened start)).standing (length (world_after events (opened start)).entries))
all_right start events laws = lines_right start 1 events [] (opened start) [] laws (opened_follows start) none_are_reported

-- ---- all entries

-- the entries that the lines report, after those of the log so far, are the world's
entries_right : (start : Setup) (n : ℕ) (events : List WorldEvent) (log : List Line) (w : World) (rs : List Runner) → CommitLaws → Follows start log w →
    RunsAreReported log rs →
    entries_reported start log ++ entries_along (point_at start log rs) events
    (event_lines n (replies_to events w) ++ end_lines (world_after events w).standing (length (world_after events w).entries))
    ≡ (world_after events w).entries
entries_right start n [] log w rs laws f reported = append-nil (entries_reported start log) ∙ sym f.at.reported
entries_right start n (e ∷ es) log w rs laws f reported =
    let s : FollowsStep start log e (step e w) = step_follows start log e w laws f in
    let reply : Result Reply Denied = (step e w).reply in
    let g : LineGoesOn start log rs e reply = line_goes start log w rs e f reported s in
    let next : World = (step e w).next in
    let lines : List ReportLine =
    event_lines (suc n) (replies_to es next) ++ end_lines (world_after es next).standing (length (world_after es next).entries) in
    let before : List Entry = entries_reported start log in
    let own : List Entry = line_entries start (record { event = e; reply = reply }) log in
    let reported_own : List Entry = entries_asked (unwatched (store start log)) rs (asked e) reply in
    let after_own : Point = after (point_at start log rs) e reply in
    sym (append_assoc before reported_own (entries_along after_own es lines))
    ∙ ap (λ (more : List Entry). (before ++ more) ++ entries_along after_own es lines) g.entries_are
    ∙ ap (λ (p : Point). (before ++ own) ++ entries_along p es lines) (next_point start log rs e reply g)
    ∙ entries_right start (suc n) es (with_line e reply log) next (runners_after (asked e) reply rs) laws (record { standing = s.standing; at = s.follows }) g.runs

-- from the opening of a world on
pub all_entries : (start : Setup) (events : List WorldEvent) → CommitLaws →
    entries_along (point_at start [] []) events (event_lines 1 (replies_to events (opened start))
    ++ end_lines (world_after events (opened start)).standing (length (world_after events (opened start)).entries))
    ≡ (world_after events (opened start)).entries
all_entries start events laws = entries_right start 1 events [] (opened start) [] laws (opened_follows start) none_are_reported
