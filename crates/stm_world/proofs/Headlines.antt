-- The headline: each step leads to a world that follows its log.
use Rattle.std.proofs.Common.{◌≡◌, ◌≢◌, ℕ, ◌+◌, ◌<◌, ◌≤◌, List, [], ◌∷◌, ◌++◌, length, Option, Some, None, Ok, Bool, true, false, cond, refl, sym, ◌∙◌, ap}
use Rattle.std.proofs.Common.{subst, arith}
use Rattle.std.proofs.lemmas.List.{append-nil}
use Rattle.std.specs.Prelude.{nat_eq, option_map}
use Rattle.std.proofs.lemmas.Bool.Decides.{nat_tests}
use Rattle.stm_txn.specs.Standing.{Standing, Setup}
use Rattle.stm_program.specs.Levels.{is_serializable}
use Rattle.stm_program.specs.Limits.{has_repeat}
use Rattle.stm_attempt.specs.Known.{HaveDistinctKeys}
use Rattle.stm_entries.specs.declared.entry.Entry.{Entry}
use Rattle.stm_entries.specs.Replayed.{without_moment}
use Rattle.stm_events.specs.declared.event.WorldEvent.{WorldEvent}
use Rattle.stm_events.specs.declared.event.WorldEvent.TheVariants.{Start, Step}
use Rattle.stm_events.specs.declared.reply.Reply.TheVariants.{Started}
use Rattle.stm_events.specs.declared.refusal.EventRefusal.TheVariants.{BadLimit, NoRunner}
use Rattle.stm_events.specs.Replies.{denied}
use Rattle.stm_events.specs.Called.{Call, Asked, Calls, asked, Called, called, entered, entered_by}
use Rattle.stm_events.proofs.Asking.{by_asked}
use Rattle.stm_events.proofs.CallReplies.{entered_is}
use Rattle.stm_world.specs.Task.{Task}
use Rattle.stm_world.specs.Log.{Line, begun, running, started, store, store_after_asked, entries_asked, line_entries, entries_reported, known_after_log}
use Rattle.stm_world.specs.Right.{RunnerIsRight, IsRightAsked}
use Rattle.stm_world.specs.World.{World, Runner, Slot, Live, live_in, runner_at, begin, opened, refused, start_runner, step_runner, make_call, step_asked}
use Rattle.stm_world.specs.World.{step, world_after, replies_to}
use Rattle.stm_world.specs.Headline.{runner_for, runner_in_log, AreOfOneState, Headline, OneState, ReadOnce}
use Rattle.stm_world.specs.Sound.{KnowsTruth}
use Rattle.stm_world.proofs.Bases.{IsWellRun, begin_runs}
use Rattle.stm_world.proofs.Asked.{asked_are_distinct}
use Rattle.stm_world.proofs.OneState.{are_of_one_state}
use Rattle.stm_world.proofs.Logs.{logged, log_of, log_of_is_log, of_each_log}
use Rattle.stm_world.proofs.Slots.{equal_numbers, same_number, other_number, differ, runner_new, runner_old, count_grows, no_runner}
use Rattle.stm_world.proofs.Untouched.{IsFresh, none_reported, same_in_log, fresh_stays, by_refusal, by_reply, call_says_nothing}
use Rattle.stm_world.proofs.Following.{FollowsAt, FollowsStep, with_line, world_at, no_runner_touched, nothing_touched}
use Rattle.stm_world.proofs.RunnerSteps.{CommitLaws, live_follows}
use Rattle.stm_world.proofs.Entered.{EntriesFollow, nothing_follows}
use Rattle.stm_world.proofs.EventKeeps.{store_limit}
use Rattle.stm_world.proofs.Calls.{call_adds, call_follows}

-- ---- starts ----

new_in_log : (start : Setup) (log : List Line) (id : ℕ) (task : Task) → IsFresh start log id →
    runner_in_log start (with_line (Start task.program task.level task.limit) (Ok (Started id)) log) id ≡ Some (begin task)
new_in_log start log id task fresh = grind (arith, nat_tests, with_line, same_number)

nothing_true : (start : Setup) (log : List Line) (task : Task) (r : Runner) → live_in (Some (Live (begin task))) ≡ Some r →
    KnowsTruth (store start log).history r.known
nothing_true start log task r is = let same : begin task ≡ r = cc in subst (λ (x : Runner). KnowsTruth (store start log).history x.known) same (tt, tt)

begun_runs : (start : Setup) (task : Task) (r : Runner) → task.limit ≢ 0 → live_in (Some (Live (begin task))) ≡ Some r → IsWellRun start r
begun_runs start task r some is = grind (arith, nat_tests, IsWellRun, begin_runs)

started_follows : (start : Setup) (log : List Line) (runners : List Slot) (entries : List Entry) (task : Task) → FollowsAt start log runners entries →
    task.limit ≢ 0 →
    FollowsAt start (with_line (Start task.program task.level task.limit) (Ok (Started (length runners + 1))) log) (runners ++ Live (begin task) ∷ []) entries
started_follows start log runners entries task f some =
    let id : ℕ = length runners + 1 in
    let line : Line = record { event = Start task.program task.level task.limit; reply = Ok (Started id) } in
    let slot : Slot = Live (begin task) in
    let above : started log < id = subst (λ n. n < id) f.count (let up : length runners < length runners + 1 = omega arith in up) in
    record {
      right = ((ap (λ n. Started (n + 1)) f.count, some), f.right);
      count = count_grows runners slot ∙ ap (λ n. n + 1) f.count;
      slots = λ other. elim (nat_eq id other) as (λ b. nat_eq id other ≡ b → runner_at other (runners ++ slot ∷ []) ≡ runner_in_log start (line ∷ log) other) [
        | true ↦ λ is. subst (λ n. runner_at n (runners ++ slot ∷ []) ≡ runner_in_log start (line ∷ log) n) (equal_numbers id other is)
            (runner_new runners slot ∙ sym (new_in_log start log id task (f.fresh id above)))
        | false ↦ λ is. runner_old runners slot other (λ e. differ id other is (sym e)) ∙ f.slots other
            ∙ sym (same_in_log start other line log (by_reply other (Started id) is))
      ] refl;
      fresh = λ other beyond.
          let ne : nat_eq id other ≡ false =
          other_number id other (λ same.
          let count : length runners ≡ started log = f.count in
          let far : started log + 1 < other = beyond in
          omega (arith, same)) in
          let more : started log < other = let far : started log + 1 < other = beyond in omega arith in
          fresh_stays start other line log (by_reply other (Started id) ne) (f.fresh other more);
      truth = λ other x found. elim (nat_eq id other) as (λ b. nat_eq id other ≡ b → KnowsTruth (store start log).history x.known) [
        | true ↦ λ is. nothing_true start log task x
            (sym (runner_new runners slot) ∙ subst (λ n. runner_at n (runners ++ slot ∷ []) ≡ Some x) (sym (equal_numbers id other is)) found)
        | false ↦ λ is. f.truth other x (sym (runner_old runners slot other (λ e. differ id other is (sym e))) ∙ found)
      ] refl;
      well_run = λ other x found. elim (nat_eq id other) as (λ b. nat_eq id other ≡ b → IsWellRun start x) [
        | true ↦ λ is. begun_runs start task x some
            (sym (runner_new runners slot) ∙ subst (λ n. runner_at n (runners ++ slot ∷ []) ≡ Some x) (sym (equal_numbers id other is)) found)
        | false ↦ λ is. f.well_run other x (sym (runner_old runners slot other (λ e. differ id other is (sym e))) ∙ found)
      ] refl;
      reported = f.reported ∙ sym (append-nil (entries_reported start log));
      replays = f.replays;
      legal = f.legal;
    }

start_by : (start : Setup) (log : List Line) (runners : List Slot) (entries : List Entry) (task : Task) (none : Bool) → nat_eq task.limit 0 ≡ none →
    FollowsAt start log runners entries →
    FollowsStep start log (Start task.program task.level task.limit) (cond none (refused BadLimit (world_at start log runners entries)) (record {
      reply = Ok (Started (length runners + 1));
      next = record { standing = store start log; runners = runners ++ Live (begin task) ∷ []; entries = entries };
    }))
start_by start log runners entries task true none f = record {
  standing = refl;
  follows = nothing_touched start log runners entries (Start task.program task.level task.limit) (denied BadLimit) f
      (refl, equal_numbers task.limit 0 none) refl (λ id. by_refusal id (record { cause = BadLimit; expired = [] })) refl
      (nothing_follows (store start log));
}
start_by start log runners entries task false none f =
    record { standing = refl; follows = started_follows start log runners entries task f (differ task.limit 0 none) }

start_follows : (start : Setup) (log : List Line) (runners : List Slot) (entries : List Entry) (task : Task) → FollowsAt start log runners entries →
    FollowsStep start log (Start task.program task.level task.limit) (start_runner task (world_at start log runners entries))
unfolding start_runner
start_follows start log runners entries task f = start_by start log runners entries task (nat_eq task.limit 0) refl f

-- ---- steps ----

runner_by : (start : Setup) (log : List Line) (runners : List Slot) (entries : List Entry) (id : ℕ) (o : Option Task) → CommitLaws →
    FollowsAt start log runners entries → running id log ≡ o →
    FollowsStep start log (Step id) (step_runner id (option_map (runner_for start log id) o) (world_at start log runners entries))
runner_by start log runners entries id None laws f runs = record {
  standing = refl;
  follows = nothing_touched start log runners entries (Step id) (denied NoRunner) f
      (subst (λ (o : Option Task). RunnerIsRight start log id o (denied NoRunner)) (sym runs) refl) refl
      (λ other. by_refusal other (record { cause = NoRunner; expired = [] })) refl (nothing_follows (store start log));
}
runner_by start log runners entries id (Some task) laws f runs = live_follows start log runners entries id task laws (record { follows = f; running = runs })

runner_follows : (start : Setup) (log : List Line) (runners : List Slot) (entries : List Entry) (id : ℕ) → CommitLaws → FollowsAt start log runners entries →
    FollowsStep start log (Step id) (step_runner id (runner_at id runners) (world_at start log runners entries))
runner_follows start log runners entries id laws f = grind (arith, nat_tests, FollowsStep, world_at, runner_by)

-- ---- calls ----

call_follows_step : (start : Setup) (log : List Line) (runners : List Slot) (entries : List Entry) (event : WorldEvent) (c : Call) → asked event ≡ Calls c →
    FollowsAt start log runners entries → FollowsStep start log event (make_call c (world_at start log runners entries))
call_follows_step start log runners entries event c is f =
    let s : Standing = store start log in
    let d : Called = called s c in
    let line : Line = record { event = event; reply = d.reply } in
    let left : store start (line ∷ log) ≡ d.next = ap (λ (a : Asked). store_after_asked (λ id. begun id log) a d.reply s) is in
    let says = call_says_nothing s c in
    let adds : entered s c ≡ line_entries start line log =
    entered_is s c ∙ ap (λ (x : Standing). entered_by c s x d.reply) (sym left)
    ∙ ap (λ (a : Asked). entries_asked (λ id. begun id log) s (store start (line ∷ log)) a d.reply) (sym is) in
    subst (FollowsStep start log event) (sym (call_adds c (world_at start log runners entries))) (record {
      standing = sym left;
      follows = no_runner_touched start log runners entries (entered s c) event d.reply f
          (subst (λ (a : Asked). IsRightAsked start log a d.reply) (sym is) refl) says.not_started says.untouched adds
          (subst (λ (x : Standing). EntriesFollow s x (entered s c)) (sym left) (call_follows s c (store_limit start log)));
    })

-- each event
pub event_follows : (start : Setup) (log : List Line) (runners : List Slot) (entries : List Entry) (event : WorldEvent) → CommitLaws →
    FollowsAt start log runners entries → FollowsStep start log event (step event (world_at start log runners entries))
event_follows start log runners entries event laws f =
    by_asked (λ e. FollowsStep start log e (step e (world_at start log runners entries)))
    (λ program level limit. start_follows start log runners entries (record { program = program; level = level; limit = limit }) f)
    (λ id. runner_follows start log runners entries id laws f)
    (λ e c is. subst (λ (a : Asked). FollowsStep start log e (step_asked a (world_at start log runners entries))) (sym is)
    (call_follows_step start log runners entries e c is f)) event

-- ---- whole runs ----

-- a world that follows a log
pub record Follows (start : Setup) (log : List Line) (w : World) : Type 0 where
  pub standing : w.standing ≡ store start log
  pub at : FollowsAt start log w.runners w.entries

pub step_follows : (start : Setup) (log : List Line) (event : WorldEvent) (w : World) → CommitLaws → Follows start log w → FollowsStep start log event (step event w)
step_follows start log event w laws f =
    subst (λ (s : Standing). FollowsStep start log event (step event (record { standing = s; runners = w.runners; entries = w.entries }))) (sym f.standing)
    (event_follows start log w.runners w.entries event laws f.at)

pub run_follows : (start : Setup) (events : List WorldEvent) (log : List Line) (w : World) → CommitLaws → Follows start log w →
    Follows start (logged events (replies_to events w) log) (world_after events w)
run_follows start [] log w laws f = f
run_follows start (e ∷ es) log w laws f =
    let s : FollowsStep start log e (step e w) = step_follows start log e w laws f in
    run_follows start es (with_line e (step e w).reply log) (step e w).next laws (record { standing = s.standing; at = s.follows })

pub opened_follows : (start : Setup) → Follows start [] (opened start)
opened_follows start = grind (arith, nat_tests, no_runner, none_reported)

pub headline : CommitLaws → Headline
headline laws start events =
    let f : Follows start (log_of start events) (world_after events (opened start)) =
    run_follows start events [] (opened start) laws (opened_follows start) in
    record {
      log = log_of start events;
      is_log = log_of_is_log start events;
      right = f.at.right;
      standing = f.standing;
      count = f.at.count;
      runners = f.at.slots;
      entries = f.at.reported;
      replays = f.at.replays ∙ ap without_moment (sym f.standing);
      legal = f.at.legal;
    }

-- a runner that runs after these events
record RunsAfter (start : Setup) (events : List WorldEvent) (r : Runner) : Type 0 where
  truth : KnowsTruth (store start (log_of start events)).history r.known
  well_run : IsWellRun start r

runs_after : (start : Setup) (events : List WorldEvent) (id : ℕ) (task : Task) → CommitLaws →
    running id (log_of start events) ≡ Some task → RunsAfter start events (runner_for start (log_of start events) id task)
runs_after start events id task laws runs =
    let log : List Line = log_of start events in
    let w : World = world_after events (opened start) in
    let r : Runner = runner_for start log id task in
    let f : Follows start log w = run_follows start events [] (opened start) laws (opened_follows start) in
    let found : runner_at id w.runners ≡ Some r = f.at.slots id ∙ ap (option_map (runner_for start log id)) runs in
    record { truth = f.at.truth id r found; well_run = f.at.well_run id r found }

-- what an attempt at a serializable level has read is of one state, whatever comes of it
pub one_state : CommitLaws → OneState
one_state laws =
    of_each_log (λ (start : Setup) (log : List Line). (id : ℕ) (task : Task) → 1 ≤ start.revision → running id log ≡ Some task →
    is_serializable task.level ≡ true → AreOfOneState (store start log).history task (known_after_log start id task log).reads)
    (λ start events id task some runs serializable.
    let log : List Line = log_of start events in
    let known : RunsAfter start events (runner_for start log id task) = runs_after start events id task laws runs in
    are_of_one_state (store start log).history task (known_after_log start id task log).reads (known.well_run.based some serializable).0 known.truth.0)

-- no attempt reads a key twice
pub read_once : CommitLaws → ReadOnce
read_once laws =
    of_each_log (λ (start : Setup) (log : List Line). (id : ℕ) (task : Task) → running id log ≡ Some task → has_repeat task.program.prefetch ≡ false →
    HaveDistinctKeys (known_after_log start id task log).reads)
    (λ start events id task runs once.
    let well = (runs_after start events id task laws runs).well_run in
    asked_are_distinct task.program (known_after_log start id task (log_of start events)).reads once well.listed well.asked)
