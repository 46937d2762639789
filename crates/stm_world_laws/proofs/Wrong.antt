-- Wrong logs are rejected.
use Rattle.std.proofs.Common.{◌≡◌, ◌≢◌, ℕ, ◌+◌, ◌-◌, ◌≤◌, suc, List, [], ◌∷◌, length, Option, Some, None, Ok, Err, Bool, true}
use Rattle.std.proofs.Common.{false, cond, refl, sym, ◌∙◌, ap, subst, arith}
use Rattle.std.specs.Prelude.{nat_lt, slice_set, Result}
use Rattle.std.proofs.lemmas.Bool.{le-leb, Decides.nat_tests}
use Rattle.stm_steps.specs.declared.run.End.TheVariants.{Done as DoneEnd, Aborted as AbortedEnd}
use Rattle.stm_steps.specs.declared.run.Run.{Run}
use Rattle.stm_steps.specs.declared.run.Answered.TheVariants.{Ended as EndedRun, Wants}
use Rattle.stm_steps.specs.declared.trace_item.TraceItem.{TraceItem}
use Rattle.stm_steps.specs.declared.value.Value.{Value}
use Rattle.stm_meaning.specs.Meaning.{run_over}
use Rattle.stm_entries.specs.Replayed.{without_moment}
use Rattle.stm_entries.specs.Alone.{seen_at, applied_run}
use Rattle.stm_outcome.specs.Outcome.{Done as StoreDone}
use Rattle.stm_attempt.specs.Settled.{run_on}
use Rattle.stm_attempt.specs.Entering.{is_due}
use Rattle.std.proofs.lemmas.List.{length-map}
use Rattle.stm_events.specs.declared.reply.KeyRead.{KeyRead}
use Rattle.stm_events.specs.declared.reply.CommittedRead.{CommittedRead}
use Rattle.stm_attempt.specs.Fetches.{at_of}
use Rattle.stm_history.specs.History.{now}
use Rattle.stm_events.specs.declared.event.WorldEvent.{WorldEvent}
use Rattle.stm_events.specs.declared.event.WorldEvent.TheVariants.{Start, Step}
use Rattle.stm_events.specs.declared.reply.Reply.{Reply}
use Rattle.stm_events.specs.declared.reply.Reply.TheVariants.{Started, Prefetched, Fetched, Committed, Conflict, GaveUp, Aborted, Faulted, Ended}
use Rattle.stm_events.specs.declared.reply.Reply.TheVariants.{Batch, Compacted, Lost}
use Rattle.stm_events.specs.declared.refusal.Denied.{Denied}
use Rattle.stm_events.specs.declared.refusal.EventRefusal.TheVariants.{NoRunner}
use Rattle.stm_outcome.specs.declared.refusal.Refusal.{Refusal as StoreRefusal}
use Rattle.stm_outcome.specs.declared.refusal.Refusal.TheVariants.{Compacted as CompactedRefusal, FutureRevision}
use Rattle.stm_outcome.specs.Terms.{is_below_floor}
use Rattle.stm_watch.specs.declared.refusal.PollRefusal.TheVariants.{Compacted as LostToPoll}
use Rattle.stm_txn.specs.Standing.{Standing, poll_step, polled, with_floor, floor_step, Setup}
use Rattle.stm_keys.specs.declared.event.Event.{Event}
use Rattle.stm_watch.specs.Watching.{Watching}
use Rattle.stm_watch.specs.Pending.{pending, batch_of, after_poll}
use Rattle.stm_watch.specs.Calls.{watcher_at, poll_found}
use Rattle.stm_events.specs.Replies.{runner_of, denied, reply_to, poll_reply}
use Rattle.stm_world.specs.Task.{Task, modified_now}
use Rattle.stm_world.specs.Log.{Line, begun, running, started, is_start, runner_started, is_id, store}
use Rattle.stm_world.specs.Right.{IsRight, AreRight, RunnerIsRight, Situation, HasList, ReplyIsRight, EndsWith, IsCommitted, IsRefused, situation}
use Rattle.stm_world_laws.specs.WrongLogs.{WrongLogs}
use Rattle.stm_world.proofs.Logs.{as_many}
use Rattle.stm_world.proofs.Untouched.{call_says_nothing}
use Rattle.stm_world.proofs.Slots.{equal_numbers}

-- ---- numbers ----

runner_gives_none : (start : Setup) (log : List Line) (id : ℕ) (o : Option Task) (reply : Result Reply Denied) → RunnerIsRight start log id o reply →
    runner_started reply ≡ None
runner_gives_none start log id o reply right = grind (arith, nat_tests)

-- a start that is right gives the number after those that were given
pub given_next : (start : Setup) (log : List Line) (event : WorldEvent) (reply : Result Reply Denied) (id : ℕ) → IsRight start log event reply →
    runner_started reply ≡ Some id → id ≡ started log + 1
given_next start log event reply id right named = grind (arith, nat_tests, runner_gives_none, call_says_nothing)

begun_by : (id count : ℕ) (o : Option ℕ) (here rest : Option Task) (task : Task) → ((runner : ℕ) → o ≡ Some runner → runner ≡ count + 1) →
    (rest ≡ Some task → id ≤ count) → cond (is_id id o) here rest ≡ Some task → id ≤ cond (is_start o) (count + 1) count
begun_by id count o here rest task next earlier is = grind (arith, nat_tests, equal_numbers)

-- a runner that was started has one of the numbers that were given
pub begun_is_started : (start : Setup) (log : List Line) (id : ℕ) (task : Task) → AreRight start log → begun id log ≡ Some task → id ≤ started log
begun_is_started start [] id task right is = absurd (cc)
begun_is_started start (line ∷ older) id task right is = grind (arith, nat_tests, begun_by, given_next, begun_is_started start older id task right.1)

-- ---- replies ----

another_by : (start : Setup) (log : List Line) (id runner : ℕ) (o : Option Task) (reply : Reply) → runner_of reply ≡ Some runner → runner ≢ id
    → RunnerIsRight start log id o (Ok reply) → ⊥
another_by start log id runner o reply named other right = grind (arith, nat_tests)

not_aborted : (at : Situation) (run : Run) (text : List ℕ) → run_on at.task.program at.reads ≡ EndedRun run → run.end ≡ DoneEnd
    → EndsWith at (AbortedEnd text) → ⊥
not_aborted at run text is_run done ends = grind (arith, nat_tests)

-- ---- watchers ----

-- the reply to a poll, by what stands at the watcher's place
abbrev reported_of : Standing → ℕ → ℕ → Option Watching → Result Reply Denied
reported_of s id most o = poll_reply id s.floor (poll_step s (poll_found s.history id most s.watchers o))

-- the reply to a poll of a watcher that is there, by whether it is lost
abbrev reported_if : Standing → ℕ → ℕ → Watching → Bool → Result Reply Denied
reported_if s id most w lost = poll_reply id s.floor (poll_step s (cond lost (Err LostToPoll) (Ok (record {
  answer = batch_of most s.history w;
  next = slice_set s.watchers (id - 1) (Some (after_poll most s.history w));
}))))

there_reported : (s : Standing) (id most : ℕ) (w : Watching) (reply : Result Reply Denied) → watcher_at id s.watchers ≡ Some w →
    reply ≡ poll_reply id s.floor (polled s id most) → reply ≡ reported_if s id most w w.lost
there_reported s id most w reply there right = subst (λ (o : Option Watching). reply ≡ reported_of s id most o) there right

none_refused : (s : Standing) (id most : ℕ) (w : Watching) (refusal : Denied) (lost : Bool) → Err refusal ≡ reported_if s id most w lost → ⊥
none_refused s id most w refusal lost reported = grind (arith, nat_tests)

watcher_named : (s : Standing) (id most watcher upto : ℕ) (events : List Event) (o : Option Watching)
    → Ok (Batch watcher upto events) ≡ reported_of s id most o → watcher ≡ id
watcher_named s id most watcher upto events o reported = grind (arith, nat_tests)

nothing_reported : (s : Standing) (id most upto : ℕ) (w : Watching) (event : Event) (events : List Event) (lost : Bool) → pending s.history w ≡ []
    → Ok (Batch id upto (event ∷ events)) ≡ reported_if s id most w lost → ⊥
nothing_reported s id most upto w event events lost none reported = grind (arith, nat_tests)

-- ---- compactions ----

not_refused : (at : Situation) (key : List ℕ) (trace : List TraceItem) (cause : StoreRefusal) → HasList at → run_on at.task.program at.reads ≡ Wants key trace
    → is_below_floor at.store.floor (at_of at.task.level at.reads) ≡ false → IsRefused at cause → ⊥
not_refused at key trace cause listed wants above h8 = grind (arith, nat_tests)

-- ---- lists ----

is_listed : (start : Setup) (log : List Line) (id : ℕ) (task : Task) (reply : Reply) → running id log ≡ Some task → IsRight start log (Step id) (Ok reply) →
    ReplyIsRight (situation start log id task) reply
is_listed start log id task reply runs right = subst (λ (o : Option Task). RunnerIsRight start log id o (Ok reply)) runs right

none_refused_list : (at : Situation) (cause : StoreRefusal) → is_due at.task.program.prefetch at.reads ≡ true
    → length at.task.program.prefetch ≤ at.store.limit → IsRefused at cause → ⊥
none_refused_list at cause due few h5 = grind (arith, nat_tests)

-- ---- commits ----

one_revision : (at : Situation) (run : Run) (alone : StoreDone) (revision : ℕ) (output : List Value) (trace : List TraceItem) (answers : List CommittedRead)
    → run_over (seen_at at.task.level at.reads at.store.history) at.task.program.statements ≡ EndedRun run
    → applied_run (without_moment at.store) run ≡ Ok alone → IsCommitted at revision output trace answers → revision ≡ now alone.history
one_revision at run alone revision output trace answers is applies c = grind (arith, nat_tests)

-- ---- events without a reply ----

pub wrong_logs : WrongLogs
wrong_logs = record {
  no_answer = λ start event events w holds.
      let none : 0 ≡ suc (length events) = as_many (event ∷ events) [] holds.log holds.is_log in omega (arith, none);
  not_each_answered = λ start events replies w fewer holds. fewer (as_many events replies holds.log holds.is_log);
  causeless_refusal = λ start log id task refusal runs right. subst (λ (o : Option Task). RunnerIsRight start log id o (Err refusal)) runs right;
  refused_start = λ start log program level limit refusal some right. some right.1;
  number_given_twice = λ start log id task program level limit right is again.
      let known : id ≤ started log = begun_is_started start log id task right is in
      let next : id ≡ started log + 1 = given_next start log (Start program level limit) (Ok (Started id)) id again refl in
      omega arith;
  step_of_none = λ start log id reply none right.
      let same : Ok reply ≡ denied NoRunner = subst (λ (o : Option Task). RunnerIsRight start log id o (Ok reply)) none right in absurd (cc);
  another_runner = λ start log id runner reply named other right. another_by start log id runner (running id log) reply named other right;
  another_abort = λ start log id task run text runs is_run done right.
      not_aborted (situation start log id task) run text is_run done
      (subst (λ (o : Option Task). RunnerIsRight start log id o (Ok (Aborted id text))) runs right).1;
  commit_beyond_limit = λ start log id task revision attempts output trace answers runs beyond right.
      let within = (is_listed start log id task (Committed id revision attempts output trace answers) runs right).2 in omega (arith, beyond, within);
  conflict_of_the_last = λ start log id task key seen now_modified runs last right.
      let before = (is_listed start log id task (Conflict id key seen now_modified) runs right).1 in omega (arith, last, before);
  another_revision = λ start log id task run alone revision attempts output trace answers runs is applies other right.
      let commit = (is_listed start log id task (Committed id revision attempts output trace answers) runs right).3 in
      other (one_revision (situation start log id task) run alone revision output trace answers is applies commit);
  refused_poll = λ start log id most w refusal there right.
      none_refused (store start log) id most w refusal w.lost (there_reported (store start log) id most w (Err refusal) there right);
  poll_of_none = λ start log id most reply none right.
      let reported : Ok reply ≡ reported_of (store start log) id most None =
      subst (λ (o : Option Watching). Ok reply ≡ reported_of (store start log) id most o) none right in absurd (cc);
  another_watcher = λ start log id most watcher upto events other right.
      other (watcher_named (store start log) id most watcher upto events (watcher_at id (store start log).watchers) right);
  event_not_pending = λ start log id most upto w event events there none right.
      nothing_reported (store start log) id most upto w event events w.lost none
      (there_reported (store start log) id most w (Ok (Batch id upto (event ∷ events))) there right);
  batch_of_lost = λ start log id most watcher upto w events there lost right.
      let s : Standing = store start log in
      let reported : Ok (Batch watcher upto events) ≡ reported_if s id most w true =
      there_reported s id most w (Ok (Batch watcher upto events)) there right ∙ ap (reported_if s id most w) lost in absurd (cc);
  not_lost = λ start log id most watcher floor w there kept right.
      let s : Standing = store start log in
      let reported : Ok (Lost watcher floor) ≡ reported_if s id most w false =
      there_reported s id most w (Ok (Lost watcher floor)) there right ∙ ap (reported_if s id most w) kept in absurd (cc);
  fetch_below = λ start log id task key mod_rev of_rev revision runs below right.
      let fetch = (subst (λ (o : Option Task). RunnerIsRight start log id o (Ok (Fetched id key mod_rev of_rev revision))) runs right).1 in
      let both : true ≡ false = sym below ∙ fetch.readable in absurd (cc);
  refused_fetch = λ start log id task key trace cause runs listed wants above right.
      let ended = (subst (λ (o : Option Task). RunnerIsRight start log id o (Ok (Ended id cause))) runs right).1 in
      not_refused (situation start log id task) key trace ended.by_store listed wants above ended.refused;
  list_again = λ start log id task revision reads runs listed right.
      let list = (is_listed start log id task (Prefetched id revision reads) runs right).1 in
      let both : true ≡ false = sym list.due ∙ listed in absurd (cc);
  part_of_list = λ start log id task revision reads runs other right.
      let list = (is_listed start log id task (Prefetched id revision reads) runs right).1 in
      other (ap (λ (l : List KeyRead). length l) list.shows ∙ length-map task.program.prefetch (modified_now (store start log).history));
  read_before_list = λ start log id task key mod_rev of_rev revision runs due right.
      let fetch = (is_listed start log id task (Fetched id key mod_rev of_rev revision) runs right).1 in
      let both : true ≡ false = sym due ∙ fetch.has_list in absurd (cc);
  abort_before_list = λ start log id task text runs due right.
      let ends = (is_listed start log id task (Aborted id text) runs right).1 in
      let both : true ≡ false = sym due ∙ ends.has_list in absurd (cc);
  fault_before_list = λ start log id task fault runs due right.
      let ends = (is_listed start log id task (Faulted id fault) runs right).1 in
      let both : true ≡ false = sym due ∙ ends.has_list in absurd (cc);
  commit_before_list = λ start log id task revision attempts output trace answers runs due right.
      let commit = (is_listed start log id task (Committed id revision attempts output trace answers) runs right).3 in
      let both : true ≡ false = sym due ∙ commit.commits.has_list in absurd (cc);
  conflict_before_list = λ start log id task key seen now_modified runs due right.
      let conflict = (is_listed start log id task (Conflict id key seen now_modified) runs right).2 in
      let both : true ≡ false = sym due ∙ conflict.commits.has_list in absurd (cc);
  give_up_before_list = λ start log id task attempts key seen now_modified runs due right.
      let conflict = (is_listed start log id task (GaveUp id attempts key seen now_modified) runs right).3 in
      let both : true ≡ false = sym due ∙ conflict.commits.has_list in absurd (cc);
  refused_list = λ start log id task cause runs due few right.
      let ended = (is_listed start log id task (Ended id cause) runs right).1 in
      none_refused_list (situation start log id task) ended.by_store due few ended.refused;
  compacted_again = λ start log revision at low right.
      let s : Standing = store start log in
      let future = cond (nat_lt (now s.history) revision) (Some FutureRevision) None in
      let refused : Ok (Compacted at) ≡ reply_to (λ _. Compacted revision) (floor_step (Some CompactedRefusal) (with_floor s revision)) =
      right ∙ ap (λ b. reply_to (λ _. Compacted revision) (floor_step (cond b (Some CompactedRefusal) future) (with_floor s revision)))
      (le-leb revision s.floor low) in
      absurd (cc);
}
