-- What the calls of a world keep and report.
use Rattle.std.proofs.Common.{◌≡◌, ◌<◌, ◌∙◌, ◌⊎◌, inl, inr, ℕ, ◌+◌, List, [], ◌∷◌, ◌++◌, length, None, Result, Ok, Err, Bool, true, false, arith}
use Rattle.std.proofs.Common.{cond, refl, sym, ap, subst, get_or, drop, take, append_assoc}
use Rattle.std.specs.Prelude.{IsOk, IsTrue, ◌↔◌, nat_lt}
use Rattle.std.specs.declared.alloc.AllocError.{AllocError}
use Rattle.std.proofs.lemmas.List.{drop_more, take_more}
use Rattle.std.proofs.lemmas.Option.{slice_get-get_or}
use Rattle.std.proofs.lemmas.Bool.Decides.{nat_tests}
use Rattle.stm_history.specs.declared.key_state.ReadAnswer.{ReadAnswer}
use Rattle.stm_program.specs.declared.level.Level.{Level}
use Rattle.stm_program.specs.Syntax.{ProgramTree}
use Rattle.stm_steps.specs.declared.run.End.{End}
use Rattle.stm_steps.specs.declared.run.Run.{Run}
use Rattle.stm_outcome.specs.declared.advance.Expired.{Expired}
use Rattle.stm_outcome.specs.declared.refusal.Refusal.{Refusal as StoreRefusal}
use Rattle.stm_outcome.specs.declared.refusal.Refusal.TheVariants.{Compacted}
use Rattle.stm_outcome.specs.Commits.{revision_read}
use Rattle.stm_outcome.specs.Outcome.{Done}
use Rattle.stm_txn.specs.Standing.{Setup}
use Rattle.stm_events.specs.declared.reply.Reply.TheVariants.{Ended}
use Rattle.stm_compile.specs.Conflicts.{Seen}
use Rattle.stm_events.specs.declared.event.WorldEvent.{WorldEvent}
use Rattle.stm_events.specs.declared.event.WorldEvent.TheVariants.{Start, Step, Advance, Compact}
use Rattle.stm_events.specs.declared.reply.Reply.{Reply}
use Rattle.stm_events.specs.declared.refusal.EventRefusal.{EventRefusal}
use Rattle.stm_events.specs.declared.refusal.EventRefusal.TheVariants.{OutOfMemory}
use Rattle.stm_events.specs.Replies.{event_refusal}
use Rattle.stm_events.specs.declared.refusal.Denied.{Denied}
use Rattle.stm_world.specs.Task.{Task}
use Rattle.stm_world.specs.World.{World, Runner, Stepped, Over, runner_at, replied, start_runner, fetch, fail_commit, commit_reported}
use Rattle.stm_world.specs.World.{commit, finish, fetch_list, step_live, step_runner, step, world_after, replies_to}
use Rattle.stm_world.specs.Sound.{IsSound}
use Rattle.stm_world.specs.Headline.{Holds}
use Rattle.stm_compile.proofs.AgreeLemmas.{commit_is_the_run_now}
use Rattle.stm_compile.proofs.ConflictLemmas.{failed_compares_conflict}
use Rattle.stm_world.proofs.RunnerSteps.{CommitLaws}
use Rattle.stm_world.proofs.GoingOn.{headline_goes_on}
use Rattle.stm_world.proofs.Sound.{step_is_sound, expiries_are_sound}
use Rattle.stm_retry.specs.StepReturns.{Returns as StepReturns, as_reply}
use Rattle.stm_retry.specs.Returns.{IsStep, IsUnchanged, IsCutShort, OutOfMemoryReturns, IsRunStop, RefusalReturns, Returns}
use Rattle.stm_retry.specs.Returns.{is_out_of_memory, ran_out, expired_of}

-- ---- steps of runners are taken ----

-- a refusal is not that memory ran out
abbrev pub IsPlain : EventRefusal → Type 0
IsPlain OutOfMemory = ⊥
IsPlain other = Unit {0}

abbrev pub PlainOnly : Result Reply Denied → Type 0
PlainOnly (Ok reply) = Unit {0}
PlainOnly (Err d) = IsPlain d.cause

fail_plain : (id : ℕ) (r : Runner) (seen : Seen) (modified : ℕ) (w : World) → PlainOnly (fail_commit id r seen modified w).reply
fail_plain id r seen modified w = grind (arith, nat_tests)

reported_plain : (id : ℕ) (r : Runner) (reads : List ReadAnswer) (run : Run) (o : Result Done StoreRefusal) (w : World) →
    PlainOnly (commit_reported id r reads run o w).reply
reported_plain id r reads run o w = grind (arith, nat_tests, fail_plain)

finish_plain : (id : ℕ) (r : Runner) (reads : List ReadAnswer) (run : Run) (end : End) (w : World) → PlainOnly (finish id r reads run end w).reply
unfolding commit
finish_plain id r reads run end w = grind (arith, nat_tests, reported_plain)

base_plain : (id : ℕ) (r : Runner) (key : List ℕ) (base : ℕ) (w : World) (below : Bool) →
    PlainOnly (cond below (replied (Ended id (event_refusal Compacted)) id Over w) (fetch id r key (revision_read w.standing.history base) w)).reply
unfolding fetch
base_plain id r key base w below = grind (arith, nat_tests)

either_plain : (b : Bool) (one other : Stepped) → PlainOnly one.reply → PlainOnly other.reply → PlainOnly (cond b one other).reply
either_plain b one other first second = grind (arith, nat_tests)

list_plain : (id : ℕ) (r : Runner) (w : World) → PlainOnly (fetch_list id r w).reply
list_plain id r w = either_plain (nat_lt w.standing.limit (length r.task.program.prefetch)) _ _ tt tt

live_plain : (id : ℕ) (r : Runner) (w : World) → PlainOnly (step_live id r w).reply
unfolding step_live
live_plain id r w = grind (arith, nat_tests, either_plain, list_plain, base_plain, finish_plain)

start_plain : (task : Task) (w : World) → PlainOnly (start_runner task w).reply
unfolding start_runner
start_plain task w = grind (arith, nat_tests)

-- ---- what is reported of them ----

-- an event of a runner: what the call of the machine makes is what is reported
runner_reports : (event : WorldEvent) (outcome : Result (Result Reply Denied) AllocError) (old new : World) → PlainOnly (step event old).reply →
    (new ≡ old → IsOk (step event old).reply → OutOfMemoryReturns event [] old new) → StepReturns outcome old new (step event old) →
    Returns event (as_reply outcome) old new
runner_reports event outcome old new plain want made = grind (arith, nat_tests)

pub start_reports : (program : ProgramTree) (level : Level) (limit : ℕ) (outcome : Result (Result Reply Denied) AllocError) (old new : World) →
    StepReturns outcome old new (start_runner (record { program = program; level = level; limit = limit }) old) →
    Returns (Start program level limit) (as_reply outcome) old new
start_reports program level limit outcome old new made = grind (arith, nat_tests, runner_reports, start_plain)

pub step_reports : (id : ℕ) (outcome : Result (Result Reply Denied) AllocError) (old new : World) →
    StepReturns outcome old new (step_runner id (runner_at id old.runners) old) → Returns (Step id) (as_reply outcome) old new
step_reports id outcome old new made = grind (arith, nat_tests, runner_reports, live_plain)

-- ---- a world stays sound ----

unchanged_sound : (expired : List Expired) (old new : World) → IsSound old → IsUnchanged expired old new → IsSound new
unchanged_sound expired old new sound same = subst IsSound (sym same.1) sound

cut_sound : (moment : ℕ) (expired : List Expired) (old new : World) → IsSound old → IsCutShort moment expired old new → IsSound new
cut_sound moment expired old new sound cut =
    subst IsSound (sym cut.rest) (expiries_are_sound old moment (length expired) expired new.standing None sound cut.come)

advance_sound : (moment : ℕ) (expired : List Expired) (old new : World) → IsSound old → (IsUnchanged expired old new ⊎ IsCutShort moment expired old new) →
    IsSound new
advance_sound moment expired old new sound (inl same) = unchanged_sound expired old new sound same
advance_sound moment expired old new sound (inr cut) = cut_sound moment expired old new sound cut

want_sound : (event : WorldEvent) (expired : List Expired) (old new : World) → IsSound old → OutOfMemoryReturns event expired old new → IsSound new
want_sound (Advance moment) expired old new sound want = advance_sound moment expired old new sound want.1
want_sound (Compact revision) expired old new sound want = absurd want
want_sound _ expired old new sound want = unchanged_sound expired old new sound want.0

is_step_sound : (event : WorldEvent) (reply : Result Reply Denied) (old new : World) → IsSound old → IsStep (step event old) reply new → IsSound new
is_step_sound event reply old new sound is = subst IsSound is.next_is (step_is_sound event old sound)

-- what is reported of a refusal, by whether memory ran out
pub refusal_cases : (cause : EventRefusal) (event : WorldEvent) (d : Denied) (old new : World) → RefusalReturns cause event d old new →
    ((is_out_of_memory cause ≡ true) × OutOfMemoryReturns event d.expired old new) ⊎ ((is_out_of_memory cause ≡ false) × IsStep (step event old) (Err d) new)
refusal_cases other event d old new reported = grind (arith, nat_tests)

refused_sound : (event : WorldEvent) (d : Denied) (old new : World) → IsSound old →
    (((is_out_of_memory d.cause ≡ true) × OutOfMemoryReturns event d.expired old new) ⊎ ((is_out_of_memory d.cause ≡ false) × IsStep (step event old) (Err d) new)) → IsSound new
refused_sound event d old new sound (inl want) = want_sound event d.expired old new sound want.1
refused_sound event d old new sound (inr is) = is_step_sound event (Err d) old new sound is.1

-- whatever is reported of an event, the world stays sound
pub reports_sound : (event : WorldEvent) (reply : Result Reply Denied) (old new : World) → IsSound old → Returns event reply old new → IsSound new
reports_sound event (Ok reply) old new sound reported = is_step_sound event (Ok reply) old new sound reported
reports_sound event (Err d) old new sound reported = refused_sound event d old new sound (refusal_cases d.cause event d old new reported)

-- ---- a run of events ----

-- whether memory ran out, as the test of a cause says
pub is_named : (b : Bool) (cause : EventRefusal) → (IsTrue b ↔ cause ≡ OutOfMemory) → b ≡ is_out_of_memory cause
is_named b other is = grind (arith, nat_tests)

-- an event that memory sufficed for is taken
pub taken : (event : WorldEvent) (reply : Result Reply Denied) (old new : World) → ran_out reply ≡ false → Returns event reply old new →
    IsStep (step event old) reply new
taken event reply old new not reported = grind (arith, nat_tests, refusal_cases)

after_append : (es : List WorldEvent) (e : WorldEvent) (w : World) → world_after (es ++ e ∷ []) w ≡ (step e (world_after es w)).next
after_append [] e w = refl
after_append (x ∷ es) e w = after_append es e (step x w).next

-- one more event of a run: the replies to all, the world after all, and the world after the events so far
pub replies_step : (events : List WorldEvent) (i : ℕ) (e : WorldEvent) (w next : World) (reply : Result Reply Denied) (so_far : List (Result Reply Denied)) →
    i < length events → e ≡ get_or events i e → IsStep (step e w) reply next →
    (so_far ++ reply ∷ []) ++ replies_to (drop (i + 1) events) next ≡ so_far ++ replies_to (drop i events) w
replies_step events i e w next reply so_far within is s =
    append_assoc so_far (reply ∷ []) (replies_to (drop (i + 1) events) next)
    ∙ ap (λ (w' : World). so_far ++ reply ∷ replies_to (drop (i + 1) events) w') (sym s.next_is)
    ∙ ap (λ (r : Result Reply Denied). so_far ++ r ∷ replies_to (drop (i + 1) events) (step e w).next) (sym s.reply_is)
    ∙ sym (ap (λ (l : List WorldEvent). so_far ++ replies_to l w) (drop_more events i e within ∙ ap (λ (x : WorldEvent). x ∷ drop (i + 1) events) (sym is)))

pub rest_step : (events : List WorldEvent) (i : ℕ) (e : WorldEvent) (w next : World) (reply : Result Reply Denied) →
    i < length events → e ≡ get_or events i e → IsStep (step e w) reply next →
    world_after (drop (i + 1) events) next ≡ world_after (drop i events) w
rest_step events i e w next reply within is s = grind (arith, nat_tests, drop_more)

pub reached_step : (events : List WorldEvent) (i : ℕ) (e : WorldEvent) (w next start : World) (reply : Result Reply Denied) →
    i < length events → e ≡ get_or events i e → IsStep (step e w) reply next → w ≡ world_after (take i events) start →
    next ≡ world_after (take (i + 1) events) start
reached_step events i e w next start reply within is s reached =
    sym s.next_is ∙ ap (λ (x : World). (step e x).next) reached
    ∙ sym (after_append (take i events) e start)
    ∙ sym (ap (λ (l : List WorldEvent). world_after l start) (take_more events i e within ∙ ap (λ (x : WorldEvent). take i events ++ x ∷ []) (sym is)))

-- a run that stops at an event
want_of : (event : WorldEvent) (reply : Result Reply Denied) (old new : World) → ran_out reply ≡ true → Returns event reply old new →
    OutOfMemoryReturns event (expired_of reply) old new
want_of event reply old new want reported = grind (arith, nat_tests, refusal_cases)

pub stops_at : (events : List WorldEvent) (i : ℕ) (e : WorldEvent) (w new start : World) (reply : Result Reply Denied) →
    i < length events → e ≡ get_or events i e → w ≡ world_after (take i events) start → ran_out reply ≡ true → Returns e reply w new →
    IsRunStop events i (expired_of reply) start new
stops_at events i e w new start reply within is reached want reported = grind (arith, nat_tests, slice_get-get_or, want_of)

-- a run from a world of which the headline holds
pub run_holds : (start : Setup) (before events : List WorldEvent) (earlier : List (Result Reply Denied)) (old new : World) (replies : List (Result Reply Denied)) →
    replies ≡ replies_to events old → new ≡ world_after events old → Holds start before earlier old →
    Holds start (before ++ events) (earlier ++ replies) new
run_holds start before events earlier old new replies replied reached holds =
    grind (arith, nat_tests, CommitLaws, commit_is_the_run_now, failed_compares_conflict, headline_goes_on)

-- one event, where memory was had
pub step_holds : (start : Setup) (before : List WorldEvent) (earlier : List (Result Reply Denied)) (event : WorldEvent) (reply : Result Reply Denied)
    (old new : World) → ran_out reply ≡ false → Returns event reply old new → Holds start before earlier old →
    Holds start (before ++ event ∷ []) (earlier ++ reply ∷ []) new
step_holds start before earlier event reply old new had reported holds =
    let s : IsStep (step event old) reply new = taken event reply old new had reported in
    run_holds start before (event ∷ []) earlier old new (reply ∷ []) (ap (λ (r : Result Reply Denied). r ∷ []) (sym s.reply_is)) (sym s.next_is) holds
