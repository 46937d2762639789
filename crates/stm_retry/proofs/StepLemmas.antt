-- The parts of a runner's step, as the code has them at hand.
use Rattle.std.proofs.Common.{◌≡◌, ◌≢◌, ℕ, ◌+◌, ◌<◌, List, [], ◌∷◌, ◌++◌, length, map, Option, Some, None, Result, Ok, Err, Bool, true, false, cond, refl, sym}
use Rattle.std.proofs.Common.{◌∙◌, ap, ◌⊎◌, inl, inr, arith}
use Rattle.std.specs.Prelude.{slice_get, IsOk, is_ok, IfOk, IfSome, OnOk, OnErr}
use Rattle.std.specs.declared.alloc.AllocError.{AllocError}
use Rattle.std.proofs.lemmas.List.Elements.{All-nil, All-cons, All-head, All-tail}
use Rattle.std.proofs.lemmas.Bool.Decides.{nat_tests}
use Rattle.stm_history.specs.declared.key_state.ReadAnswer.{ReadAnswer}
use Rattle.stm_history.specs.History.{History, now, mod_of}
use Rattle.stm_program.specs.Syntax.{ProgramTree}
use Rattle.stm_program.specs.declared.level.Level.{Level}
use Rattle.stm_history.specs.declared.change.Change.{Change}
use Rattle.stm_program.specs.Writes.{latest_writes}
use Rattle.stm_steps.specs.declared.value.Value.{Value}
use Rattle.stm_steps.specs.declared.trace_item.TraceItem.{TraceItem}
use Rattle.stm_steps.specs.declared.run.End.{End}
use Rattle.stm_steps.specs.declared.run.End.TheVariants.{Done as DoneEnd}
use Rattle.stm_steps.specs.declared.run.Run.{Run}
use Rattle.stm_steps.specs.declared.run.Answered.{Answered}
use Rattle.stm_steps.specs.declared.run.Answered.TheVariants.{Ended as EndedRun, Wants}
use Rattle.stm_meaning.proofs.RunLaws.{wanted_keys_are_unknown}
use Rattle.stm_outcome.specs.declared.answer.FailedCompare.{FailedCompare}
use Rattle.stm_outcome.specs.declared.refusal.Refusal.{Refusal as StoreRefusal}
use Rattle.stm_outcome.specs.declared.refusal.Refusal.TheVariants.{OutOfMemory}
use Rattle.stm_outcome.specs.Outcome.{Done}
use Rattle.stm_txn.specs.Standing.{Standing, terms_of}
use Rattle.stm_compile.specs.Answers.{look_up, answer_now}
use Rattle.stm_compile.specs.CommitTxn.{reread_keys}
use Rattle.stm_compile.specs.Committed.{committed}
use Rattle.stm_compile.specs.Conflicts.{Seen, seen_by, seen_in}
use Rattle.stm_attempt.specs.declared.next.Next.{Next}
use Rattle.stm_attempt.specs.declared.next.Next.TheVariants.{FetchAll, Fetch, Ready, Aborted as AbortedNext, Faulted as FaultedNext}
use Rattle.stm_attempt.specs.Settled.{run_on}
use Rattle.stm_attempt.specs.Entering.{is_due}
use Rattle.stm_attempt.specs.Fetches.{AllShow, ShowOneRevision, at_of}
use Rattle.stm_attempt.specs.ReadyRun.{ReadyRun, IsRunOnItsAnswers}
use Rattle.stm_attempt.specs.Next.{next_after, list_asked}
use Rattle.stm_entries.specs.Entered.{answers_kept}
use Rattle.stm_journal.specs.Fetched.{fetch_reported, fetch_all_reported, IsRefusalOfAll}
use Rattle.stm_journal.specs.JournalState.{JournalState}
use Rattle.stm_journal.specs.Verdicts.{after_commit, sent}
use Rattle.stm_journal.proofs.Cases.{IsOfRun, HasCommitted, HasFailed, is_refused}
use Rattle.stm_events.specs.declared.reply.Reply.{Reply}
use Rattle.stm_events.specs.declared.reply.KeyRead.{KeyRead}
use Rattle.stm_events.specs.declared.reply.Reply.TheVariants.{Started, Prefetched, Fetched, Committed, Conflict, GaveUp, Ended}
use Rattle.stm_events.specs.declared.refusal.EventRefusal.TheVariants.{BadLimit}
use Rattle.stm_events.specs.declared.reply.CommittedRead.{CommittedRead}
use Rattle.stm_events.specs.Replies.{committed_read, event_refusal}
use Rattle.stm_world.specs.Task.{Task, modified_now, after_fetch}
use Rattle.stm_world.specs.World.{World, Stepped, Runner, Slot, Over, Live, begin, runner_at, with_slot, start_runner, step_runner, step_live}
use Rattle.stm_world.specs.World.{step_on, fetch, fetch_at, fetch_list, finish, commit, commit_reported, decided, take_commit, fail_commit, replied, refused}
use Rattle.stm_retry.specs.declared.step_outcome.StepOutcome.{StepOutcome}
use Rattle.stm_retry.specs.declared.step_outcome.StepOutcome.TheVariants.{GoesOn, Ends}
use Rattle.stm_retry.specs.StepReturns.{Returns}
use Rattle.stm_retry.specs.WorldOf.{world_of}
use Rattle.stm_retry.specs.RunnerView.{AreNamed, next_for, with_answer, with_answers, begun_again}
use Rattle.stm_retry.specs.RunnerReturns.{Workplace, workplace, world_around, reply_in, slot_after, Leaves, ReturnsEnd, IsReady, may_go_on}
use Rattle.stm_retry.specs.RunnerReturns.{reported_of_fetch, after_reported_fetch, key_read, reported_of_list, after_reported_list, reported_of_failure, reply_reported, slot_left}
use Rattle.stm_world.proofs.Slots.{other_number, count_grows}
use Rattle.stm_retry.proofs.SlotLemmas.{put_back, put_there}

-- ---- whether the list is due ----

-- the list is not due, and this is what comes next after it
pub record IsAfterList (r : Runner) (next : Next) : Type 0 where
  pub has_list : is_due r.task.program.prefetch r.known.reads ≡ false
  pub is_next : next_after r.task.program r.task.level r.known.reads (run_on r.task.program r.known.reads) ≡ next

-- where what is next is no list, the list is not due
is_after_list : (r : Runner) (next : Next) → list_asked next ≡ None → next_for r ≡ next → IsAfterList r next
is_after_list r next no_list reported = grind (arith, nat_tests)

step_after : (id : ℕ) (r : Runner) (w : World) → is_due r.task.program.prefetch r.known.reads ≡ false →
    step_live id r w ≡ step_on id r r.known.reads (run_on r.task.program r.known.reads) w
unfolding step_live
step_after id r w not = grind (arith, nat_tests)

step_due : (id : ℕ) (r : Runner) (w : World) → is_due r.task.program.prefetch r.known.reads ≡ true → step_live id r w ≡ fetch_list id r w
unfolding step_live
step_due id r w due = grind (arith, nat_tests)

-- ---- a list ----

-- the runner's list is due, and these are its keys
pub record IsListing (r : Runner) (keys : List (List ℕ)) : Type 0 where
  pub due : is_due r.task.program.prefetch r.known.reads ≡ true
  pub keys_are : r.task.program.prefetch ≡ keys

no_list_after : (program : ProgramTree) (level : Level) (reads : List ReadAnswer) (x : Answered) (keys : List (List ℕ)) (at : ℕ) →
    next_after program level reads x ≡ FetchAll keys at → ⊥
no_list_after program level reads x keys at reported = grind (arith, nat_tests)

pub is_listing : (r : Runner) (keys : List (List ℕ)) (at : ℕ) → next_for r ≡ FetchAll keys at → IsListing r keys
is_listing r keys at reported = grind (arith, nat_tests, no_list_after)

-- a fetch of the list in the step of a runner, by what it comes to
abbrev pub listed_step : ℕ → Runner → ℕ → Result (List ReadAnswer) StoreRefusal → World → Stepped
listed_step id r revision (Ok answers) w = replied (Prefetched id revision (map key_read answers)) id (Live (with_answers answers r)) w
listed_step id r revision (Err cause) w = replied (Ended id (event_refusal cause)) id Over w

reported_now : (h : History) (keys : List (List ℕ)) → map key_read (map (answer_now h) keys) ≡ map (modified_now h) keys
reported_now h [] = refl
reported_now h (key ∷ keys) = ap (λ (l : List KeyRead). modified_now h key ∷ l) (reported_now h keys)

pub step_lists : (id : ℕ) (r : Runner) (w : World) →
    fetch_list id r w ≡ listed_step id r (now w.standing.history) (fetch_all_reported w.standing r.task.program.prefetch) w
step_lists id r w = grind (arith, nat_tests, reported_now)

listed_leaves : (id : ℕ) (r q : Runner) (j after : JournalState) (slots : List Slot) (revision : ℕ)
    (o : Result (List ReadAnswer) StoreRefusal) (reported : StepOutcome) → reported ≡ reported_of_list id revision o → q ≡ after_reported_list o r → after ≡ j →
    listed_step id r revision o (world_around (workplace j r) slots)
    ≡ record { reply = Ok (reply_in reported); next = world_around (workplace after q) (with_slot id (slot_after reported q) slots) }
listed_leaves id r q j after slots revision o reported reported_is runner_is journal_is = grind (arith, nat_tests)

pub list_leaves : (id : ℕ) (r q : Runner) (j after : JournalState) (keys : List (List ℕ)) (reported : StepOutcome) → IsListing r keys →
    reported ≡ reported_of_list id (now j.standing.history) (fetch_all_reported j.standing keys) →
    q ≡ after_reported_list (fetch_all_reported j.standing keys) r → after ≡ j →
    Leaves id (Ok reported) (workplace j r) (workplace after q) (step_live id r)
list_leaves id r q j after keys reported x reported_is runner_is journal_is slots =
    let s : Standing = j.standing in
    let w : World = world_around (workplace j r) slots in
    step_due id r w x.due
    ∙ step_lists id r w
    ∙ ap (λ (l : List (List ℕ)). listed_step id r (now s.history) (fetch_all_reported s l) w) x.keys_are
    ∙ listed_leaves id r q j after slots (now s.history) (fetch_all_reported s keys) reported reported_is runner_is journal_is

-- what the fetch of a list has answered: each key as it is now
pub record AreAnswers (s : Standing) (keys : List (List ℕ)) (answers : List ReadAnswer) : Type 0 where
  pub are_now : map (answer_now s.history) keys ≡ answers

are_answers : (s : Standing) (keys : List (List ℕ)) (answers : List ReadAnswer) → fetch_all_reported s keys ≡ Ok answers → AreAnswers s keys answers
are_answers s keys answers is = grind (arith, nat_tests)

keys_now : (h : History) (keys : List (List ℕ)) → map (λ (a : ReadAnswer). a.key) (map (answer_now h) keys) ≡ keys
keys_now h [] = refl
keys_now h (key ∷ keys) = ap (λ (l : List (List ℕ)). key ∷ l) (keys_now h keys)

-- they are of the list's keys, in its order
pub listed_keys : (s : Standing) (keys : List (List ℕ)) (answers : List ReadAnswer) → fetch_all_reported s keys ≡ Ok answers →
    keys ≡ map (λ (a : ReadAnswer). a.key) answers
listed_keys s keys answers is = grind (arith, nat_tests, keys_now, are_answers)

-- and all of one revision
show_now : (h : History) (keys : List (List ℕ)) → AllShow (now h) (map (answer_now h) keys)
show_now h [] = tt
show_now h (key ∷ keys) = (refl, show_now h keys)

pub listed_show_one : (s : Standing) (keys : List (List ℕ)) (answers : List ReadAnswer) → fetch_all_reported s keys ≡ Ok answers → ShowOneRevision answers
listed_show_one s keys answers is = grind (arith, nat_tests, are_answers, show_now)

-- what a fetch of a list that the store answered reports and leaves, also where an allocation failed
pub list_answers : (s : Standing) (id revision : ℕ) (keys : List (List ℕ)) (answers : List ReadAnswer) (outcome : Result StepOutcome AllocError) →
    revision ≡ now s.history → fetch_all_reported s keys ≡ Ok answers →
    IfOk outcome (λ reported. reported ≡ GoesOn (Prefetched id revision (map key_read answers))) →
    IfOk outcome (λ reported. reported ≡ reported_of_list id (now s.history) (fetch_all_reported s keys))
list_answers s id revision keys answers outcome counts is reported_is = grind (arith, nat_tests)

pub list_answers_leaves : (s : Standing) (keys : List (List ℕ)) (answers : List ReadAnswer) (r q : Runner) (outcome : Result StepOutcome AllocError) →
    fetch_all_reported s keys ≡ Ok answers → OnOk outcome (q ≡ with_answers answers r) → OnOk outcome (q ≡ after_reported_list (fetch_all_reported s keys) r)
list_answers_leaves s keys answers r q outcome is left = grind (arith, nat_tests)

-- the same of one that the store refused
list_cause : (s : Standing) (keys : List (List ℕ)) (cause : StoreRefusal) → cause ≢ OutOfMemory → IsRefusalOfAll s keys cause →
    fetch_all_reported s keys ≡ Err cause
list_cause s keys cause not h5 = grind (arith, nat_tests)

pub list_refused : (s : Standing) (id : ℕ) (keys : List (List ℕ)) (cause : StoreRefusal) (outcome : Result StepOutcome AllocError) →
    IsRefusalOfAll s keys cause → IfOk outcome (λ reported. reported ≡ Ends (Ended id (event_refusal cause))) → OnOk outcome (cause ≢ OutOfMemory) →
    IfOk outcome (λ reported. reported ≡ reported_of_list id (now s.history) (fetch_all_reported s keys))
list_refused s id keys cause outcome refused reported_is not = grind (arith, nat_tests, list_cause)

pub list_refused_leaves : (s : Standing) (keys : List (List ℕ)) (cause : StoreRefusal) (r : Runner) (outcome : Result StepOutcome AllocError) →
    IsRefusalOfAll s keys cause → OnOk outcome (cause ≢ OutOfMemory) → OnOk outcome (r ≡ after_reported_list (fetch_all_reported s keys) r)
list_refused_leaves s keys cause r outcome refused not = grind (arith, nat_tests, list_cause)

-- ---- a fetch ----

-- the runner's program wants this key, at this revision
pub record IsWanting (r : Runner) (key : List ℕ) (at : ℕ) : Type 0 where
  pub has_list : is_due r.task.program.prefetch r.known.reads ≡ false
  pub trace : List TraceItem
  pub wants : run_on r.task.program r.known.reads ≡ Wants key trace
  pub at_is : at_of r.task.level r.known.reads ≡ at

wanting_by : (r : Runner) (x : Answered) (key : List ℕ) (at : ℕ) → is_due r.task.program.prefetch r.known.reads ≡ false → run_on r.task.program r.known.reads ≡ x →
    next_after r.task.program r.task.level r.known.reads x ≡ Fetch key at → IsWanting r key at
wanting_by r x key at listed is reported = grind (arith, nat_tests)

pub is_wanting : (r : Runner) (key : List ℕ) (at : ℕ) → next_for r ≡ Fetch key at → IsWanting r key at
is_wanting r key at reported = grind (arith, nat_tests, is_after_list, wanting_by)

-- a key that is wanted is not empty
pub wanted_is_named : (r : Runner) (key : List ℕ) (at : ℕ) → IsWanting r key at → 0 < length key
wanted_is_named r key at x = (wanted_keys_are_unknown (look_up r.known.reads) r.task.program.statements key x.trace x.wants).1

-- a fetch in the step of a runner, by what it comes to
abbrev pub fetched_step : ℕ → Runner → List ℕ → Result ReadAnswer StoreRefusal → World → Stepped
fetched_step id r key (Ok a) w = replied (Fetched id key (mod_of a.kv) a.of_rev a.revision) id (Live (record r { known = after_fetch r.task a r.known })) w
fetched_step id r key (Err cause) w = replied (Ended id (event_refusal cause)) id Over w

pub step_fetches : (id : ℕ) (r : Runner) (key : List ℕ) (base : ℕ) (w : World) →
    fetch_at id r key base w ≡ fetched_step id r key (fetch_reported w.standing key base) w
unfolding fetch
step_fetches id r key base w = grind (arith, nat_tests)

fetched_leaves : (id : ℕ) (r q : Runner) (j after : JournalState) (slots : List Slot) (key : List ℕ) (o : Result ReadAnswer StoreRefusal)
    (reported : StepOutcome) → reported ≡ reported_of_fetch id key o → q ≡ after_reported_fetch o r → after ≡ j →
    fetched_step id r key o (world_around (workplace j r) slots)
    ≡ record { reply = Ok (reply_in reported); next = world_around (workplace after q) (with_slot id (slot_after reported q) slots) }
fetched_leaves id r q j after slots key o reported reported_is runner_is journal_is = grind (arith, nat_tests)

pub fetch_leaves : (id : ℕ) (r q : Runner) (j after : JournalState) (key : List ℕ) (at : ℕ) (reported : StepOutcome) → IsWanting r key at →
    reported ≡ reported_of_fetch id key (fetch_reported j.standing key at) → q ≡ after_reported_fetch (fetch_reported j.standing key at) r → after ≡ j →
    Leaves id (Ok reported) (workplace j r) (workplace after q) (step_live id r)
fetch_leaves id r q j after key at reported x reported_is runner_is journal_is slots =
    let w : World = world_around (workplace j r) slots in
    step_after id r w x.has_list
    ∙ ap (λ (a : Answered). step_on id r r.known.reads a w) x.wants
    ∙ ap (λ (n : ℕ). fetch_at id r key n w) x.at_is
    ∙ step_fetches id r key at w
    ∙ fetched_leaves id r q j after slots key (fetch_reported j.standing key at) reported reported_is runner_is journal_is

-- it is of the key that was fetched
pub fetched_key : (s : Standing) (key : List ℕ) (at : ℕ) (a : ReadAnswer) → fetch_reported s key at ≡ Ok a → key ≡ a.key
fetched_key s key at a is = grind (arith, nat_tests)

pub fetch_answers : (s : Standing) (id : ℕ) (key : List ℕ) (at : ℕ) (a : ReadAnswer) (outcome : Result StepOutcome AllocError) → fetch_reported s key at ≡ Ok a →
    IfOk outcome (λ reported. reported ≡ GoesOn (Fetched id key (mod_of a.kv) a.of_rev a.revision)) →
    IfOk outcome (λ reported. reported ≡ reported_of_fetch id key (fetch_reported s key at))
fetch_answers s id key at a outcome is reported_is = grind (arith, nat_tests)

pub fetch_answers_leaves : (s : Standing) (key : List ℕ) (at : ℕ) (a : ReadAnswer) (r q : Runner) (outcome : Result StepOutcome AllocError) →
    fetch_reported s key at ≡ Ok a → OnOk outcome (q ≡ with_answer a r) → OnOk outcome (q ≡ after_reported_fetch (fetch_reported s key at) r)
fetch_answers_leaves s key at a r q outcome is left = grind (arith, nat_tests)

-- the same of one that the store refused
refused_cause : (s : Standing) (key : List ℕ) (at : ℕ) (cause : StoreRefusal) → cause ≢ OutOfMemory →
    (cause ≡ OutOfMemory) ⊎ (fetch_reported s key at ≡ Err cause) → fetch_reported s key at ≡ Err cause
refused_cause s key at cause not h6 = grind (arith, nat_tests)

pub fetch_refused : (s : Standing) (id : ℕ) (key : List ℕ) (at : ℕ) (cause : StoreRefusal) (outcome : Result StepOutcome AllocError) →
    (cause ≡ OutOfMemory) ⊎ (fetch_reported s key at ≡ Err cause) → IfOk outcome (λ reported. reported ≡ Ends (Ended id (event_refusal cause))) → OnOk outcome (cause ≢ OutOfMemory) →
    IfOk outcome (λ reported. reported ≡ reported_of_fetch id key (fetch_reported s key at))
fetch_refused s id key at cause outcome refused reported_is not = grind (arith, nat_tests, refused_cause)

pub fetch_refused_leaves : (s : Standing) (key : List ℕ) (at : ℕ) (cause : StoreRefusal) (r : Runner) (outcome : Result StepOutcome AllocError) →
    (cause ≡ OutOfMemory) ⊎ (fetch_reported s key at ≡ Err cause) → OnOk outcome (cause ≢ OutOfMemory) →
    OnOk outcome (r ≡ after_reported_fetch (fetch_reported s key at) r)
fetch_refused_leaves s key at cause r outcome refused not = grind (arith, nat_tests, refused_cause)

-- ---- a run that came to its end ----

ready_by : (r : Runner) (x : Answered) (ready : ReadyRun) → is_due r.task.program.prefetch r.known.reads ≡ false → run_on r.task.program r.known.reads ≡ x →
    next_after r.task.program r.task.level r.known.reads x ≡ Ready ready → (q : Run) × IsReady r q ready
ready_by r x ready listed is reported = grind (arith, nat_tests)

pub is_ready : (r : Runner) (ready : ReadyRun) → next_for r ≡ Ready ready → (q : Run) × IsReady r q ready
is_ready r ready reported = grind (arith, nat_tests, is_after_list, ready_by)

finished : (id : ℕ) (r : Runner) (run : Run) (w : World) → is_due r.task.program.prefetch r.known.reads ≡ false →
    run_on r.task.program r.known.reads ≡ EndedRun run → step_live id r w ≡ finish id r r.known.reads run run.end w
finished id r run w listed is = step_after id r w listed ∙ ap (λ (a : Answered). step_on id r r.known.reads a w) is

step_commits : (id : ℕ) (r : Runner) (run : Run) (ready : ReadyRun) (w : World) → IsReady r run ready →
    step_live id r w ≡ commit id r r.known.reads run w
step_commits id r run ready w x = finished id r run w x.has_list x.is_run ∙ ap (λ (e : End). finish id r r.known.reads run e w) x.is_done

-- what its commit leaves is what its step leaves
pub commit_leaves : (id : ℕ) (r : Runner) (run : Run) (ready : ReadyRun) (outcome : Result StepOutcome AllocError) (before after : Workplace) → IsReady r run ready →
    Leaves id outcome before after (commit id r r.known.reads run) → Leaves id outcome before after (step_live id r)
commit_leaves id r run ready outcome before after x leaves = grind (arith, nat_tests, step_commits)

-- A runner that went on is still the one that it was: what its commit leaves is what its step leaves.
pub ready_leaves : (id : ℕ) (r q : Runner) (ready : ReadyRun) (outcome : Result StepOutcome AllocError) (j : JournalState) (after : Workplace) →
    q ≡ r → next_for r ≡ Ready ready →
    ((run : Run) → IsReady q run ready → Leaves id outcome (workplace j q) after (commit id q q.known.reads run)) →
    Leaves id outcome (workplace j r) after (step_live id r)
ready_leaves id r q ready outcome j after same reported leaves = grind (arith, nat_tests, is_ready, commit_leaves)

-- the same of a commit that may have been reported
pub ready_leaves_quietly : (id : ℕ) (r q last : Runner) (ready : ReadyRun) (o : Option StepOutcome) (j : JournalState) → q ≡ r → next_for r ≡ Ready ready →
    IfSome o (λ outcome. (run : Run) → IsReady q run ready → Leaves id (Ok outcome) (workplace j q) (workplace j last) (commit id q q.known.reads run)) →
    IfSome o (λ outcome. Leaves id (Ok outcome) (workplace j r) (workplace j last) (step_live id r))
ready_leaves_quietly id r q last ready None j same reported leaves = tt
ready_leaves_quietly id r q last ready (Some outcome) j same reported leaves =
    ready_leaves id r q ready (Ok outcome) j (workplace j last) same reported leaves

-- the run that is ready is the run on its answers
pub ready_runs : (r : Runner) (run : Run) (ready : ReadyRun) → IsReady r run ready → run_on ready.program ready.answers ≡ EndedRun run
ready_runs r run ready x = ap (λ (p : ReadyRun). run_on p.program p.answers) x.is ∙ x.is_run

-- the program aborted or faulted
pub record IsOver (r : Runner) (run : Run) : Type 0 where
  pub has_list : is_due r.task.program.prefetch r.known.reads ≡ false
  pub is_run : run_on r.task.program r.known.reads ≡ EndedRun run
  pub not_done : run.end ≢ DoneEnd

aborted_by : (r : Runner) (x : Answered) (aborted : Run) → is_due r.task.program.prefetch r.known.reads ≡ false →
    run_on r.task.program r.known.reads ≡ x →
    next_after r.task.program r.task.level r.known.reads x ≡ AbortedNext aborted → IsOver r aborted
aborted_by r x aborted listed is reported = grind (arith, nat_tests)

pub has_aborted : (r : Runner) (run : Run) → next_for r ≡ AbortedNext run → IsOver r run
has_aborted r run reported = grind (arith, nat_tests, is_after_list, aborted_by)

faulted_by : (r : Runner) (x : Answered) (faulted : Run) → is_due r.task.program.prefetch r.known.reads ≡ false →
    run_on r.task.program r.known.reads ≡ x →
    next_after r.task.program r.task.level r.known.reads x ≡ FaultedNext faulted → IsOver r faulted
faulted_by r x faulted listed is reported = grind (arith, nat_tests)

pub has_faulted : (r : Runner) (run : Run) → next_for r ≡ FaultedNext run → IsOver r run
has_faulted r run reported = grind (arith, nat_tests, is_after_list, faulted_by)

end_is : (id : ℕ) (r : Runner) (run : Run) (end : End) (reply : Reply) (w : World) → ReturnsEnd id end reply →
    finish id r r.known.reads run end w ≡ replied reply id Over w
end_is id r run end reply w reports = grind (arith, nat_tests)

pub end_leaves : (id : ℕ) (r q : Runner) (j : JournalState) (run : Run) (reply : Reply) → IsOver r run → ReturnsEnd id run.end reply →
    Leaves id (Ok (Ends reply)) (workplace j r) (workplace j q) (step_live id r)
end_leaves id r q j run reply x reports slots =
    finished id r run (world_around (workplace j r) slots) x.has_list x.is_run ∙ end_is id r run run.end reply (world_around (workplace j r) slots) reports

-- ---- a commit ----

-- what the commit of a run comes to, by the run that is ready
abbrev pub outcome_of : Standing → ReadyRun → Run → Result Done StoreRefusal
outcome_of s ready run = committed (terms_of s) ready.level ready.answers run

-- the attempt that is ready is the run of its program on its answers
pub of_run : (r : Runner) (run : Run) (ready : ReadyRun) → IsReady r run ready → IsRunOnItsAnswers ready → AreNamed ready.answers → IsOfRun ready run
of_run r run ready x on named = record { kept = on; named = named; ended = ready_runs r run ready x }

-- ---- what it leaves ----

commit_by : (id : ℕ) (r : Runner) (run : Run) (ready : ReadyRun) (j : JournalState) (slots : List Slot) → IsReady r run ready →
    commit id r r.known.reads run (world_around (workplace j r) slots)
    ≡ commit_reported id r r.known.reads run (outcome_of j.standing ready run) (world_around (workplace j r) slots)
unfolding commit
commit_by id r run ready j slots x = grind (arith, nat_tests)

taken_is : (id : ℕ) (r : Runner) (run : Run) (ready : ReadyRun) (j after : JournalState) (slots : List Slot) (done : Done) (revision attempts : ℕ)
    (output : List Value) (trace : List TraceItem) (answers : List CommittedRead) →
    revision ≡ now done.history → attempts ≡ r.failures + 1 → output ≡ run.output → trace ≡ run.trace → answers ≡ map committed_read (answers_kept r.task.level r.known.reads) →
    world_of after (with_slot id Over slots) ≡ (take_commit id r r.known.reads run done (world_around (workplace j r) slots)).next → (q : Runner) →
    take_commit id r r.known.reads run done (world_around (workplace j r) slots)
    ≡ record {
      reply = Ok (Committed id revision attempts output trace answers);
      next = world_around (workplace after q) (with_slot id Over slots);
    }
taken_is id r run ready j after slots done revision attempts output trace answers a b c d e f q = grind (arith, nat_tests)

-- the world that a commit leaves, with the entry of the run that is ready
taken_leaves : (id : ℕ) (r : Runner) (run : Run) (ready : ReadyRun) (j after : JournalState) (slots : List Slot) (done : Done) → IsReady r run ready →
    after ≡ after_commit j ready done →
    world_of after (with_slot id Over slots) ≡ (take_commit id r r.known.reads run done (world_around (workplace j r) slots)).next
taken_leaves id r run ready j after slots done x left = grind (arith, nat_tests)

-- a commit that succeeded
pub take_leaves : (id : ℕ) (r q : Runner) (run : Run) (ready : ReadyRun) (j after : JournalState)
    (revision attempts : ℕ) (output : List Value) (trace : List TraceItem) (answers : List CommittedRead) →
    IsReady r run ready → HasCommitted j after ready (outcome_of j.standing ready run) revision →
    attempts ≡ r.failures + 1 → output ≡ ready.output → trace ≡ ready.trace → answers ≡ map committed_read (answers_kept ready.level ready.answers) →
    Leaves id (Ok (Ends (Committed id revision attempts output trace answers))) (workplace j r) (workplace after q) (commit id r r.known.reads run)
take_leaves id r q run ready j after revision attempts output trace answers x y a b c d slots =
    let w : World = world_around (workplace j r) slots in
    let reads : List ReadAnswer = r.known.reads in
    commit_by id r run ready j slots x
    ∙ ap (λ (o : Result Done StoreRefusal). commit_reported id r reads run o w) y.taken
    ∙ ap (λ (o : Option FailedCompare). decided id r reads run y.done o w) y.none_failed
    ∙ taken_is id r run ready j after slots y.done revision attempts output trace answers y.revision_is a
    (b ∙ ap (λ (p : ReadyRun). p.output) x.is) (c ∙ ap (λ (p : ReadyRun). p.trace) x.is)
    (d ∙ ap (λ (p : ReadyRun). map committed_read (answers_kept p.level p.answers)) x.is) (taken_leaves id r run ready j after slots y.done x y.left) q

again_by : (id : ℕ) (r q : Runner) (seen : Seen) (j after : JournalState) (slots : List Slot) (modified : ℕ) (reported : StepOutcome) (more : Bool) →
    may_go_on r ≡ more →
    reported ≡ cond more (GoesOn (Conflict id seen.key seen.mod_rev modified)) (Ends (GaveUp id (r.failures + 1) seen.key seen.mod_rev modified)) →
    (more ≡ true → q ≡ begun_again (map (answer_now j.standing.history) (reread_keys r.task.level r.known.reads)) r) → after ≡ j →
    fail_commit id r seen modified (world_around (workplace j r) slots)
    ≡ record { reply = Ok (reply_in reported); next = world_around (workplace after q) (with_slot id (slot_after reported q) slots) }
again_by id r q seen j after slots modified reported more go reported_is again same = grind (arith, nat_tests)

-- a commit of which a compare failed
fail_leaves : (id : ℕ) (r q : Runner) (run : Run) (ready : ReadyRun) (j after : JournalState) (key : List ℕ) (seen modified : ℕ)
    (answers : List ReadAnswer) (reported : StepOutcome) → IsReady r run ready →
    HasFailed j after ready (outcome_of j.standing ready run) key seen modified answers →
    reported ≡ reported_of_failure id r key seen modified → (may_go_on r ≡ true → q ≡ begun_again answers r) →
    Leaves id (Ok reported) (workplace j r) (workplace after q) (commit id r r.known.reads run)
fail_leaves id r q run ready j after key seen modified answers reported x y reported_is again slots =
    let w : World = world_around (workplace j r) slots in
    let reads : List ReadAnswer = r.known.reads in
    let writes : List Change = latest_writes run.writes in
    let answers_are : answers ≡ map (answer_now j.standing.history) (reread_keys r.task.level reads) =
    y.answers_are ∙ ap (λ (p : ReadyRun). map (answer_now j.standing.history) (reread_keys p.level p.answers)) x.is in
    let about : Seen = seen_in (slice_get (seen_by reads writes) y.failed.index) in
    let same : seen_in (slice_get (seen_by ready.answers ready.writes) y.failed.index) ≡ about =
    ap (λ (p : ReadyRun). seen_in (slice_get (seen_by p.answers p.writes) y.failed.index)) x.is in
    let says : reported ≡ reported_of_failure id r about.key about.mod_rev y.failed.mod_rev =
    reported_is ∙ ap (λ (k : List ℕ). reported_of_failure id r k seen modified) (y.key_is ∙ ap (λ (z : Seen). z.key) same)
    ∙ ap (λ (n : ℕ). reported_of_failure id r about.key n modified) (y.seen_is ∙ ap (λ (z : Seen). z.mod_rev) same)
    ∙ ap (λ (n : ℕ). reported_of_failure id r about.key about.mod_rev n) y.now_is in
    commit_by id r run ready j slots x
    ∙ ap (λ (o : Result Done StoreRefusal). commit_reported id r reads run o w) y.taken
    ∙ ap (λ (o : Option FailedCompare). decided id r reads run y.done o w) y.some_failed
    ∙ again_by id r q about j after slots y.failed.mod_rev reported (may_go_on r) refl says
    (λ more. again more ∙ ap (λ (l : List ReadAnswer). begun_again l r) answers_are) y.unchanged

-- a commit that the store refused
refused_leaves : (id : ℕ) (r q : Runner) (run : Run) (ready : ReadyRun) (j after : JournalState) (cause : StoreRefusal) (reported : StepOutcome) →
    IsReady r run ready → reported ≡ Ends (Ended id (event_refusal cause)) → outcome_of j.standing ready run ≡ Err cause → after ≡ j →
    Leaves id (Ok reported) (workplace j r) (workplace after q) (commit id r r.known.reads run)
refused_leaves id r q run ready j after cause reported x reported_is refused same slots =
    let made : StepOutcome → JournalState → Stepped = λ t y.
    record { reply = Ok (reply_in t); next = world_around (workplace y q) (with_slot id (slot_after t q) slots) } in
    commit_by id r run ready j slots x
    ∙ ap (λ (o : Result Done StoreRefusal). commit_reported id r r.known.reads run o (world_around (workplace j r) slots)) refused
    ∙ sym (ap (λ (t : StepOutcome). made t after) reported_is ∙ ap (λ (y : JournalState). made (Ends (Ended id (event_refusal cause))) y) same)

-- the cause of a refusal that is not that memory ran out
cause_is : (j : JournalState) (ready : ReadyRun) (run : Run) (cause : StoreRefusal) → IsOfRun ready run → cause ≢ OutOfMemory →
    (cause ≡ OutOfMemory) ⊎ (sent j ready ≡ Err cause) → outcome_of j.standing ready run ≡ Err cause
cause_is j ready run cause of other (inl want) = absurd (other want)
cause_is j ready run cause of other (inr reported) = is_refused j ready run cause of reported

-- what a commit of which a compare failed comes to, also where memory ran out then
pub fail_comes_to : (id : ℕ) (r q : Runner) (run : Run) (ready : ReadyRun) (j after : JournalState) (key : List ℕ) (seen modified : ℕ)
    (answers : List ReadAnswer) (outcome : Result StepOutcome AllocError) → IsReady r run ready →
    HasFailed j after ready (outcome_of j.standing ready run) key seen modified answers →
    IfOk outcome (λ reported. reported ≡ reported_of_failure id r key seen modified) → OnOk outcome (may_go_on r ≡ true → q ≡ begun_again answers r) →
    OnErr outcome (q ≡ r) → Leaves id outcome (workplace j r) (workplace after q) (commit id r r.known.reads run)
fail_comes_to id r q run ready j after key seen modified answers (Ok reported) x y reported_is again same =
    fail_leaves id r q run ready j after key seen modified answers reported x y reported_is again
fail_comes_to id r q run ready j after key seen modified answers (Err e) x y reported_is again same =
    ap (λ (n : JournalState). workplace n q) y.unchanged ∙ ap (λ (p : Runner). workplace j p) same

-- what a commit that the store refused comes to, also where memory ran out
pub refusal_comes_to : (id : ℕ) (r : Runner) (run : Run) (ready : ReadyRun) (j after : JournalState) (cause : StoreRefusal)
    (outcome : Result StepOutcome AllocError) → IsReady r run ready → IsOfRun ready run →
    IfOk outcome (λ reported. reported ≡ Ends (Ended id (event_refusal cause))) → OnOk outcome (cause ≢ OutOfMemory) →
    (cause ≡ OutOfMemory) ⊎ (sent j ready ≡ Err cause) → after ≡ j →
    Leaves id outcome (workplace j r) (workplace after r) (commit id r r.known.reads run)
refusal_comes_to id r run ready j after cause (Ok reported) x of reported_is other refused same =
    refused_leaves id r r run ready j after cause reported x reported_is (cause_is j ready run cause of other refused) same
refusal_comes_to id r run ready j after cause (Err e) x of reported_is other refused same =
    ap (λ (n : JournalState). workplace n r) same

-- ---- what the next attempt may rely on ----

named_again : (h : History) (reads : List ReadAnswer) → AreNamed reads → AreNamed (map (answer_now h) (map (λ (a : ReadAnswer). a.key) reads))
named_again h [] named = named
named_again h (a ∷ reads) named =
    grind (arith, nat_tests, All-cons, All-head, All-tail, named_again h reads (All-tail (λ (x : ReadAnswer). 0 < length x.key) a reads named))

-- the keys that were read again are named, as those that were read
pub reread_named : (h : History) (level : Level) (reads : List ReadAnswer) → AreNamed reads → AreNamed (map (answer_now h) (reread_keys level reads))
reread_named h level reads named = grind (arith, nat_tests, named_again, All-nil)

-- ---- which events are taken ----

either_is_taken : (b : Bool) (first second : Stepped) → IsOk first.reply → IsOk second.reply → IsOk (cond b first second).reply
either_is_taken b first second one other = grind (arith, nat_tests)

reported_is_taken : (id : ℕ) (r : Runner) (reads : List ReadAnswer) (run : Run) (o : Result Done StoreRefusal) (w : World) →
    IsOk (commit_reported id r reads run o w).reply
reported_is_taken id r reads run o w = grind (arith, nat_tests, either_is_taken)

finish_is_taken : (id : ℕ) (r : Runner) (reads : List ReadAnswer) (run : Run) (end : End) (w : World) → IsOk (finish id r reads run end w).reply
unfolding commit
finish_is_taken id r reads run end w = grind (arith, nat_tests, reported_is_taken)

on_is_taken : (id : ℕ) (r : Runner) (reads : List ReadAnswer) (answered : Answered) (w : World) → IsOk (step_on id r reads answered w).reply
unfolding fetch
on_is_taken id r reads answered w = grind (arith, nat_tests, either_is_taken, finish_is_taken)

-- a step of a runner that is there is taken
pub live_is_taken : (id : ℕ) (r : Runner) (w : World) → IsOk (step_live id r w).reply
unfolding step_live
live_is_taken id r w = grind (arith, nat_tests, either_is_taken, on_is_taken)

-- ---- a start ----

-- a start that may send a commit is taken
pub start_takes : (task : Task) (w : World) → task.limit ≢ 0 →
    start_runner task w ≡ record {
      reply = Ok (Started (length w.runners + 1));
      next = record { standing = w.standing; runners = w.runners ++ Live (begin task) ∷ []; entries = w.entries };
    }
unfolding start_runner
start_takes task w some = grind (arith, nat_tests, other_number)

pub start_is_taken : (task : Task) (w : World) → task.limit ≢ 0 → IsOk (start_runner task w).reply
start_is_taken task w some = ap (λ (s : Stepped). is_ok s.reply) (start_takes task w some)

-- the new runner's number, as the code has it
pub added_number : (task : Task) (w : World) (before after : List Slot) (slot : Slot) (r : Runner) (id : ℕ) → task.limit ≢ 0 → before ≡ w.runners →
    after ≡ before ++ slot ∷ [] → slot ≡ Live r → r ≡ begin task → id ≡ length after → (start_runner task w).reply ≡ Ok (Started id)
added_number task w before after slot r id some before_is after_is slot_is runner_is id_is = grind (arith, nat_tests, start_takes, count_grows)

pub added_world : (task : Task) (w : World) (j : JournalState) (before after : List Slot) (slot : Slot) (r : Runner) → task.limit ≢ 0 →
    world_of j before ≡ w → after ≡ before ++ slot ∷ [] → slot ≡ Live r → r ≡ begin task → world_of j after ≡ (start_runner task w).next
added_world task w j before after slot r some view_is after_is slot_is runner_is = grind (arith, nat_tests, start_takes)

-- one that may send none is refused
pub start_refuses : (program : ProgramTree) (level : Level) (w : World) →
    start_runner (record { program = program; level = level; limit = 0 }) w ≡ refused BadLimit w
unfolding start_runner
start_refuses program level w = refl

-- ---- the step, with the places ----

reported_reports : (id : ℕ) (j after : JournalState) (places slots : List Slot) (r q : Runner) (reported : StepOutcome) (found : Option Runner) →
    found ≡ Some r → Leaves id (Ok reported) (workplace j r) (workplace after q) (step_live id r) →
    slots ≡ with_slot id (slot_after reported q) (with_slot id Over places) →
    Returns (Ok (Ok (reply_in reported))) (world_of j places) (world_of after slots) (step_runner id found (world_of j places))
reported_reports id j after places slots r q reported found is leaves put = grind (arith, nat_tests, put_there)

ran_out_reports : (id : ℕ) (j after : JournalState) (places slots : List Slot) (r q : Runner) (e : AllocError)
    (found : Option Runner) → found ≡ Some r → runner_at id places ≡ Some r → workplace after q ≡ workplace j r →
    slots ≡ with_slot id (Live q) (with_slot id Over places) →
    Returns (Err e) (world_of j places) (world_of after slots) (step_runner id found (world_of j places))
ran_out_reports id j after places slots r q e found is there leaves put = grind (arith, nat_tests, put_back, live_is_taken)

-- the reply to the step of a runner that runs, also where memory ran out
pub outcome_reports : (id : ℕ) (j after : JournalState) (places slots : List Slot) (r q : Runner)
    (outcome : Result StepOutcome AllocError) (found : Option Runner) → found ≡ Some r → runner_at id places ≡ Some r →
    Leaves id outcome (workplace j r) (workplace after q) (step_live id r) →
    slots ≡ with_slot id (slot_left outcome q) (with_slot id Over places) →
    Returns (reply_reported outcome) (world_of j places) (world_of after slots) (step_runner id found (world_of j places))
outcome_reports id j after places slots r q (Ok reported) found is there leaves put = reported_reports id j after places slots r q reported found is leaves put
outcome_reports id j after places slots r q (Err e) found is there leaves put = ran_out_reports id j after places slots r q e found is there leaves put
