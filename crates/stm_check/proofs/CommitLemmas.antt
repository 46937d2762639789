-- The run that the line of a commit stands for, and the store that it leads to.
use Rattle.std.proofs.Common.{◌≡◌, ◌≢◌, ◌↔◌, ℕ, ◌+◌, ◌<◌, ◌≤◌, length, take, drop, get_or, Bool, false, List, [], ◌∷◌, ◌++◌, append_assoc, Option}
use Rattle.std.proofs.Common.{Some, None, Ok, Err, refl, sym, ◌∙◌, ap, subst}
use Rattle.std.proofs.lemmas.List.{take_all, take_more}
use Rattle.std.proofs.lemmas.List.Elements.{filter-append}
use Rattle.std.specs.Prelude.{Result, IsTrue, IfOk, OnOk, filter}
use Rattle.std.specs.declared.alloc.AllocError.{AllocError}
use Rattle.stm_history.specs.declared.change.Change.{Change}
use Rattle.stm_program.specs.Writes.{latest_writes}
use Rattle.stm_program.proofs.LatestLemmas.{latest_writes-distinct}
use Rattle.stm_outcome.specs.declared.refusal.Refusal.TheVariants.{OutOfMemory}
use Rattle.stm_outcome.proofs.Applying.{branch_applies}
use Rattle.stm_compile.proofs.OutcomeLemmas.{changes_are_distinct}
use Rattle.stm_check.proofs.Fronts.{left_at}
use Rattle.stm_check.proofs.CallLemmas.{refused_for}
use Rattle.stm_history.specs.History.{History, now, HasDistinctKeys}
use Rattle.stm_program.specs.Syntax.{ProgramTree}
use Rattle.stm_program.specs.declared.level.Level.{Level}
use Rattle.stm_program.specs.declared.level.Level.TheVariants.{ReadCommitted}
use Rattle.stm_steps.specs.declared.value.Value.{Value}
use Rattle.stm_steps.specs.declared.trace_item.TraceItem.{TraceItem}
use Rattle.stm_steps.specs.declared.run.End.TheVariants.{Done as DoneEnd}
use Rattle.stm_steps.specs.declared.run.Run.{Run}
use Rattle.stm_steps.specs.declared.run.Answered.TheVariants.{Ended, Wants}
use Rattle.stm_meaning.specs.Meaning.{run_over}
use Rattle.stm_outcome.specs.declared.refusal.Refusal.{Refusal}
use Rattle.stm_outcome.specs.Outcome.{Done}
use Rattle.stm_txn.specs.Standing.{Standing, Step, IsRefusalOf, write_step, written, with_history as with_standing_history, terms_of}
use Rattle.stm_compile.specs.Answers.{AreTrue, look_up}
use Rattle.stm_program.specs.Levels.{is_comparing}
use Rattle.stm_entries.specs.Replayed.{without_moment}
use Rattle.stm_entries.specs.Alone.{applied_run, history_left}
use Rattle.stm_entries.specs.Legal.{AnswersAreTrue}
use Rattle.stm_events.specs.FirstReads.{is_other, keys_first_read}
use Rattle.stm_events.specs.declared.reply.CommittedRead.{CommittedRead}
use Rattle.stm_events.specs.declared.reply.Reply.{Reply}
use Rattle.stm_events.specs.declared.reply.Reply.TheVariants.{Committed}
use Rattle.stm_check.specs.declared.runner.Runner.{Runner}
use Rattle.stm_events.specs.Replies.{reads_in}
use Rattle.stm_check.specs.Replays.{AreTrulyReported, AnswersFit, keys_reported, IsRightCommit, StepReplays}
use Rattle.stm_check.specs.Runs.{run_in, IsRunReported, IsRunOn, IsFound, revision_reached, with_writes}

-- ---- runs

pub never_wants : (key : List ℕ) (trace : List TraceItem) (run : Run) → Wants key trace ≡ Ended run → ⊥
never_wants key trace run is = let no : None ≡ Some run = ap run_in is in absurd (cc)

pub never : {A : Type 0} → IsTrue false → A
never t = absurd (cc)

pub found_on : (level : Level) (h : History) (program : ProgramTree) (answers : List CommittedRead) (run : Run) → is_comparing level ≡ false →
    AreTrulyReported h answers → run_over (look_up (reads_in h answers)) program.statements ≡ Ended run → keys_reported answers ≡ keys_first_read program.prefetch run.reads →
    IsFound level h program answers (Some run)
found_on ReadCommitted h program answers run level truth is keys = record { is_run = is; answers_fit = (keys, truth) }
found_on _ h program answers run level truth is keys = absurd (cc)

none_on : (level : Level) (h : History) (program : ProgramTree) (answers : List CommittedRead) → is_comparing level ≡ false →
    IsRunOn (look_up (reads_in h answers)) program answers None → IsFound level h program answers None
none_on ReadCommitted h program answers level none = λ run reported. none run reported.is_run reported.answers_fit.0
none_on _ h program answers level none = absurd (cc)

-- the run on the answers, which are true, is the one that is found at ReadCommitted
pub found_by_keys : (level : Level) (h : History) (program : ProgramTree) (answers : List CommittedRead) (o : Option Run) → is_comparing level ≡ false →
    AreTrulyReported h answers → IsRunOn (look_up (reads_in h answers)) program answers o → IsFound level h program answers o
found_by_keys level h program answers (Some run) is truth on = found_on level h program answers run is truth on.0 on.1
found_by_keys level h program answers None is truth none = none_on level h program answers is none

-- ---- the commit

reads_true : (h : History) (answers : List CommittedRead) → AreTrulyReported h answers → AreTrue h (reads_in h answers)
reads_true h [] truth = tt
reads_true h (a ∷ answers) truth = (record { reached = truth.0.reached; shown = refl }, reads_true h answers truth.1)

-- the answers that fit a level are true, as reads
pub answers_true : (level : Level) (h : History) (reads : List (List ℕ)) (answers : List CommittedRead) → AnswersFit level h reads answers →
    AnswersAreTrue level (reads_in h answers) h
answers_true ReadCommitted h reads answers fit = reads_true h answers fit.1
answers_true _ h reads answers fit = ap (reads_in h) fit

-- what a right commit wants beside its run
pub record IsTakenAs (s : Standing) (r : Runner) (run : Run) (revision attempts : ℕ) (output : List Value) (trace : List TraceItem) : Type 0 where
  pub is_done : run.end ≡ DoneEnd
  pub emits : run.output ≡ output
  pub sees : run.trace ≡ trace
  pub reached : revision_reached (applied_run (without_moment s) run) ≡ Some revision
  pub attempt : attempts ≡ r.conflicts + 1
  pub may_be_sent : attempts ≤ r.limit

done_of : (o : Result Done Refusal) (revision : ℕ) → revision_reached o ≡ Some revision → (done : Done) × (o ≡ Ok done) × (now done.history ≡ revision)
done_of (Ok done) revision is = (done, refl, cc)
done_of (Err cause) revision is = absurd (cc)

pub right_commit : (s : Standing) (r : Runner) (run : Run) (revision attempts : ℕ) (output : List Value) (trace : List TraceItem) (answers : List CommittedRead) →
    IsRunReported r.level s.history r.program answers run → IsTakenAs s r run revision attempts output trace →
    IsRightCommit s r revision attempts output trace answers
right_commit s r run revision attempts output trace answers reported taken =
    let came = done_of (applied_run (without_moment s) run) revision taken.reached in
    record {
      commit = record {
        run = run;
        is_run = reported.is_run;
        is_done = taken.is_done;
        emits = taken.emits;
        sees = taken.sees;
        reads_truth = answers_true r.level s.history (keys_first_read r.program.prefetch run.reads) answers reported.answers_fit;
        done = came.0;
        applies = came.1;
        reached = came.2;
      };
      answers_fit = reported.answers_fit;
      attempt = taken.attempt;
      may_be_sent = taken.may_be_sent;
    }

-- and what it has
pub commit_run : (s : Standing) (r : Runner) (revision attempts : ℕ) (output : List Value) (trace : List TraceItem) (answers : List CommittedRead) →
    IsRightCommit s r revision attempts output trace answers →
    (run : Run) × IsRunReported r.level s.history r.program answers run × IsTakenAs s r run revision attempts output trace
commit_run s r revision attempts output trace answers right =
    let c = right.commit in (
      c.run,
      record { is_run = c.is_run; answers_fit = right.answers_fit },
      record {
        is_done = c.is_done;
        emits = c.emits;
        sees = c.sees;
        reached = ap revision_reached c.applies ∙ ap Some c.reached;
        attempt = right.attempt;
        may_be_sent = right.may_be_sent;
      },
    )

-- at most one run is reported
pub reported_once : (level : Level) (h : History) (program : ProgramTree) (answers : List CommittedRead) (one other : Run) →
    IsRunReported level h program answers one → IsRunReported level h program answers other → one ≡ other
reported_once level h program answers one other a b =
    let same : Some one ≡ Some other = ap run_in (sym a.is_run ∙ b.is_run) in cc

-- ---- the store after it

-- ---- the verdicts

-- the commit of the run, where a test looks at all of what the line reports
pub run_right : (b : Bool) (s : Standing) (r : Runner) (run : Run) (revision attempts : ℕ) (output : List Value) (trace : List TraceItem)
    (answers : List CommittedRead) → IsRunReported r.level s.history r.program answers run → (attempts ≡ r.conflicts + 1) × (attempts ≤ r.limit) →
    (IsTrue b ↔ ((run.end ≡ DoneEnd) × (run.output ≡ output) × (run.trace ≡ trace))
    × (revision_reached (applied_run (without_moment s) run) ≡ Some revision)) → (IsTrue b ↔ IsRightCommit s r revision attempts output trace answers)
run_right b s r run revision attempts output trace answers reported next test = (
  (λ t.
      let taken = test.0 t in
      right_commit s r run revision attempts output trace answers reported (record {
        is_done = taken.0.0;
        emits = taken.0.1;
        sees = taken.0.2;
        reached = taken.1;
        attempt = next.0;
        may_be_sent = next.1;
      })),
  (λ right.
      let has = commit_run s r revision attempts output trace answers right in
      let same : has.0 ≡ run = reported_once r.level s.history r.program answers has.0 run has.1 reported in
      let taken : IsTakenAs s r run revision attempts output trace =
      subst (λ (x : Run). IsTakenAs s r x revision attempts output trace) same has.2 in
      test.1 ((taken.is_done, taken.emits, taken.sees), taken.reached)),
)

-- ---- the writes

-- what making the writes of a run comes to
written_is : (s : Standing) (run : Run) (changes : List Change) → changes ≡ latest_writes run.writes →
    written s changes ≡ write_step s (applied_run (without_moment s) run)
written_is s run changes are =
    ap (written s) are
    ∙ ap (write_step s) (branch_applies (terms_of s) (latest_writes run.writes)
    (changes_are_distinct (latest_writes run.writes) (latest_writes-distinct run.writes)))

pub writes_distinct : (run : Run) (changes : List Change) → changes ≡ latest_writes run.writes → HasDistinctKeys changes
writes_distinct run changes are =
    subst HasDistinctKeys (sym are) (changes_are_distinct (latest_writes run.writes) (latest_writes-distinct run.writes))

-- the revision and the store that writes lead to
abbrev WritesReach : Standing → Result Done Refusal → Result (Step ℕ) Refusal → Type 0
WritesReach s o (Ok step) = (Some step.answer ≡ revision_reached o) × (step.next ≡ with_standing_history s (history_left s.history o))
WritesReach s o (Err cause) = (None ≡ revision_reached o) × (s ≡ with_standing_history s (history_left s.history o))

writes_reach : (s : Standing) (o : Result Done Refusal) → WritesReach s o (write_step s o)
writes_reach s (Ok done) = (refl, refl)
writes_reach s (Err cause) = (refl, refl)

reached_as : (s : Standing) (run : Run) (changes : List Change) (came : Result (Step ℕ) Refusal) → changes ≡ latest_writes run.writes →
    written s changes ≡ came → WritesReach s (applied_run (without_moment s) run) came
reached_as s run changes came are is =
    subst (WritesReach s (applied_run (without_moment s) run)) (sym (written_is s run changes are) ∙ is)
    (writes_reach s (applied_run (without_moment s) run))

pub taken_revision : (s next : Standing) (run : Run) (changes : List Change) (revision : ℕ) → changes ≡ latest_writes run.writes →
    written s changes ≡ Ok record { answer = revision; next = next } → Some revision ≡ revision_reached (applied_run (without_moment s) run)
taken_revision s next run changes revision are is = (reached_as s run changes (Ok record { answer = revision; next = next }) are is).0

pub taken_store : (s next : Standing) (run : Run) (changes : List Change) (revision : ℕ) → changes ≡ latest_writes run.writes →
    written s changes ≡ Ok record { answer = revision; next = next } → next ≡ with_writes s run
taken_store s next run changes revision are is = (reached_as s run changes (Ok record { answer = revision; next = next }) are is).1

pub refused_revision : (r : Result (Option ℕ) AllocError) (s : Standing) (run : Run) (changes : List Change) (cause : Refusal) →
    changes ≡ latest_writes run.writes → IsRefusalOf (written s changes) cause → IfOk r (λ revision. revision ≡ None) →
    OnOk r (cause ≢ OutOfMemory) → IfOk r (λ revision. revision ≡ revision_reached (applied_run (without_moment s) run))
refused_revision (Ok revision) s run changes cause are is none other =
    none ∙ (reached_as s run changes (Err cause) are (refused_for (written s changes) cause is other)).0
refused_revision (Err e) s run changes cause are is none other = tt

pub refused_store : (r : Result (Option ℕ) AllocError) (s next : Standing) (run : Run) (changes : List Change) (cause : Refusal) →
    changes ≡ latest_writes run.writes → IsRefusalOf (written s changes) cause → next ≡ s →
    OnOk r (cause ≢ OutOfMemory) → OnOk r (next ≡ with_writes s run)
refused_store (Ok revision) s next run changes cause are is same other =
    same ∙ (reached_as s run changes (Err cause) are (refused_for (written s changes) cause is other)).1
refused_store (Err e) s next run changes cause are is same other = tt

-- ---- the keys that are read first

-- with no list, they are those that the run looked up
all_others : (keys : List (List ℕ)) → filter (is_other []) keys ≡ keys
all_others [] = refl
all_others (key ∷ keys) = ap (λ (l : List (List ℕ)). key ∷ l) (all_others keys)

first_read : (listed reads : List (List ℕ)) → listed ++ filter (is_other listed) reads ≡ keys_first_read listed reads
first_read [] reads = all_others reads
first_read (key ∷ listed) reads = refl

-- one key more that the run looked up
pub other_more : (P : List ℕ → Bool) (front keys longer reads : List (List ℕ)) (i : ℕ) (key : List ℕ) → i < length reads → key ≡ get_or reads i key →
    longer ≡ keys ++ filter P (key ∷ []) → keys ≡ front ++ filter P (take i reads) → longer ≡ front ++ filter P (take (i + 1) reads)
other_more P front keys longer reads i key within is more so_far =
    let others : filter P (take i reads) ++ filter P (key ∷ []) ≡ filter P (take (i + 1) reads) =
    sym (filter-append P (take i reads) (key ∷ []))
    ∙ ap (λ (k : List ℕ). filter P (take i reads ++ k ∷ [])) is
    ∙ ap (λ (l : List (List ℕ)). filter P l) (sym (take_more reads i key within)) in
    more ∙ ap (λ (l : List (List ℕ)). l ++ filter P (key ∷ [])) so_far
    ∙ append_assoc front (filter P (take i reads)) (filter P (key ∷ []))
    ∙ ap (λ (l : List (List ℕ)). front ++ l) others

-- all of them
pub others_end : (P : List ℕ → Bool) (front keys reads : List (List ℕ)) (i : ℕ) → length reads ≤ i → keys ≡ front ++ filter P (take i reads) →
    keys ≡ front ++ filter P reads
others_end P front keys reads i end so_far = so_far ∙ ap (λ (l : List (List ℕ)). front ++ filter P l) (take_all i reads end)

-- all keys that are read first
pub first_reads : (listed texts looked reads front keys : List (List ℕ)) → front ≡ listed → texts ≡ listed → looked ≡ reads →
    keys ≡ front ++ filter (is_other texts) looked → keys ≡ keys_first_read listed reads
first_reads listed texts looked reads front keys fronts same are all =
    all ∙ ap (λ (l : List (List ℕ)). l ++ filter (is_other texts) looked) fronts
    ∙ ap (λ (l : List (List ℕ)). listed ++ filter (is_other l) looked) same
    ∙ ap (λ (l : List (List ℕ)). listed ++ filter (is_other listed) l) are
    ∙ first_read listed reads

-- ---- the keys of answers, one after another

key_heads : (k j : List ℕ) (ks js : List (List ℕ)) → k ∷ ks ≡ j ∷ js → k ≡ j
key_heads k j ks js same = cc

key_tails : (k j : List ℕ) (ks js : List (List ℕ)) → k ∷ ks ≡ j ∷ js → ks ≡ js
key_tails k j ks js same = cc

-- where the keys that are left are the same, all are
pub record LeavesKeys (answers : List CommittedRead) (keys : List (List ℕ)) (i : ℕ) : Type 0 where
  pub whole : keys_reported (drop i answers) ≡ drop i keys → keys_reported answers ≡ keys
  pub part : keys_reported answers ≡ keys → keys_reported (drop i answers) ≡ drop i keys

both_left : (answers : List CommittedRead) (keys : List (List ℕ)) (i : ℕ) (a : CommittedRead) (k : List ℕ) → i < length answers → a ≡ get_or answers i a →
    i < length keys → k ≡ get_or keys i k → keys_reported (drop i answers) ≡ drop i keys →
    a.key ∷ keys_reported (drop (i + 1) answers) ≡ k ∷ drop (i + 1) keys
both_left answers keys i a k within is within_keys key_is same =
    sym (ap keys_reported (left_at answers i a within is)) ∙ same ∙ left_at keys i k within_keys key_is

pub leaves_fewer_keys : (answers : List CommittedRead) (keys : List (List ℕ)) (i : ℕ) (a : CommittedRead) (k : List ℕ) → i < length answers →
    a ≡ get_or answers i a → i < length keys → k ≡ get_or keys i k → LeavesKeys answers keys i → a.key ≡ k → LeavesKeys answers keys (i + 1)
leaves_fewer_keys answers keys i a k within is within_keys key_is so_far same = record {
  whole = λ rest. so_far.whole (ap keys_reported (left_at answers i a within is)
      ∙ ap (λ (j : List ℕ). j ∷ keys_reported (drop (i + 1) answers)) same ∙ ap (λ (ks : List (List ℕ)). k ∷ ks) rest
      ∙ sym (left_at keys i k within_keys key_is));
  part = λ all. key_tails a.key k (keys_reported (drop (i + 1) answers)) (drop (i + 1) keys)
      (both_left answers keys i a k within is within_keys key_is (so_far.part all));
}

-- the keys at a place are the same where all are
pub same_key_at : (answers : List CommittedRead) (keys : List (List ℕ)) (i : ℕ) (a : CommittedRead) (k : List ℕ) → i < length answers →
    a ≡ get_or answers i a → i < length keys → k ≡ get_or keys i k → LeavesKeys answers keys i → keys_reported answers ≡ keys → a.key ≡ k
same_key_at answers keys i a k within is within_keys key_is so_far all =
    key_heads a.key k (keys_reported (drop (i + 1) answers)) (drop (i + 1) keys)
    (both_left answers keys i a k within is within_keys key_is (so_far.part all))

-- ---- the reply to a step

pub step_right : (r : Result Bool AllocError) (s : Standing) (o : Option Runner) (reply : Reply) (runner : Runner) (id revision attempts : ℕ)
    (output reported_output : List Value) (trace reported_trace : List TraceItem) (answers reported_answers : List CommittedRead) → o ≡ Some runner →
    reply ≡ Committed id revision attempts output trace answers → reported_output ≡ output → reported_trace ≡ trace → reported_answers ≡ answers →
    IfOk r (λ b. IsTrue b ↔ IsRightCommit s runner revision attempts reported_output reported_trace reported_answers) →
    IfOk r (λ b. IsTrue b ↔ StepReplays s o (Ok reply))
step_right r s o reply runner id revision attempts output reported_output trace reported_trace answers reported_answers runs is outputs traces all_answers right =
    subst (λ (x : Reply). IfOk r (λ b. IsTrue b ↔ StepReplays s o (Ok x))) (sym is)
    (subst (λ (x : Option Runner). IfOk r (λ b. IsTrue b ↔ StepReplays s x (Ok (Committed id revision attempts output trace answers)))) (sym runs)
    (subst (λ (x : List Value). IfOk r (λ b. IsTrue b ↔ IsRightCommit s runner revision attempts x trace answers)) outputs
    (subst (λ (x : List TraceItem). IfOk r (λ b. IsTrue b ↔ IsRightCommit s runner revision attempts reported_output x answers)) traces
    (subst (λ (x : List CommittedRead). IfOk r (λ b. IsTrue b ↔ IsRightCommit s runner revision attempts reported_output reported_trace x)) all_answers right))))
