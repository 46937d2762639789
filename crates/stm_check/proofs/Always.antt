-- A check has an answer for each report: whether a line is right can be computed, since what it is compared with can be distinguished.
use Rattle.std.proofs.Common.{◌≡◌, ◌⊎◌, option_map, inl, inr, ℕ, suc, ◌+◌, ◌≤◌, Bool, true, false, List, [], ◌∷◌, Option, Some, None, refl, sym, ◌∙◌}
use Rattle.std.proofs.Common.{ap, subst, eqb, leb, eqb-true, eq-eqb, leb-true, le-leb}
use Rattle.std.specs.Prelude.{MatchBool, Result, Ok, Err}
use Rattle.std.specs.Coded.{Coded, coded_ℕ, coded_list, coded_option, coded_result}
use base.Stored.{Gv, gnil, gnum, gcons}
use Rattle.stm_history.specs.declared.key_state.KeyState.{KeyState}
use Rattle.stm_history.specs.History.{History, now, key_at, mod_of}
use Rattle.stm_steps.specs.contracts.run.End as ends
use Rattle.stm_steps.specs.contracts.trace_item.TraceItem as items
use Rattle.stm_steps.specs.contracts.value.Value as values
use Rattle.stm_steps.specs.declared.value.Value.{Value}
use Rattle.stm_steps.specs.declared.trace_item.TraceItem.{TraceItem}
use Rattle.stm_steps.specs.declared.run.End.TheVariants.{Done as DoneEnd}
use Rattle.stm_steps.specs.declared.run.Run.{Run}
use Rattle.stm_steps.specs.declared.run.Answered.{Answered}
use Rattle.stm_steps.specs.declared.run.Answered.TheVariants.{Ended, Wants}
use Rattle.stm_meaning.specs.Meaning.{run_over}
use Rattle.stm_program.specs.declared.level.Level.{Level}
use Rattle.stm_program.specs.Levels.{is_comparing}
use Rattle.stm_txn.specs.Standing.{Standing}
use Rattle.stm_entries.specs.Alone.{seen_at, applied_run}
use Rattle.stm_entries.specs.Replayed.{without_moment}
use Rattle.stm_events.specs.FirstReads.{keys_first_read}
use Rattle.stm_events.specs.declared.event.WorldEvent.{WorldEvent}
use Rattle.stm_events.specs.contracts.line.ReportLine as reports
use Rattle.stm_events.specs.contracts.refusal.Denied as refused
use Rattle.stm_events.specs.contracts.reply.Reply as replies
use Rattle.stm_events.specs.declared.line.ReportLine.{ReportLine}
use Rattle.stm_events.specs.declared.line.ReportLine.TheVariants as line
use Rattle.stm_events.specs.declared.refusal.Denied.{Denied}
use Rattle.stm_events.specs.declared.refusal.EventRefusal.TheVariants.{BadLimit, NoRunner}
use Rattle.stm_events.specs.declared.reply.CommittedRead.{CommittedRead}
use Rattle.stm_events.specs.declared.reply.Reply.{Reply}
use Rattle.stm_events.specs.declared.reply.Reply.TheVariants.{Committed}
use Rattle.stm_events.specs.Replies.{reads_in, denied}
use Rattle.stm_events.specs.Called.{Call, Watch, Poll, Cancel, Asked, Starts, Steps, Calls, asked, called}
use Rattle.stm_check.specs.declared.cause.WrongCause.{WrongCause}
use Rattle.stm_check.specs.declared.cause.WrongCause.TheVariants.{Count, Event, Replay, Final}
use Rattle.stm_check.specs.declared.checking.Checked.{Checked}
use Rattle.stm_check.specs.declared.checking.Checked.TheVariants.{Yes, No}
use Rattle.stm_check.specs.declared.runner.Runner.{Runner}
use Rattle.stm_check.specs.Fits.{fits}
use Rattle.stm_check.specs.Judged.{IsJudgedFrom}
use Rattle.stm_check.specs.Laws.{JudgedAlways}
use Rattle.stm_check.specs.Point.{Point, after_line}
use Rattle.stm_check.specs.Replays.{IsTrulyReported, AreTrulyReported, AnswersFit, keys_reported, IsRightCommit, IsCommitOf, StartReplays, StepReplays, CallReplays, AskedReplays}
use Rattle.stm_check.specs.Runners.{running}
use Rattle.stm_check.specs.Runs.{run_in, revision_reached}
use Rattle.stm_check.specs.StoreLines.{final_lines}
use Rattle.stm_check.specs.Wrong.{IsReplayed, IsRight, IsWrong, IsOff, opens_at}
use Rattle.stm_check.proofs.CommitLemmas.{IsTakenAs, never_wants, right_commit, commit_run}

-- a statement holds, or it does not
abbrev Decided : Type 0 → Type 0
Decided P = P ⊎ (P → ⊥)

by_test : {P : Type 0} (b : Bool) → (b ≡ true → P) → (P → b ≡ true) → Decided P
by_test true holds test = inl (holds refl)
by_test false holds test = inr (λ p. let both : false ≡ true = test p in absurd (cc))

both : {P Q : Type 0} → Decided P → Decided Q → Decided (P × Q)
both (inl p) (inl q) = inl (p, q)
both (inl p) (inr not) = inr (λ each. not each.1)
both (inr not) q = inr (λ each. not each.0)

three : {P Q R : Type 0} → Decided P → Decided Q → Decided R → Decided (P × Q × R)
three (inl p) (inl q) (inl r) = inl (p, q, r)
three (inl p) (inl q) (inr not) = inr (λ each. not each.2)
three (inl p) (inr not) r = inr (λ each. not each.1)
three (inr not) q r = inr (λ each. not each.0)

-- ---- values

equal_numbers : (a b : ℕ) → Decided (a ≡ b)
equal_numbers a b = by_test (eqb a b) (eqb-true a b) (eq-eqb a b)

at_most : (a b : ℕ) → Decided (a ≤ b)
at_most a b = by_test (leb a b) (leb-true a b) (le-leb a b)

equal_leaves : (n m : ℕ) → Decided (n ≡ m) → Decided (gnum n ≡ gnum m)
equal_leaves n m (inl same) = inl (ap gnum same)
equal_leaves n m (inr not) = inr (λ is. let same : n ≡ m = cc in not same)

equal_pairs : (a b c d : Gv) → Decided (a ≡ c) → Decided (b ≡ d) → Decided (gcons a b ≡ gcons c d)
equal_pairs a b c d (inl one) (inl other) = inl (λ i. gcons (one i) (other i))
equal_pairs a b c d (inl one) (inr not) = inr (λ is. let other : b ≡ d = cc in not other)
equal_pairs a b c d (inr not) other = inr (λ is. let one : a ≡ c = cc in not one)

-- a value is coded as a tree of numbers
equal_codes : (x y : Gv) → Decided (x ≡ y)
equal_codes gnil gnil = inl refl
equal_codes gnil (gnum n) = inr (λ is. absurd (cc))
equal_codes gnil (gcons a b) = inr (λ is. absurd (cc))
equal_codes (gnum n) gnil = inr (λ is. absurd (cc))
equal_codes (gnum n) (gnum m) = equal_leaves n m (equal_numbers n m)
equal_codes (gnum n) (gcons a b) = inr (λ is. absurd (cc))
equal_codes (gcons a b) gnil = inr (λ is. absurd (cc))
equal_codes (gcons a b) (gnum n) = inr (λ is. absurd (cc))
equal_codes (gcons a b) (gcons c d) = equal_pairs a b c d (equal_codes a c) (equal_codes b d)

equal_coded : {A : Type 0} (c : Coded A) (x y : A) → Decided (c.code x ≡ c.code y) → Decided (x ≡ y)
equal_coded c x y (inl same) = inl (c.inj x y same)
equal_coded c x y (inr not) = inr (λ is. not (ap c.code is))

equal : {A : Type 0} → Coded A → (x y : A) → Decided (x ≡ y)
equal c x y = equal_coded c x y (equal_codes (c.code x) (c.code y))

is_nothing : {A : Type 0} (xs : List A) → Decided (xs ≡ [])
is_nothing [] = inl refl
is_nothing (x ∷ xs) = inr (λ is. absurd (cc))

is_absent : {A : Type 0} (o : Option A) → Decided (o ≡ None)
is_absent None = inl refl
is_absent (Some x) = inr (λ is. absurd (cc))

-- ---- commits

truly_by : (h : History) (a : CommittedRead) → Decided ((a.of_rev ≤ now h)
    × (a.value ≡ option_map (λ (s : KeyState). s.value) (key_at h a.key a.of_rev)) × (a.mod_rev ≡ mod_of (key_at h a.key a.of_rev))) → Decided (IsTrulyReported h a)
truly_by h a (inl all) = inl (record { reached = all.0; value = all.1; modified = all.2 })
truly_by h a (inr not) = inr (λ is. not (is.reached, is.value, is.modified))

truly : (h : History) (a : CommittedRead) → Decided (IsTrulyReported h a)
truly h a = truly_by h a (three (at_most a.of_rev (now h)) (equal (coded_option (coded_list coded_ℕ)) a.value _) (equal_numbers a.mod_rev _))

all_truly : (h : History) (answers : List CommittedRead) → Decided (AreTrulyReported h answers)
all_truly h [] = inl tt
all_truly h (a ∷ answers) = both (truly h a) (all_truly h answers)

fit_by : (b : Bool) (h : History) (reads : List (List ℕ)) (answers : List CommittedRead) →
    Decided (MatchBool b (answers ≡ []) ((keys_reported answers ≡ reads) × AreTrulyReported h answers))
fit_by true h reads answers = is_nothing answers
fit_by false h reads answers = both (equal (coded_list (coded_list coded_ℕ)) (keys_reported answers) reads) (all_truly h answers)

fit : (level : Level) (h : History) (reads : List (List ℕ)) (answers : List CommittedRead) → Decided (AnswersFit level h reads answers)
fit level h reads answers = fit_by (is_comparing level) h reads answers

-- what a commit is besides the answers
abbrev IsTaken : Standing → Runner → Run → ℕ → ℕ → List Value → List TraceItem → Type 0
IsTaken s r run revision attempts output trace =
    ((run.end ≡ DoneEnd) × (run.output ≡ output) × (run.trace ≡ trace))
    × ((revision_reached (applied_run (without_moment s) run) ≡ Some revision) × (attempts ≡ r.conflicts + 1) × (attempts ≤ r.limit))

is_taken : (s : Standing) (r : Runner) (run : Run) (revision attempts : ℕ) (output : List Value) (trace : List TraceItem) →
    Decided (IsTaken s r run revision attempts output trace)
is_taken s r run revision attempts output trace =
    both
    (three (equal ends.the_row.coded run.end DoneEnd) (equal (coded_list values.the_row.coded) run.output output)
    (equal (coded_list items.the_row.coded) run.trace trace))
    (three (equal (coded_option coded_ℕ) (revision_reached (applied_run (without_moment s) run)) (Some revision))
    (equal_numbers attempts (r.conflicts + 1)) (at_most attempts r.limit))

-- a commit that is right is one of this run
is_of_run : (s : Standing) (r : Runner) (run : Run) (revision attempts : ℕ) (output : List Value) (trace : List TraceItem) (answers : List CommittedRead) →
    run_over (seen_at r.level (reads_in s.history answers) s.history) r.program.statements ≡ Ended run →
    IsRightCommit s r revision attempts output trace answers →
    AnswersFit r.level s.history (keys_first_read r.program.prefetch run.reads) answers × IsTaken s r run revision attempts output trace
is_of_run s r run revision attempts output trace answers is right =
    let has = commit_run s r revision attempts output trace answers right in
    let one : Some has.0 ≡ Some run = ap run_in (sym has.1.is_run ∙ is) in
    let same : has.0 ≡ run = cc in
    let taken : IsTakenAs s r run revision attempts output trace =
    subst (λ (x : Run). IsTakenAs s r x revision attempts output trace) same has.2 in (
      subst (λ (x : Run). AnswersFit r.level s.history (keys_first_read r.program.prefetch x.reads) answers) same has.1.answers_fit,
      ((taken.is_done, taken.emits, taken.sees), (taken.reached, taken.attempt, taken.may_be_sent)),
    )

commit_by : (s : Standing) (r : Runner) (run : Run) (revision attempts : ℕ) (output : List Value) (trace : List TraceItem) (answers : List CommittedRead) →
    run_over (seen_at r.level (reads_in s.history answers) s.history) r.program.statements ≡ Ended run →
    Decided (AnswersFit r.level s.history (keys_first_read r.program.prefetch run.reads) answers × IsTaken s r run revision attempts output trace) →
    Decided (IsRightCommit s r revision attempts output trace answers)
commit_by s r run revision attempts output trace answers is (inl (fits_level, taken)) =
    inl (right_commit s r run revision attempts output trace answers (record { is_run = is; answers_fit = fits_level }) (record {
      is_done = taken.0.0;
      emits = taken.0.1;
      sees = taken.0.2;
      reached = taken.1.0;
      attempt = taken.1.1;
      may_be_sent = taken.1.2;
    }))
commit_by s r run revision attempts output trace answers is (inr not) =
    inr (λ right. not (is_of_run s r run revision attempts output trace answers is right))

commit_of : (s : Standing) (r : Runner) (a : Answered) (revision attempts : ℕ) (output : List Value) (trace : List TraceItem) (answers : List CommittedRead) →
    run_over (seen_at r.level (reads_in s.history answers) s.history) r.program.statements ≡ a →
    Decided (IsRightCommit s r revision attempts output trace answers)
commit_of s r (Ended run) revision attempts output trace answers is =
    commit_by s r run revision attempts output trace answers is
    (both (fit r.level s.history (keys_first_read r.program.prefetch run.reads) answers) (is_taken s r run revision attempts output trace))
commit_of s r (Wants key trace) revision attempts output seen answers is =
    inr (λ right. never_wants key trace (right.commit).run (sym is ∙ (right.commit).is_run))

commit : (s : Standing) (o : Option Runner) (revision attempts : ℕ) (output : List Value) (trace : List TraceItem) (answers : List CommittedRead) →
    Decided (IsCommitOf s o revision attempts output trace answers)
commit s None revision attempts output trace answers = inr (λ never. never)
commit s (Some r) revision attempts output trace answers =
    commit_of s r (run_over (seen_at r.level (reads_in s.history answers) s.history) r.program.statements) revision attempts output trace answers refl

-- ---- replies

equal_replies : (x y : Result Reply Denied) → Decided (x ≡ y)
equal_replies x y = equal (coded_result replies.the_row.coded refused.the_row.coded) x y

start : (limit : ℕ) (replied : Result Reply Denied) → Decided (StartReplays limit replied)
start limit (Err denial) = both (equal_numbers limit 0) (equal_replies (denied BadLimit) (Err denial))
start limit other = inl tt

step : (s : Standing) (o : Option Runner) (replied : Result Reply Denied) → Decided (StepReplays s o replied)
step s o (Err denial) = both (is_absent o) (equal_replies (denied NoRunner) (Err denial))
step s o (Ok (Committed id revision attempts output trace answers)) = commit s o revision attempts output trace answers
step s o other = inl tt

call : (s : Standing) (c : Call) (replied : Result Reply Denied) → Decided (CallReplays s c replied)
call s (Watch keys from) replied = inl tt
call s (Poll watcher most) replied = inl tt
call s (Cancel watcher) replied = inl tt
call s c replied = equal_replies (called s c).reply replied

replayed : (s : Standing) (runners : List Runner) (a : Asked) (replied : Result Reply Denied) → Decided (AskedReplays s runners a replied)
replayed s runners (Starts program level limit) replied = start limit replied
replayed s runners (Steps id) replied = step s (running id runners) replied
replayed s runners (Calls c) replied = call s c replied

-- ---- lines

line_replayed : (p : Point) (event : WorldEvent) (l : ReportLine) → Decided (IsReplayed p event l)
line_replayed p event (line.Event n replied) = replayed p.standing p.runners (asked event) replied
line_replayed p event other = inr (λ never. never)

right_or_wrong : (n : ℕ) (p : Point) (event : WorldEvent) (l : ReportLine) (b : Bool) → fits n p.runners event l ≡ b →
    Decided (IsReplayed p event l) → IsRight n p event l ⊎ ((cause : WrongCause) × IsWrong n p event l cause)
right_or_wrong n p event l true is (inl right) = inl (is, right)
right_or_wrong n p event l true is (inr not) = inr (Replay, (is, not))
right_or_wrong n p event l false is said = inr (Event, is)

one_line : (n : ℕ) (p : Point) (event : WorldEvent) (l : ReportLine) → IsRight n p event l ⊎ ((cause : WrongCause) × IsWrong n p event l cause)
one_line n p event l = right_or_wrong n p event l (fits n p.runners event l) refl (line_replayed p event l)

-- ---- the lines of the end

abbrev Compared : ℕ → List ReportLine → List ReportLine → Type 0
Compared n finals lines = (lines ≡ finals) ⊎ ((wrong : ℕ) × (cause : WrongCause) × IsOff n finals lines wrong cause)

compared_after : (n : ℕ) (final l : ReportLine) (finals lines : List ReportLine) → Decided (l ≡ final) → Compared (suc n) finals lines →
    Compared n (final ∷ finals) (l ∷ lines)
compared_after n final l finals lines (inl same) (inl rest) = inl (λ i. same i ∷ rest i)
compared_after n final l finals lines (inl same) (inr (wrong, cause, off)) = inr (wrong, cause, inr (same, off))
compared_after n final l finals lines (inr not) rest = inr (n, Final, inl (refl, refl, not))

compared : (n : ℕ) (finals lines : List ReportLine) → Compared n finals lines
compared n [] [] = inl refl
compared n [] (l ∷ lines) = inr (n, Count, (refl, refl))
compared n (final ∷ finals) [] = inr (n, Count, (refl, refl))
compared n (final ∷ finals) (l ∷ lines) = compared_after n final l finals lines (equal reports.the_row.coded l final) (compared (suc n) finals lines)

-- ---- whole reports

abbrev HasJudgement : ℕ → Point → List WorldEvent → List ReportLine → Type 0
HasJudgement n p events lines = (c : Checked) × IsJudgedFrom n p events lines c

of_end : (n : ℕ) (p : Point) (lines : List ReportLine) → Compared n (final_lines p) lines → HasJudgement n p [] lines
of_end n p lines (inl same) = (Yes, same)
of_end n p lines (inr (wrong, cause, off)) = (No wrong cause, off)

of_event : (n : ℕ) (p : Point) (event : WorldEvent) (events : List WorldEvent) (l : ReportLine) (lines : List ReportLine) →
    IsRight n p event l ⊎ ((cause : WrongCause) × IsWrong n p event l cause) → HasJudgement (suc n) (after_line p event l) events lines →
    HasJudgement n p (event ∷ events) (l ∷ lines)
of_event n p event events l lines (inr (cause, wrong)) rest = (No n cause, inl (refl, wrong))
of_event n p event events l lines (inl right) (Yes, rest) = (Yes, (right, rest))
of_event n p event events l lines (inl right) (No wrong cause, rest) = (No wrong cause, inr (right, rest))

judgement : (n : ℕ) (p : Point) (events : List WorldEvent) (lines : List ReportLine) → HasJudgement n p events lines
judgement n p [] lines = of_end n p lines (compared n (final_lines p) lines)
judgement n p (event ∷ events) [] = (No n Count, (refl, refl))
judgement n p (event ∷ events) (l ∷ lines) = of_event n p event events l lines (one_line n p event l) (judgement (suc n) (after_line p event l) events lines)

pub judged_always : JudgedAlways
judged_always s r = judgement 1 (opens_at s) s.events r.lines
