-- What a verdict counts, keeps and takes, and that a hall goes on.
use Rattle.std.proofs.Common.{◌≡◌, ℕ, zero, suc, ◌+◌, ◌-◌, ◌≤◌, ◌&&◌, ◌||◌, Bool, true, false, List, [], ◌∷◌, ◌++◌, length, drop, slice_get, cond}
use Rattle.std.proofs.Common.{Option, Some, None, Result, Ok, Err, refl, sym, ◌∙◌, ap, subst, arith, add-zero, length-append}
use Rattle.std.proofs.lemmas.List.{append-nil}
use Rattle.std.proofs.lemmas.List.Sums.{sum_by_push}
use Rattle.stm_outcome.specs.declared.refusal.Refusal.{Refusal}
use Rattle.stm_outcome.specs.declared.answer.FailedCompare.{FailedCompare}
use Rattle.stm_outcome.specs.Checks.{fault_of}
use Rattle.stm_outcome.specs.Compares.{first_failed}
use Rattle.stm_outcome.specs.Outcome.{Done, outcome}
use Rattle.stm_history.specs.History.{now, key_now}
use Rattle.stm_txn.specs.Standing.{with_history, terms_of}
use Rattle.stm_history.specs.declared.key_state.ReadAnswer.{ReadAnswer}
use Rattle.stm_program.specs.Syntax.{ProgramTree}
use Rattle.stm_program.specs.SameProgram.{same_program}
use Rattle.stm_program.specs.SameProgramLaws.{same_program-equal}
use Rattle.stm_program.specs.declared.level.Level.{Level}
use Rattle.stm_program.specs.declared.level.Level.TheVariants.{SerializableSnapshot, Serializable, RepeatableReads, ReadCommitted}
use Rattle.stm_attempt.specs.ReadyRun.{ReadyRun}
use Rattle.stm_entries.specs.declared.entry.Entry.{Entry}
use Rattle.stm_entries.specs.declared.entry.Entry.TheVariants.{Program}
use Rattle.stm_journal.specs.declared.verdict.Verdict.{Verdict}
use Rattle.stm_journal.specs.declared.refusal.CommitRefusal.{CommitRefusal}
use Rattle.stm_journal.specs.JournalState.{JournalState, JournalStep, journal_of}
use Rattle.stm_hall.specs.Locked.{StartingStore}
use Rattle.stm_hall.specs.Laws.{GoesOn}
use Rattle.stm_journal.specs.Verdicts.{txn_of, entry_of, first_unvouched, taken, taken_by_store, refused_by_store, unless_unvouched, by_compares, unless_at_fault, verdict_of}
use Rattle.stm_hall.proofs.Opening.{goes_nowhere, gone_front, goes_on_by, goes_on_twice}
use Rattle.stm_job.specs.declared.job.Job.{Job}
use Rattle.stm_workers.specs.Commits.{is_commit, commits_in, IsOfAJob, TookCommitsOf}
use Rattle.stm_workers.specs.Calls.{HasGoneOn, HasKeptStore, committed_by, same_level, is_run_of, is_run_of_some, is_of_some, are_of_jobs, takes_commits_of}
use Rattle.stm_workers.specs.Calls.{IsRunOfJob}

-- ---- a hall goes on

pub has_gone_on : (before after : JournalState) → GoesOn before after → HasGoneOn before after
has_gone_on before after g =
    (gone_front before after g, g.start, ap (λ (o : StartingStore). o.history) g.opening, λ id. ap (λ (o : StartingStore). o.is_live id) g.opening)

pub goes_on : (before after : JournalState) → HasGoneOn before after → GoesOn before after
goes_on before after g = goes_on_by before after g.0 g.1 g.2 g.3

pub goes_further : (a b c : JournalState) → HasGoneOn a b → GoesOn b c → HasGoneOn a c
goes_further a b c first then = has_gone_on a c (goes_on_twice a b c (goes_on a b first) then)

pub has_not_gone : (hall : JournalState) → HasGoneOn hall hall
has_not_gone hall = has_gone_on hall hall (goes_nowhere hall)

-- ---- what a verdict leads to

abbrev OfStep : (JournalStep Verdict → Type 0) → Result (JournalStep Verdict) CommitRefusal → Type 0
OfStep Fact (Ok step) = Fact step
OfStep Fact (Err cause) = Unit {0}

-- what holds of a commit that the store takes, and of one that fails, holds of each verdict
module _ (Fact : JournalStep Verdict → Type 0) (hall : JournalState) (ready : ReadyRun) (made : (done : Done) → OfStep Fact (refused_by_store (taken hall ready (Ok done))))
    (fails : (failed : FailedCompare) → OfStep Fact (by_compares hall ready (Some failed))) where
  of_outcome : (o : Result Done Refusal) → OfStep Fact (refused_by_store (taken hall ready o))
  of_outcome (Ok done) = made done
  of_outcome (Err cause) = tt

  of_value : (o : Option ReadAnswer) (next : Result (JournalStep Verdict) CommitRefusal) → OfStep Fact next → OfStep Fact (unless_unvouched o next)
  of_value None next is = is
  of_value (Some a) next is = tt

  of_compare : (o : Option FailedCompare) → OfStep Fact (by_compares hall ready o)
  of_compare (Some failed) = fails failed
  of_compare None =
      of_value (first_unvouched hall.standing.history ready.level ready.answers)
      (refused_by_store (taken_by_store hall ready))
      (of_outcome (outcome (terms_of hall.standing) (txn_of ready)))

  of_fault : (o : Option Refusal) (next : Result (JournalStep Verdict) CommitRefusal) → OfStep Fact next → OfStep Fact (unless_at_fault o next)
  of_fault None next is = is
  of_fault (Some cause) next is = tt

  pub of_verdict : (step : JournalStep Verdict) → verdict_of hall ready ≡ Ok step → Fact step
  of_verdict step is =
      let failed : Option FailedCompare = first_failed (key_now hall.standing.history) 0 (txn_of ready).compares in
      subst (OfStep Fact) is (of_fault (fault_of (terms_of hall.standing).limit (txn_of ready)) (by_compares hall ready failed) (of_compare failed))

-- the commits of the hall after a verdict
pub verdict_adds : (hall after : JournalState) (ready : ReadyRun) (verdict : Verdict) →
    verdict_of hall ready ≡ Ok record { answer = verdict; next = after } →
    commits_in after.entries ≡ commits_in hall.entries + committed_by verdict
verdict_adds hall after ready verdict is =
    of_verdict (λ step. commits_in step.next.entries ≡ commits_in hall.entries + committed_by step.answer) hall ready
    (λ done. sum_by_push (λ (e : Entry). cond (is_commit e) 1 0) hall.entries (entry_of ready (now done.history)))
    (λ failed. sym (add-zero (commits_in hall.entries))) (record { answer = verdict; next = after }) is

-- and its store but for the history
pub verdict_keeps : (hall after : JournalState) (ready : ReadyRun) (verdict : Verdict) → verdict_of hall ready ≡ Ok record { answer = verdict; next = after } →
    HasKeptStore hall after
verdict_keeps hall after ready verdict is =
    of_verdict (λ step. HasKeptStore hall step.next) hall ready (λ done. refl) (λ failed. refl) (record { answer = verdict; next = after }) is

pub keeps_further : (a b c : JournalState) → HasKeptStore a b → HasKeptStore b c → HasKeptStore a c
keeps_further a b c first then =
    then ∙ ap (λ (h : JournalState). journal_of (with_history h.standing c.standing.history) c.entries c.start) first

-- ---- what a verdict takes

both_parts : (a b : Bool) → (a && b) ≡ true → (a ≡ true) × (b ≡ true)
both_parts true b is = (refl, is)
both_parts false b is = absurd (cc)

both_hold : (a b : Bool) → a ≡ true → b ≡ true → (a && b) ≡ true
both_hold true b left right = right
both_hold false b left right = absurd (cc)

-- what a hall adds to its entries by a verdict on an attempt of one of the jobs: its commit, or nothing
abbrev Adds : List Job → JournalState → JournalState → Type 0
Adds jobs hall after = (more : List Entry) × (after.entries ≡ hall.entries ++ more) × (are_of_jobs jobs more ≡ true)

pub verdict_puts : (jobs : List Job) (hall after : JournalState) (ready : ReadyRun) (verdict : Verdict) → is_run_of_some jobs ready.program ready.level ≡ true →
    verdict_of hall ready ≡ Ok record { answer = verdict; next = after } → Adds jobs hall after
verdict_puts jobs hall after ready verdict of is =
    of_verdict (λ step. Adds jobs hall step.next) hall ready
    (λ done. (entry_of ready (now done.history) ∷ [], refl, ap (λ (b : Bool). b && true) of)) (λ failed. ([], sym (append-nil hall.entries), refl))
    (record { answer = verdict; next = after }) is

-- ---- entries after others

all_of_both : (jobs : List Job) (xs ys : List Entry) → are_of_jobs jobs xs ≡ true → are_of_jobs jobs ys ≡ true → are_of_jobs jobs (xs ++ ys) ≡ true
all_of_both jobs [] ys left right = right
all_of_both jobs (x ∷ xs) ys left right =
    let parts = both_parts (is_of_some jobs x) (are_of_jobs jobs xs) left in
    both_hold (is_of_some jobs x) (are_of_jobs jobs (xs ++ ys)) parts.0 (all_of_both jobs xs ys parts.1 right)

drop_front : (n : ℕ) (xs ys : List Entry) → n ≤ length xs → drop n (xs ++ ys) ≡ drop n xs ++ ys
drop_front zero xs ys low = refl
drop_front (suc n) [] ys low = absurd (omega arith)
drop_front (suc n) (x ∷ xs) ys low = drop_front n xs ys (omega arith)

drop_whole : (xs : List Entry) → drop (length xs) xs ≡ []
drop_whole [] = refl
drop_whole (x ∷ xs) = drop_whole xs

more_taken : (jobs : List Job) (n : ℕ) (old more new : List Entry) → n ≤ length old → are_of_jobs jobs (drop n old) ≡ true → new ≡ old ++ more →
    are_of_jobs jobs more ≡ true → are_of_jobs jobs (drop n new) ≡ true
more_taken jobs n old more new low so_far is then =
    ap (λ (l : List Entry). are_of_jobs jobs (drop n l)) is
    ∙ ap (λ (l : List Entry). are_of_jobs jobs l) (drop_front n old more low)
    ∙ all_of_both jobs (drop n old) more so_far then

no_shorter : (before after : JournalState) → GoesOn before after → length before.entries ≤ length after.entries
no_shorter before after g =
    let long : length after.entries ≡ length (before.entries ++ g.more) = ap (λ (l : List Entry). length l) g.entries in
    let sum : length (before.entries ++ g.more) ≡ length before.entries + length g.more = length-append before.entries g.more in
    omega (arith, long, sum)

-- a hall that took commits of these jobs alone has taken no other after a verdict on an attempt of one of them
pub verdict_takes : (jobs : List Job) (before old new : JournalState) (ready : ReadyRun) (verdict : Verdict) → HasGoneOn before old →
    takes_commits_of jobs before old ≡ true → is_run_of_some jobs ready.program ready.level ≡ true →
    verdict_of old ready ≡ Ok record { answer = verdict; next = new } → takes_commits_of jobs before new ≡ true
verdict_takes jobs before old new ready verdict gone takes of is =
    let adds = verdict_puts jobs old new ready verdict of is in
    more_taken jobs (length before.entries) old.entries adds.0 new.entries (no_shorter before old (goes_on before old gone)) takes adds.1 adds.2

pub same_takes : (jobs : List Job) (before old new : JournalState) → new ≡ old → takes_commits_of jobs before old ≡ true → takes_commits_of jobs before new ≡ true
same_takes jobs before old new same takes = ap (λ (h : JournalState). takes_commits_of jobs before h) same ∙ takes

-- ---- the same, entry by entry

same_levels : (a b : Level) → same_level a b ≡ true → a ≡ b
same_levels SerializableSnapshot SerializableSnapshot is = refl
same_levels SerializableSnapshot Serializable is = absurd (cc)
same_levels SerializableSnapshot RepeatableReads is = absurd (cc)
same_levels SerializableSnapshot ReadCommitted is = absurd (cc)
same_levels Serializable SerializableSnapshot is = absurd (cc)
same_levels Serializable Serializable is = refl
same_levels Serializable RepeatableReads is = absurd (cc)
same_levels Serializable ReadCommitted is = absurd (cc)
same_levels RepeatableReads SerializableSnapshot is = absurd (cc)
same_levels RepeatableReads Serializable is = absurd (cc)
same_levels RepeatableReads RepeatableReads is = refl
same_levels RepeatableReads ReadCommitted is = absurd (cc)
same_levels ReadCommitted SerializableSnapshot is = absurd (cc)
same_levels ReadCommitted Serializable is = absurd (cc)
same_levels ReadCommitted RepeatableReads is = absurd (cc)
same_levels ReadCommitted ReadCommitted is = refl

level_itself : (a : Level) → same_level a a ≡ true
level_itself SerializableSnapshot = refl
level_itself _ = refl

-- some job has the program and the level
abbrev SomeJob : List Job → ProgramTree → Level → Type 0
SomeJob jobs program level = (place : ℕ) × (job : Job) × (slice_get jobs place ≡ Some job) × (program ≡ job.program) × (level ≡ job.level)

one_later : (job : Job) (jobs : List Job) (program : ProgramTree) (level : Level) → SomeJob jobs program level → SomeJob (job ∷ jobs) program level
one_later job jobs program level some = (suc some.0, some.1, some.2, some.3, some.4)

some_job : (jobs : List Job) (program : ProgramTree) (level : Level) → is_run_of_some jobs program level ≡ true → SomeJob jobs program level
some_job [] program level is = absurd (cc)
some_job (job ∷ jobs) program level is = by_first (is_run_of program level job) refl (some_job jobs program level)
  where
    by_first : (b : Bool) → is_run_of program level job ≡ b → (is_run_of_some jobs program level ≡ true → SomeJob jobs program level) →
        SomeJob (job ∷ jobs) program level
    by_first true own later =
        let parts = both_parts (same_program program job.program) (same_level level job.level) own in
        (zero, job, refl, (same_program-equal program job.program).0 parts.0, same_levels level job.level parts.1)
    by_first false own later =
        one_later job jobs program level (later (sym (ap (λ (b : Bool). b || is_run_of_some jobs program level) own) ∙ is))

entry_of_a_job : (jobs : List Job) (entry : Entry) → is_of_some jobs entry ≡ true → IsOfAJob jobs entry
entry_of_a_job jobs (Program program level answers output trace revision) is = some_job jobs program level is
entry_of_a_job jobs _ is = absurd (cc)

same_entry : (x y : Entry) → Some x ≡ Some y → x ≡ y
same_entry x y is = ap (entry_or x) is
  where
    entry_or : Entry → Option Entry → Entry
    entry_or other None = other
    entry_or other (Some e) = e

all_there : (jobs : List Job) (xs : List Entry) (k : ℕ) (entry : Entry) → are_of_jobs jobs xs ≡ true → slice_get xs k ≡ Some entry →
    is_of_some jobs entry ≡ true
all_there jobs [] k entry all at = absurd (cc)
all_there jobs (x ∷ xs) zero entry all at =
    let parts = both_parts (is_of_some jobs x) (are_of_jobs jobs xs) all in
    ap (λ (e : Entry). is_of_some jobs e) (sym (same_entry x entry at)) ∙ parts.0
all_there jobs (x ∷ xs) (suc k) entry all at =
    let parts = both_parts (is_of_some jobs x) (are_of_jobs jobs xs) all in
    all_there jobs xs k entry parts.1 at

beyond : (n k : ℕ) (xs : List Entry) → slice_get (drop n xs) k ≡ slice_get xs (n + k)
beyond zero k xs = let e : k ≡ zero + k = omega arith in ap (λ (m : ℕ). slice_get xs m) e
beyond (suc n) k [] = refl
beyond (suc n) k (x ∷ xs) = let e : suc n + k ≡ suc (n + k) = omega arith in beyond n k xs ∙ ap (λ (m : ℕ). slice_get (x ∷ xs) m) (sym e)

pub took_commits : (jobs : List Job) (before after : JournalState) → takes_commits_of jobs before after ≡ true → TookCommitsOf jobs before after
took_commits jobs before after takes index entry behind at =
    let n : ℕ = length before.entries in
    let k : n + (index - n) ≡ index = omega (arith, behind) in
    entry_of_a_job jobs entry
    (all_there jobs (drop n after.entries) (index - n) entry takes
    (beyond n (index - n) after.entries ∙ ap (λ (m : ℕ). slice_get after.entries m) k ∙ at))

-- a run that took nothing took no other
pub took_nothing : (jobs : List Job) (hall : JournalState) → TookCommitsOf jobs hall hall
took_nothing jobs hall = took_commits jobs hall hall (ap (λ (l : List Entry). are_of_jobs jobs l) (drop_whole hall.entries))

-- a job of the list is one of it
pub job_of_some : (jobs : List Job) (place : ℕ) (job : Job) → slice_get jobs place ≡ Some job → is_run_of_some jobs job.program job.level ≡ true
job_of_some [] place job at = absurd (cc)
job_of_some (first ∷ jobs) zero job at =
    let itself : is_run_of job.program job.level job ≡ true =
    both_hold (same_program job.program job.program) (same_level job.level job.level) ((same_program-equal job.program job.program).1 refl)
    (level_itself job.level) in
    ap (λ (j : Job). is_run_of job.program job.level j || is_run_of_some jobs job.program job.level) (same_job first job at)
    ∙ ap (λ (b : Bool). b || is_run_of_some jobs job.program job.level) itself
  where
    job_or : Job → Option Job → Job
    job_or other None = other
    job_or other (Some j) = j

    same_job : (x y : Job) → Some x ≡ Some y → x ≡ y
    same_job x y is = ap (job_or x) is
job_of_some (first ∷ jobs) (suc k) job at =
    or_later (is_run_of job.program job.level first) (is_run_of_some jobs job.program job.level) (job_of_some jobs k job at)
  where
    or_later : (a b : Bool) → b ≡ true → (a || b) ≡ true
    or_later true b is = refl
    or_later false b is = is

-- what is ready is a run of a job of the list
pub ready_of_some : (jobs : List Job) (job : Job) (ready : ReadyRun) → IsRunOfJob job ready → is_run_of_some jobs job.program job.level ≡ true →
    is_run_of_some jobs ready.program ready.level ≡ true
ready_of_some jobs job ready is of =
    ap (λ (p : ProgramTree). is_run_of_some jobs p ready.level) is.0 ∙ ap (λ (l : Level). is_run_of_some jobs job.program l) is.1 ∙ of

-- ---- what lies under the lock

pub same_gone : (before old new : JournalState) → new ≡ old → HasGoneOn before old → HasGoneOn before new
same_gone before old new same gone = subst (HasGoneOn before) (sym same) gone

pub same_count : (before old new : JournalState) (total : ℕ) → new ≡ old → commits_in old.entries ≡ commits_in before.entries + total →
    commits_in new.entries ≡ commits_in before.entries + total
same_count before old new total same counted = ap (λ (h : JournalState). commits_in h.entries) same ∙ counted

pub same_kept : (before old new : JournalState) → new ≡ old → HasKeptStore before old → HasKeptStore before new
same_kept before old new same kept = subst (HasKeptStore before) (sym same) kept

-- what a verdict adds to the hall is what it adds to the book
pub adds_up : (before old new total later added : ℕ) → new ≡ old + added → old ≡ before + total → later ≡ total + added → new ≡ before + later
adds_up before old new total later added more counted booked = omega (arith, more, counted, booked)

-- it begins as the hall was handed in
pub begins : (jobs : List Job) (before hall : JournalState) (total : ℕ) → hall ≡ before → total ≡ 0 →
    HasGoneOn before hall × HasKeptStore before hall × (takes_commits_of jobs before hall ≡ true)
    × (commits_in hall.entries ≡ commits_in before.entries + total)
begins jobs before hall total same none = (
  subst (HasGoneOn before) (sym same) (has_not_gone before),
  subst (HasKeptStore before) (sym same) (refl {a = before}),
  ap (λ (h : JournalState). takes_commits_of jobs before h) same ∙ ap (λ (l : List Entry). are_of_jobs jobs l) (drop_whole before.entries),
  ap (λ (h : JournalState). commits_in h.entries) same ∙ sym (add-zero (commits_in before.entries)) ∙ ap (λ n. commits_in before.entries + n) (sym none),
)
