-- What an attempt answers: a run that is not done, or is its job's; and that it stays an attempt of its job.
use Rattle.std.proofs.Common.{◌≡◌, ◌≢◌, ℕ, Bool, true, false, cond, List, map, None, Some, refl, sym, ◌∙◌, ap, subst}
use Rattle.stm_history.specs.declared.key_state.ReadAnswer.{ReadAnswer}
use Rattle.stm_program.specs.Syntax.{ProgramTree}
use Rattle.stm_program.specs.Limits.{Fits}
use Rattle.stm_program.specs.declared.level.Level.{Level}
use Rattle.stm_steps.specs.declared.run.End.{End}
use Rattle.stm_steps.specs.declared.run.End.TheVariants.{Done as DoneEnd, Aborted as AbortedEnd, Faulted as FaultedEnd}
use Rattle.stm_steps.specs.declared.run.Run.{Run}
use Rattle.stm_steps.specs.declared.run.Answered.{Answered}
use Rattle.stm_steps.specs.declared.run.Answered.TheVariants.{Ended, Wants}
use Rattle.stm_attempt.specs.declared.next.Next.{Next}
use Rattle.stm_attempt.specs.declared.next.Next.TheVariants.{FetchAll, Fetch, Ready, Aborted, Faulted}
use Rattle.stm_attempt.specs.AttemptState.{AttemptState, begun, advanced, supplied, supplied_all, awaited, list_awaited}
use Rattle.stm_attempt.specs.Known.{Known}
use Rattle.stm_attempt.specs.Leaving.{left_by}
use Rattle.stm_attempt.specs.ReadyRun.{ReadyRun, ready_run}
use Rattle.stm_attempt.specs.Settled.{run_on}
use Rattle.stm_attempt.specs.Entering.{is_due, gone_on}
use Rattle.stm_attempt.specs.Next.{next_at_end, next_after, next_of, key_asked, list_asked}
use Rattle.stm_outcome.specs.Commits.{AreNamed}
use Rattle.stm_attempt.proofs.EnteringLemmas.{list_named}
use Rattle.stm_job.specs.declared.job.Job.{Job}
use Rattle.stm_workers.specs.Calls.{IsOfJob, IsRunOfJob}

-- where what is next is no list, the list is not due
after_by : (program : ProgramTree) (level : Level) (reads : List ReadAnswer) (next : Next) (due : Bool) → list_asked next ≡ None →
    cond due (FetchAll program.prefetch 0) (next_after program level reads (run_on program reads)) ≡ next →
    next_after program level reads (run_on program reads) ≡ next
after_by program level reads next true no_list reported =
    let both : Some program.prefetch ≡ None = ap list_asked reported ∙ no_list in absurd (cc both)
after_by program level reads next false no_list reported = reported

next_after_list : (program : ProgramTree) (level : Level) (known : Known) (next : Next) → list_asked next ≡ None → next_of program level known ≡ next →
    next_after program level (gone_on program known) (run_on program (gone_on program known)) ≡ next
next_after_list program level known next no_list reported =
    after_by program level (gone_on program known) next (is_due program.prefetch (gone_on program known)) no_list reported

not_due_by : (program : ProgramTree) (level : Level) (reads : List ReadAnswer) (next : Next) (due : Bool) → is_due program.prefetch reads ≡ due →
    list_asked next ≡ None → cond due (FetchAll program.prefetch 0) (next_after program level reads (run_on program reads)) ≡ next →
    is_due program.prefetch reads ≡ false
not_due_by program level reads next true due no_list reported =
    let both : Some program.prefetch ≡ None = ap list_asked reported ∙ no_list in absurd (cc both)
not_due_by program level reads next false not no_list reported = not

not_due : (program : ProgramTree) (level : Level) (known : Known) (next : Next) → list_asked next ≡ None → next_of program level known ≡ next →
    is_due program.prefetch (gone_on program known) ≡ false
not_due program level known next no_list reported =
    not_due_by program level (gone_on program known) next (is_due program.prefetch (gone_on program known)) refl no_list reported

-- a run that has ended is one of an attempt that has its list
pub aborted_has_list : (program : ProgramTree) (level : Level) (known : Known) (run : Run) → next_of program level known ≡ Aborted run →
    is_due program.prefetch (gone_on program known) ≡ false
aborted_has_list program level known run reported = not_due program level known (Aborted run) refl reported

pub faulted_has_list : (program : ProgramTree) (level : Level) (known : Known) (run : Run) → next_of program level known ≡ Faulted run →
    is_due program.prefetch (gone_on program known) ≡ false
faulted_has_list program level known run reported = not_due program level known (Faulted run) refl reported

aborted_at_end : (program : ProgramTree) (level : Level) (reads : List ReadAnswer) (run aborted : Run) (end : End) → run.end ≡ end →
    next_at_end program level reads run end ≡ Aborted aborted → aborted.end ≢ DoneEnd
aborted_at_end program level reads run aborted DoneEnd ended reported = absurd (cc)
aborted_at_end program level reads run aborted (AbortedEnd text) ended reported =
    let same : run ≡ aborted = cc in subst (λ (r : Run). r.end ≢ DoneEnd) same (λ done. absurd (cc))
aborted_at_end program level reads run aborted (FaultedEnd fault) ended reported = absurd (cc)

aborted_by : (program : ProgramTree) (level : Level) (reads : List ReadAnswer) (x : Answered) (aborted : Run) →
    next_after program level reads x ≡ Aborted aborted → aborted.end ≢ DoneEnd
aborted_by program level reads (Wants k trace) aborted reported = absurd (cc)
aborted_by program level reads (Ended run) aborted reported = aborted_at_end program level reads run aborted run.end refl reported

-- a run that was aborted or has faulted is not done
pub aborted_is_not_done : (program : ProgramTree) (level : Level) (known : Known) (run : Run) → next_of program level known ≡ Aborted run → run.end ≢ DoneEnd
aborted_is_not_done program level known run reported =
    let reads : List ReadAnswer = gone_on program known in
    aborted_by program level reads (run_on program reads) run (next_after_list program level known (Aborted run) refl reported)

faulted_at_end : (program : ProgramTree) (level : Level) (reads : List ReadAnswer) (run faulted : Run) (end : End) → run.end ≡ end →
    next_at_end program level reads run end ≡ Faulted faulted → faulted.end ≢ DoneEnd
faulted_at_end program level reads run faulted DoneEnd ended reported = absurd (cc)
faulted_at_end program level reads run faulted (AbortedEnd text) ended reported = absurd (cc)
faulted_at_end program level reads run faulted (FaultedEnd fault) ended reported =
    let same : run ≡ faulted = cc in subst (λ (r : Run). r.end ≢ DoneEnd) same (λ done. absurd (cc))

faulted_by : (program : ProgramTree) (level : Level) (reads : List ReadAnswer) (x : Answered) (faulted : Run) →
    next_after program level reads x ≡ Faulted faulted → faulted.end ≢ DoneEnd
faulted_by program level reads (Wants k trace) faulted reported = absurd (cc)
faulted_by program level reads (Ended run) faulted reported = faulted_at_end program level reads run faulted run.end refl reported

pub faulted_is_not_done : (program : ProgramTree) (level : Level) (known : Known) (run : Run) → next_of program level known ≡ Faulted run → run.end ≢ DoneEnd
faulted_is_not_done program level known run reported =
    let reads : List ReadAnswer = gone_on program known in
    faulted_by program level reads (run_on program reads) run (next_after_list program level known (Faulted run) refl reported)

-- and it is the program's run on what the attempt has read
aborted_run_at : (program : ProgramTree) (level : Level) (reads : List ReadAnswer) (run aborted : Run) (end : End) →
    next_at_end program level reads run end ≡ Aborted aborted → run ≡ aborted
aborted_run_at program level reads run aborted DoneEnd reported = absurd (cc)
aborted_run_at program level reads run aborted (AbortedEnd text) reported = cc
aborted_run_at program level reads run aborted (FaultedEnd fault) reported = absurd (cc)

aborted_run : (program : ProgramTree) (level : Level) (reads : List ReadAnswer) (x : Answered) (aborted : Run) →
    next_after program level reads x ≡ Aborted aborted → x ≡ Ended aborted
aborted_run program level reads (Wants k trace) aborted reported = absurd (cc)
aborted_run program level reads (Ended run) aborted reported =
    ap (λ (r : Run). Ended r) (aborted_run_at program level reads run aborted run.end reported)

pub aborted_is_run : (program : ProgramTree) (level : Level) (known : Known) (run : Run) → next_of program level known ≡ Aborted run →
    run_on program (gone_on program known) ≡ Ended run
aborted_is_run program level known run reported =
    let reads : List ReadAnswer = gone_on program known in
    aborted_run program level reads (run_on program reads) run (next_after_list program level known (Aborted run) refl reported)

faulted_run_at : (program : ProgramTree) (level : Level) (reads : List ReadAnswer) (run faulted : Run) (end : End) →
    next_at_end program level reads run end ≡ Faulted faulted → run ≡ faulted
faulted_run_at program level reads run faulted DoneEnd reported = absurd (cc)
faulted_run_at program level reads run faulted (AbortedEnd text) reported = absurd (cc)
faulted_run_at program level reads run faulted (FaultedEnd fault) reported = cc

faulted_run : (program : ProgramTree) (level : Level) (reads : List ReadAnswer) (x : Answered) (faulted : Run) →
    next_after program level reads x ≡ Faulted faulted → x ≡ Ended faulted
faulted_run program level reads (Wants k trace) faulted reported = absurd (cc)
faulted_run program level reads (Ended run) faulted reported =
    ap (λ (r : Run). Ended r) (faulted_run_at program level reads run faulted run.end reported)

pub faulted_is_run : (program : ProgramTree) (level : Level) (known : Known) (run : Run) → next_of program level known ≡ Faulted run →
    run_on program (gone_on program known) ≡ Ended run
faulted_is_run program level known run reported =
    let reads : List ReadAnswer = gone_on program known in
    faulted_run program level reads (run_on program reads) run (next_after_list program level known (Faulted run) refl reported)

-- ---- what is ready

-- what is ready has the attempt's program and level
abbrev HasBoth : ProgramTree → Level → ReadyRun → Type 0
HasBoth program level ready = (ready.program ≡ program) × (ready.level ≡ level)

ready_at_end : (program : ProgramTree) (level : Level) (reads : List ReadAnswer) (run : Run) (ready : ReadyRun) (end : End) →
    next_at_end program level reads run end ≡ Ready ready → HasBoth program level ready
ready_at_end program level reads run ready DoneEnd reported =
    let same : ready_run program level reads run ≡ ready = cc in subst (HasBoth program level) same (refl, refl)
ready_at_end program level reads run ready (AbortedEnd text) reported = absurd (cc)
ready_at_end program level reads run ready (FaultedEnd fault) reported = absurd (cc)

ready_by : (program : ProgramTree) (level : Level) (reads : List ReadAnswer) (x : Answered) (ready : ReadyRun) →
    next_after program level reads x ≡ Ready ready → HasBoth program level ready
ready_by program level reads (Wants k trace) ready reported = absurd (cc)
ready_by program level reads (Ended run) ready reported = ready_at_end program level reads run ready run.end reported

pub ready_is_of : (job : Job) (attempt : AttemptState) (ready : ReadyRun) → IsOfJob job attempt →
    next_of job.program attempt.level attempt.known ≡ Ready ready → IsRunOfJob job ready
ready_is_of job attempt ready of reported =
    let reads : List ReadAnswer = gone_on job.program attempt.known in
    let both = ready_by job.program attempt.level reads (run_on job.program reads) ready
    (next_after_list job.program attempt.level attempt.known (Ready ready) refl reported) in
    (both.0, both.1 ∙ of.1)

-- ---- an attempt of a job

pub supplied_is_of : (job : Job) (answer : ReadAnswer) (old new : AttemptState) → new ≡ supplied answer old → IsOfJob job old → IsOfJob job new
supplied_is_of job answer old new is of = subst (IsOfJob job) (sym is) of

pub begun_is_of : (job : Job) (answers : List ReadAnswer) (new : AttemptState) → new ≡ begun job.level answers → IsOfJob job new
begun_is_of job answers new is = subst (IsOfJob job) (sym is) (tt, refl)

-- ---- what an attempt is left as by an answer

left_by_is_of : (job : Job) (old : AttemptState) (next : Next) → IsOfJob job old → IsOfJob job (left_by next (advanced job.program old))
left_by_is_of job old (Ready ready) of = (tt, of.1)
left_by_is_of job old _ of = (refl, of.1)

pub left_is_of : (job : Job) (old new : AttemptState) (next : Next) → new ≡ left_by next (advanced job.program old) → IsOfJob job old → IsOfJob job new
left_is_of job old new next left of = subst (IsOfJob job) (sym left) (left_by_is_of job old next of)

pub left_at_fetch : (old new : AttemptState) (next : Next) (key : List ℕ) (at : ℕ) → new ≡ left_by next old → next ≡ Fetch key at → new ≡ old
left_at_fetch old new next key at left is = left ∙ ap (λ (n : Next). left_by n old) is

pub left_at_list : (old new : AttemptState) (next : Next) (keys : List (List ℕ)) (at : ℕ) → new ≡ left_by next old → next ≡ FetchAll keys at → new ≡ old
left_at_list old new next keys at left is = left ∙ ap (λ (n : Next). left_by n old) is

pub left_at_abort : (old new : AttemptState) (next : Next) (run : Run) → new ≡ left_by next old → next ≡ Aborted run → new ≡ old
left_at_abort old new next run left is = left ∙ ap (λ (n : Next). left_by n old) is

pub left_at_fault : (old new : AttemptState) (next : Next) (run : Run) → new ≡ left_by next old → next ≡ Faulted run → new ≡ old
left_at_fault old new next run left is = left ∙ ap (λ (n : Next). left_by n old) is

-- the key that is fetched is the one that the attempt waits for
pub waits_for : (attempt : AttemptState) (next : Next) (key : List ℕ) (at : ℕ) (answer : ReadAnswer) → awaited attempt ≡ key_asked next →
    next ≡ Fetch key at → answer.key ≡ key → awaited attempt ≡ Some answer.key
waits_for attempt next key at answer asked is same = asked ∙ ap key_asked is ∙ ap (λ (k : List ℕ). Some k) (sym same)

-- the same of a list
pub all_supplied_is_of : (job : Job) (answers : List ReadAnswer) (old new : AttemptState) → new ≡ supplied_all answers old → IsOfJob job old →
    IsOfJob job new
all_supplied_is_of job answers old new is of = subst (IsOfJob job) (sym is) of

pub waits_for_list : (attempt : AttemptState) (next : Next) (keys : List (List ℕ)) (at : ℕ) (answers : List ReadAnswer) →
    list_awaited attempt ≡ list_asked next → next ≡ FetchAll keys at → map (λ (a : ReadAnswer). a.key) answers ≡ keys →
    list_awaited attempt ≡ Some (map (λ (a : ReadAnswer). a.key) answers)
waits_for_list attempt next keys at answers asked is same = asked ∙ ap list_asked is ∙ ap (λ (l : List (List ℕ)). Some l) (sym same)

no_list_at_end : (program : ProgramTree) (level : Level) (reads : List ReadAnswer) (run : Run) (end : End) (keys : List (List ℕ)) (at : ℕ) →
    next_at_end program level reads run end ≡ FetchAll keys at → ⊥
no_list_at_end program level reads run DoneEnd keys at reported = cc
no_list_at_end program level reads run (AbortedEnd text) keys at reported = cc
no_list_at_end program level reads run (FaultedEnd fault) keys at reported = cc

no_list_after : (program : ProgramTree) (level : Level) (reads : List ReadAnswer) (x : Answered) (keys : List (List ℕ)) (at : ℕ) →
    next_after program level reads x ≡ FetchAll keys at → ⊥
no_list_after program level reads (Wants k trace) keys at reported = cc
no_list_after program level reads (Ended run) keys at reported = no_list_at_end program level reads run run.end keys at reported

listed_by : (program : ProgramTree) (level : Level) (reads : List ReadAnswer) (keys : List (List ℕ)) (at : ℕ) (due : Bool) →
    cond due (FetchAll program.prefetch 0) (next_after program level reads (run_on program reads)) ≡ FetchAll keys at → program.prefetch ≡ keys
listed_by program level reads keys at true reported = cc
listed_by program level reads keys at false reported = absurd (no_list_after program level reads (run_on program reads) keys at reported)

-- its keys are the program's, and none of them is empty
pub list_is_named : (program : ProgramTree) (level : Level) (known : Known) (keys : List (List ℕ)) (at : ℕ) → Fits program →
    next_of program level known ≡ FetchAll keys at → AreNamed keys
list_is_named program level known keys at fits reported =
    subst AreNamed (listed_by program level (gone_on program known) keys at (is_due program.prefetch (gone_on program known)) reported)
    (list_named program fits)

-- what is taken out of an attempt that went on is what it has read then
pub reads_taken : (program : ProgramTree) (old new : AttemptState) (reads : List ReadAnswer) → new ≡ advanced program old → reads ≡ new.known.reads →
    reads ≡ gone_on program old.known
reads_taken program old new reads is taken = taken ∙ ap (λ (a : AttemptState). a.known.reads) is
