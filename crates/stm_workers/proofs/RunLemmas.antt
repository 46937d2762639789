-- What a run of jobs comes to.
use Rattle.std.proofs.Common.{◌≡◌, ℕ, ◌+◌, ◌<◌, true, List, length, count_by, Result, Ok, IfOk, refl, sym, ◌∙◌, ap, subst}
use Rattle.stm_job.specs.declared.drawing.table.JobSeat.{JobSeat}
use Rattle.stm_job.specs.declared.drawing.view.Size.{Size}
use Rattle.stm_journal.specs.JournalState.{JournalState}
use Rattle.stm_workers.specs.declared.start_point.StartPoint.{StartPoint}
use Rattle.stm_job.specs.declared.job.Job.{Job}
use Rattle.stm_job.specs.declared.job_end.JobEnd.{JobEnd}
use Rattle.stm_job.specs.declared.gathered.FaultCause.{FaultCause}
use Rattle.stm_job.specs.declared.gathered.FaultCause.TheVariants.{OutOfMemory, Spawn, Audit}
use Rattle.stm_workers.specs.Ends.{start_point, AllStand, StandsAt}
use Rattle.stm_job.specs.Ends.{is_committed}
use Rattle.stm_workers.specs.Commits.{commits_in, TookCommitsOf}
use Rattle.stm_workers.specs.Drawn.{HasDrawnAll}
use Rattle.stm_workers.specs.Runs.{HaveTheirRuns}
use Rattle.stm_workers.specs.Gathered.{RanTo, IsAtFault, OnAudit, BrokeOff}
use Rattle.stm_workers.specs.declared.thread_fault.ThreadFault.{ThreadFault}
use Rattle.stm_workers.specs.declared.thread_fault.ThreadFault.TheVariants.{OutOfMemory as NoMemory, Spawn as NoThread}
use Rattle.stm_workers.specs.Causes.{cause_of}
use Rattle.stm_workers.specs.Calls.{HasGoneOn, HasKeptStore, takes_commits_of}
use Rattle.stm_workers.proofs.LockedLemmas.{goes_on, has_not_gone, took_commits, took_nothing}

-- the ends were gathered, and each stands
pub ran_to : (before after : JournalState) (jobs : List Job) (ends : List JobEnd) (lost : List (List (List ℕ))) (begun : StartPoint) (committed : ℕ) →
    begun ≡ start_point before → HasGoneOn before after → HasKeptStore before after → TookCommitsOf jobs before after →
    (length ends ≡ length jobs) × (length lost ≡ length jobs) → commits_in after.entries ≡ commits_in before.entries + count_by is_committed ends →
    committed ≡ count_by is_committed ends → AllStand begun after jobs ends → HaveTheirRuns before jobs ends lost →
    RanTo before jobs ends lost committed after
ran_to before after jobs ends lost begun committed began gone kept takes places commits counted stand ran = record {
  places = places.0;
  attempted = places.1;
  counted = counted;
  commits = commits ∙ ap (λ (n : ℕ). commits_in before.entries + n) (sym counted);
  stand = subst (λ (b : StartPoint). AllStand b after jobs ends) began stand;
  ran = ran;
  takes = takes;
  goes_on = goes_on before after gone;
  keeps = kept;
}

-- a run that was broken off
pub broke_off : (before after : JournalState) (jobs : List Job) (cause : FaultCause) (ends : List JobEnd) → HasGoneOn before after → HasKeptStore before after →
    TookCommitsOf jobs before after → OnAudit cause (IsAtFault before jobs ends after) → BrokeOff before jobs cause ends after
broke_off before after jobs cause ends gone kept takes fault =
    record { at_fault = fault; takes = takes; goes_on = goes_on before after gone; keeps = kept }

-- the cause of threads that were given up is no audit
no_audit : (lost : ThreadFault) (fact : ℕ → Type 0) → OnAudit (cause_of lost) fact
no_audit NoMemory fact = tt
no_audit NoThread fact = tt

pub given_up : (before after reported : JournalState) (jobs : List Job) (lost : ThreadFault) (cause : FaultCause) (ends : List JobEnd) → HasGoneOn before after →
    HasKeptStore before after → TookCommitsOf jobs before after → reported ≡ after → cause ≡ cause_of lost → BrokeOff before jobs cause ends reported
given_up before after reported jobs lost cause ends gone kept takes same is =
    subst (λ (h : JournalState). BrokeOff before jobs cause ends h) (sym same)
    (broke_off before after jobs cause ends gone kept takes
    (subst (λ (c : FaultCause). OnAudit c (IsAtFault before jobs ends after)) (sym is) (no_audit lost (IsAtFault before jobs ends after))))

-- or before it began
pub broke_off_early : (before reported : JournalState) (jobs : List Job) (cause : FaultCause) (ends : List JobEnd) → reported ≡ before → cause ≡ OutOfMemory →
    BrokeOff before jobs cause ends reported
broke_off_early before reported jobs cause ends same is =
    subst (λ (c : FaultCause). BrokeOff before jobs c ends reported) (sym is)
    (subst (λ (h : JournalState). BrokeOff before jobs OutOfMemory ends h) (sym same)
    (broke_off before before jobs OutOfMemory ends (has_not_gone before) (refl {a = before}) (took_nothing jobs before) tt))

-- the end of this job does not stand
began_there : (before after : JournalState) (jobs : List Job) (ends : List JobEnd) (begun : StartPoint) (cause : FaultCause) → begun ≡ start_point before →
    OnAudit cause (λ (job : ℕ). (job < length jobs) × (length ends ≡ length jobs) × (StandsAt begun after jobs ends job → ⊥)) →
    OnAudit cause (IsAtFault before jobs ends after)
began_there before after jobs ends begun OutOfMemory began reported = tt
began_there before after jobs ends begun Spawn began reported = tt
began_there before after jobs ends begun (Audit job) began reported =
    (reported.0, reported.1, subst (λ (b : StartPoint). StandsAt b after jobs ends job → ⊥) began reported.2)

pub fault_found : (before after reported : JournalState) (jobs : List Job) (ends : List JobEnd) (begun : StartPoint) (cause : FaultCause) →
    begun ≡ start_point before → HasGoneOn before after → HasKeptStore before after → TookCommitsOf jobs before after → reported ≡ after →
    OnAudit cause (λ (job : ℕ). (job < length jobs) × (length ends ≡ length jobs) × (StandsAt begun after jobs ends job → ⊥)) →
    BrokeOff before jobs cause ends reported
fault_found before after reported jobs ends begun cause began gone kept takes same fault =
    subst (λ (h : JournalState). BrokeOff before jobs cause ends h) (sym same)
    (broke_off before after jobs cause ends gone kept takes (began_there before after jobs ends begun cause began fault))

-- ---- one run

-- the hall that was handed in is the one that the run is of
pub gone_from : (hall before after : JournalState) → hall ≡ before → HasGoneOn before after → HasGoneOn hall after
gone_from hall before after same gone = subst (λ (h : JournalState). HasGoneOn h after) (sym same) gone

pub kept_from : (hall before after : JournalState) → hall ≡ before → HasKeptStore before after → HasKeptStore hall after
kept_from hall before after same kept = subst (λ (h : JournalState). HasKeptStore h after) (sym same) kept

-- and the jobs are the run's
pub taken_from : (jobs its : List Job) (hall before after : JournalState) → jobs ≡ its → hall ≡ before → takes_commits_of its before after ≡ true →
    TookCommitsOf jobs hall after
taken_from jobs its hall before after are same takes =
    took_commits jobs hall after
    (ap (λ (js : List Job). takes_commits_of js hall after) are ∙ ap (λ (h : JournalState). takes_commits_of its h after) same ∙ takes)

-- it has the commits that it had, and one for each end that is one
pub run_commits : (hall before after : JournalState) (amount reported counted : ℕ) → hall ≡ before →
    commits_in after.entries ≡ commits_in before.entries + amount → amount ≡ reported → counted ≡ reported →
    commits_in after.entries ≡ commits_in hall.entries + counted
run_commits hall before after amount reported counted same closed shared sorted =
    closed
    ∙ ap (λ (h : JournalState). commits_in h.entries + amount) (sym same)
    ∙ ap (λ (n : ℕ). commits_in hall.entries + n) (shared ∙ sym sorted)

-- ---- what the audit says

-- it clears the ends, which it was shown
pub all_clear : (begun : StartPoint) (hall : JournalState) (jobs : List Job) (shown ends : List JobEnd) → shown ≡ ends → AllStand begun hall jobs shown →
    AllStand begun hall jobs ends
all_clear begun hall jobs shown ends same clear = subst (λ (es : List JobEnd). AllStand begun hall jobs es) same clear

-- it names a job that is at fault, of the ends that are handed back
reported_of : (begun : StartPoint) (hall : JournalState) (jobs : List Job) (ends : List JobEnd) (cause : FaultCause) → length ends ≡ length jobs →
    OnAudit cause (λ (job : ℕ). (job < length jobs) × (StandsAt begun hall jobs ends job → ⊥)) →
    OnAudit cause (λ (job : ℕ). (job < length jobs) × (length ends ≡ length jobs) × (StandsAt begun hall jobs ends job → ⊥))
reported_of begun hall jobs ends OutOfMemory places fault = tt
reported_of begun hall jobs ends Spawn places fault = tt
reported_of begun hall jobs ends (Audit job) places fault = (fault.0, places, fault.1)

pub at_fault : (begun : StartPoint) (hall : JournalState) (jobs : List Job) (shown ends given : List JobEnd) (cause reported : FaultCause) → shown ≡ ends →
    given ≡ ends → reported ≡ cause → length ends ≡ length jobs →
    OnAudit cause (λ (job : ℕ). (job < length jobs) × (StandsAt begun hall jobs shown job → ⊥)) →
    OnAudit reported (λ (job : ℕ). (job < length jobs) × (length given ≡ length jobs) × (StandsAt begun hall jobs given job → ⊥))
at_fault begun hall jobs shown ends given cause reported same are is places fault =
    let its : OnAudit cause (λ (job : ℕ). (job < length jobs) × (StandsAt begun hall jobs ends job → ⊥)) =
    subst (λ (es : List JobEnd). OnAudit cause (λ (job : ℕ). (job < length jobs) × (StandsAt begun hall jobs es job → ⊥))) same fault in
    subst (λ (c : FaultCause). OnAudit c (λ (job : ℕ). (job < length jobs) × (length given ≡ length jobs) × (StandsAt begun hall jobs given job → ⊥))) (sym is)
    (subst (λ (es : List JobEnd). OnAudit cause (λ (job : ℕ). (job < length jobs) × (length es ≡ length jobs) × (StandsAt begun hall jobs es job → ⊥))) (sym are)
    (reported_of begun hall jobs ends cause places its))

-- ---- what was gathered, in its own words

-- what holds at `Ok` of an outcome holds of it
pub at_ok : {A E : Type 0} (P : A → Type 0) (outcome : Result A E) (made : A) → outcome ≡ Ok made → IfOk outcome P → P made
at_ok {A} {E} P outcome made is holds = subst (λ (r : Result A E). IfOk r P) is holds

-- the same run, by the hall, the ends and the keys that were gathered
pub ran_on : (before after reported : JournalState) (jobs : List Job) (ends given : List JobEnd) (lost noted : List (List (List ℕ))) (committed : ℕ) → reported ≡ after →
    given ≡ ends → noted ≡ lost → RanTo before jobs ends lost committed after → RanTo before jobs given noted committed reported
ran_on before after reported jobs ends given lost noted committed same are were ran =
    subst (λ (h : JournalState). RanTo before jobs given noted committed h) (sym same)
    (subst (λ (es : List JobEnd). RanTo before jobs es noted committed after) (sym are)
    (subst (λ (ks : List (List (List ℕ))). RanTo before jobs ends ks committed after) (sym were) ran))

-- the seat that is handed back is the one that has drawn the jobs
pub seat_handed : (size : Size) (seat given : JobSeat) → given ≡ seat → HasDrawnAll size seat → HasDrawnAll size given
seat_handed size seat given same all = subst (λ (s : JobSeat). HasDrawnAll size s) (sym same) all
