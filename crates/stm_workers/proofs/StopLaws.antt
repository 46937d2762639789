-- The law of jobs that aborted or came to a fault.
use Rattle.std.proofs.Common.{◌≡◌, inl, inr, ℕ, ◌<◌, true, List, [], ◌∷◌, Option, Some, None, refl, sym, ◌∙◌, ap, subst}
use Rattle.std.proofs.Math.Logic.{∥∥₁_elim}
use Rattle.std.specs.Coded.{Coded-set}
use Rattle.std.specs.List.{AllByRecursion}
use Rattle.std.proofs.lemmas.List.Elements.{All-from_recursion}
use mathlib.Core.HLevel.{⊥_prop}
use Rattle.stm_history.specs.declared.key_state.ReadAnswer.{ReadAnswer}
use Rattle.stm_history.specs.History.{History}
use Rattle.stm_program.specs.Syntax.{ProgramTree}
use Rattle.stm_steps.specs.contracts.run.End as ends
use Rattle.stm_steps.specs.declared.run.End.{End}
use Rattle.stm_steps.specs.declared.run.End.TheVariants.{Aborted as AbortedEnd, Faulted as FaultedEnd}
use Rattle.stm_steps.specs.declared.run.Run.{Run}
use Rattle.stm_steps.specs.declared.run.Answered.{Answered}
use Rattle.stm_steps.specs.declared.run.Answered.TheVariants.{Ended as EndedRun, Wants}
use Rattle.stm_meaning.specs.Laws.{IsContinuedBy}
use Rattle.stm_meaning.specs.Meaning.{run_over}
use Rattle.stm_compile.specs.Answers.{state_as_of, AreTrue}
use Rattle.stm_program.specs.Levels.{is_serializable}
use Rattle.stm_compile.proofs.AgreeLemmas.{answers_of_one_revision}
use Rattle.stm_attempt.specs.Settled.{run_on}
use Rattle.stm_journal.specs.declared.refusal.FetchRefusal.{FetchRefusal}
use Rattle.stm_journal.specs.declared.refusal.CommitRefusal.{CommitRefusal}
use Rattle.stm_journal.specs.declared.verdict.Verdict.{Verdict}
use Rattle.stm_journal.specs.declared.verdict.Verdict.TheVariants.{Committed, Failed}
use Rattle.stm_journal.specs.JournalState.{JournalState}
use Rattle.stm_hall.specs.Showing.{AreShownAt}
use Rattle.stm_workers.specs.declared.start_point.StartPoint.{StartPoint}
use Rattle.stm_job.specs.declared.job.Job.{Job}
use Rattle.stm_job.specs.declared.job_end.JobEnd.{JobEnd}
use Rattle.stm_job.specs.declared.job_end.JobEnd.TheVariants.{Aborted as AbortedJob, Faulted as FaultedJob}
use Rattle.stm_workers.specs.declared.stop.Stop.{Stop}
use Rattle.stm_workers.specs.declared.stop.Stop.TheVariants.{OutOfMemory}
use Rattle.stm_workers.specs.Ends.{start_point, AreOfOneState, IsBorneOut}
use Rattle.stm_workers.specs.Attempts.{JobState, end_reported, reads_reported, fetch_refusal_reported, commit_refusal_reported, job_end_reported, end_after}
use Rattle.stm_workers.specs.Attempts.{IsStop, HasCome, HasSomeRun}
use Rattle.stm_workers.specs.Stops.{IsEndAlone, OnStop, StopsAreOfOneState}
use Rattle.stm_workers.proofs.EndLaws.{there, within}

-- ---- the run on what was read

all_show : (h : History) (r : ℕ) (reads : List ReadAnswer) → AreShownAt h r reads → AllByRecursion (λ (a : ReadAnswer). a.of_rev ≡ r) reads
all_show h r [] shown = tt
all_show h r (a ∷ reads) shown = (shown.0.0, all_show h r reads shown.1)

all_true : (h : History) (r : ℕ) (reads : List ReadAnswer) → AreShownAt h r reads → AreTrue h reads
all_true h r [] shown = tt
all_true h r (a ∷ reads) shown = (shown.0.1.1, all_true h r reads shown.1)

-- it is the run on the state there
run_alone : (h : History) (r : ℕ) (program : ProgramTree) (reads : List ReadAnswer) (run : Run) → AreShownAt h r reads → run_on program reads ≡ EndedRun run →
    run_over (state_as_of h r) program.statements ≡ EndedRun run
run_alone h r program reads run shown is =
    subst (λ (x : Answered). IsContinuedBy x (run_over (state_as_of h r) program.statements)) is
    (answers_of_one_revision h r reads program.statements (all_true h r reads shown)
    (All-from_recursion (λ (a : ReadAnswer). a.of_rev ≡ r) reads (all_show h r reads shown)))

-- ---- the run that a stop reports

-- a run comes to an end
abbrev RunsTo : Answered → End → Type 0
RunsTo x end = (run : Run) × (x ≡ EndedRun run) × (run.end ≡ end)

some_of : {A : Type 0} (x y : A) → Some x ≡ Some y → x ≡ y
some_of {A} x y is = ap (value_or x) is
  where
    value_or : A → Option A → A
    value_or other None = other
    value_or other (Some a) = a

-- what reports an end reports no refusal
no_fetch : (stop : Stop) (end : End) (cause : FetchRefusal) → end_reported stop ≡ Some end → fetch_refusal_reported stop ≡ Some cause → ⊥
no_fetch OutOfMemory end cause reports reported = absurd (cc)
no_fetch _ end cause reports reported = absurd (cc)

no_commit : (stop : Stop) (end : End) (cause : CommitRefusal) → end_reported stop ≡ Some end → commit_refusal_reported stop ≡ Some cause → ⊥
no_commit OutOfMemory end cause reports reported = absurd (cc)
no_commit _ end cause reports reported = absurd (cc)

by_stop : (handed : JournalState) (job : Job) (at : JobState) (stop : Stop) (reads : List ReadAnswer) (end : End) → end_reported stop ≡ Some end →
    reads_reported stop ≡ Some reads →
    IsStop handed job at stop → RunsTo (run_on job.program reads) end
by_stop handed job at stop reads end reports on (inl ended) = (
  ended.run,
  subst (λ (rs : List ReadAnswer). run_on job.program rs ≡ EndedRun ended.run) (some_of _ _ (sym ended.reads ∙ on)) ended.is_run,
  some_of _ _ (sym ended.reported ∙ reports),
)
by_stop handed job at stop reads end reports on (inr (inl (inl refused))) = absurd (no_fetch stop end refused.refused.cause reports refused.refused.reported)
by_stop handed job at stop reads end reports on (inr (inl (inr refused))) = absurd (no_fetch stop end refused.refused.cause reports refused.refused.reported)
by_stop handed job at stop reads end reports on (inr (inr refused)) = absurd (no_commit stop end refused.refused.cause reports refused.refused.reported)

-- ---- the run that an end of a job reports

-- what an end reports of a run
abbrev reported_end : JobEnd → Option End
reported_end (AbortedJob text reads) = Some (AbortedEnd text)
reported_end (FaultedJob fault reads) = Some (FaultedEnd fault)
reported_end _ = None

abbrev reported_reads : JobEnd → Option (List ReadAnswer)
reported_reads (AbortedJob text reads) = Some reads
reported_reads (FaultedJob fault reads) = Some reads
reported_reads _ = None

-- a verdict reports none
not_by_verdict : (verdict : Verdict) (end : End) → reported_end (end_after verdict) ≡ Some end → ⊥
not_by_verdict (Committed index revision) end reported = absurd (cc)
not_by_verdict (Failed key seen modified answers) end reported = absurd (cc)

-- a stop reports what its end does
same_reported : (stop : Stop) (job_end : JobEnd) → job_end_reported stop ≡ Some job_end → (end_reported stop ≡ reported_end job_end) × (reads_reported stop ≡ reported_reads job_end)
same_reported OutOfMemory job_end reported = absurd (cc)
same_reported _ job_end reported =
    let same = some_of _ _ reported in (ap reported_end same, ap reported_reads same)

by_come : (handed : JournalState) (job : Job) (seen : ℕ) (job_end : JobEnd) (after : ℕ) (lost : List (List ℕ)) (end : End) (reads : List ReadAnswer) →
    reported_end job_end ≡ Some end →
    reported_reads job_end ≡ Some reads → HasCome handed job seen job_end after lost → RunsTo (run_on job.program reads) end
by_come handed job seen job_end after lost end reads reports on (inl came) =
    absurd (not_by_verdict came.then_is.verdict end (sym (ap reported_end came.then_is.reported) ∙ reports))
by_come handed job seen job_end after lost end reads reports on (inr came) =
    let same = same_reported came.then_is.stop job_end came.then_is.reported in
    by_stop handed job came.then_is.stopped.at came.then_is.stop reads end (same.0 ∙ reports) (same.1 ∙ on) came.then_is.stopped.is_stop

-- a run that is known to be there is there: it is the one that the program has
the_run : {A : Type 0} (x : Answered) (end : End) → ∥ A ∥₁ → (A → RunsTo x end) → RunsTo x end
the_run {A} (Wants key trace) end some is = absurd (∥∥₁_elim some ⊥_prop (λ (a : A). none (is a).0 (is a).1))
  where
    none : (run : Run) → Wants key trace ≡ EndedRun run → ⊥
    none run reported = absurd (cc)
the_run {A} (EndedRun own) end some is = (own, refl, ∥∥₁_elim some (Coded-set ends.the_row.coded own.end end) (λ (a : A). same (is a)))
  where
    same : RunsTo (EndedRun own) end → own.end ≡ end
    same reported = let one : own ≡ reported.0 = run_of own reported.0 reported.1 in ap (λ (r : Run). r.end) one ∙ reported.2
      where
        run_or : Run → Answered → Run
        run_or other (EndedRun r) = r
        run_or other (Wants key trace) = other

        run_of : (x y : Run) → EndedRun x ≡ EndedRun y → x ≡ y
        run_of x y reported = ap (run_or x) reported

runs_to : (handed : JournalState) (job : Job) (job_end : JobEnd) (lost : List (List ℕ)) (end : End) (reads : List ReadAnswer) → reported_end job_end ≡ Some end →
    reported_reads job_end ≡ Some reads → HasSomeRun handed job job_end lost → RunsTo (run_on job.program reads) end
runs_to handed job job_end lost end reads reports on some =
    the_run (run_on job.program reads) end some (λ came. by_come handed job came.0 job_end came.1 lost end reads reports on came.2)

-- ---- the law

-- the run on reads of one state
ends_alone : (begun : StartPoint) (hall : JournalState) (job : Job) (reads : List ReadAnswer) (end : End) → AreOfOneState begun hall reads →
    RunsTo (run_on job.program reads) end → IsEndAlone begun hall job end
ends_alone begun hall job reads end one ran = record {
  revision = one.revision;
  begins = one.begins;
  reached = one.reached;
  run = ran.0;
  alone = run_alone hall.standing.history one.revision job.program reads ran.0 one.shown ran.1;
  ends = ran.2;
}

on_stop : (handed : JournalState) (begun : StartPoint) (hall : JournalState) (job : Job) (job_end : JobEnd) (lost : List (List ℕ)) → is_serializable job.level ≡ true →
    HasSomeRun handed job job_end lost → IsBorneOut begun hall job job_end → OnStop job_end (IsEndAlone begun hall job)
on_stop handed begun hall job (AbortedJob text reads) lost serializable some borne =
    ends_alone begun hall job reads (AbortedEnd text) (borne serializable) (runs_to handed job (AbortedJob text reads) lost (AbortedEnd text) reads refl refl some)
on_stop handed begun hall job (FaultedJob fault reads) lost serializable some borne =
    ends_alone begun hall job reads (FaultedEnd fault) (borne serializable) (runs_to handed job (FaultedJob fault reads) lost (FaultedEnd fault) reads refl refl some)
on_stop handed begun hall job _ lost serializable some borne = tt

pub stops_are_of_one_state : StopsAreOfOneState
stops_are_of_one_state before jobs ends lost committed after ran place job job_end job_is end_is serializable =
    let made = there lost place (subst (λ (n : ℕ). place < n) (sym ran.attempted) (within jobs place job job_is)) in
    on_stop before (start_point before) after job job_end made.item serializable (ran.ran place job job_end made.item job_is end_is made.is)
    (ran.stand place job job_end job_is end_is).borne_out
