-- What an attempt answers, and what its calls may rely on.
use Rattle.std.proofs.Common.{◌≡◌, inl, inr, ℕ, Bool, true, false, cond, List, refl, sym, ◌∙◌, ap, subst, arith}
use Rattle.std.specs.Prelude.{Option, None, Some, is_some}
use Rattle.std.proofs.lemmas.Bool.Decides.{nat_tests}
use Rattle.stm_history.specs.declared.key_state.ReadAnswer.{ReadAnswer}
use Rattle.stm_program.specs.Syntax.{ProgramTree}
use Rattle.stm_program.specs.declared.level.Level.{Level}
use Rattle.stm_steps.specs.declared.run.End.{End}
use Rattle.stm_steps.specs.declared.run.End.TheVariants.{Done, Aborted as AbortedEnd, Faulted as FaultedEnd}
use Rattle.stm_steps.specs.declared.run.Run.{Run}
use Rattle.stm_steps.specs.declared.run.Answered.{Answered}
use Rattle.stm_steps.specs.declared.run.Answered.TheVariants.{Ended, Wants}
use Rattle.stm_compile.specs.Answers.{answer_in}
use Rattle.stm_attempt.specs.declared.next.Next.TheVariants.{FetchAll, Ready}
use Rattle.stm_attempt.specs.Known.{Known, known_of, serving}
use Rattle.stm_attempt.specs.Settled.{run_on, wanted, answer_for, served}
use Rattle.stm_attempt.specs.Entering.{is_due, gone_on}
use Rattle.stm_attempt.specs.ReadyRun.{ReadyRun, IsRunOnItsAnswers, ready_run}
use Rattle.stm_attempt.specs.AttemptState.{AttemptState, advanced, awaited, awaited_by, list_awaited, unserved}
use Rattle.stm_attempt.specs.Next.{next_at_end, next_after, next_on, next_of, key_asked, list_asked}
use Rattle.stm_attempt.specs.Laws.{ReadyIsTheRun, RepeatingAnswersTheSame}
use Rattle.stm_attempt.proofs.SettleLemmas.{wanted_is_new}
use Rattle.stm_attempt.proofs.EnteringLemmas.{where_it_comes, settles_not_due, settles_none_served, gone_on_is_gone_on}

-- ---- a ready run

-- a run that is done is the run on its answers
pub is_run_on : (program : ProgramTree) (level : Level) (reads : List ReadAnswer) (run : Run) → run_on program reads ≡ Ended run → run.end ≡ Done →
    IsRunOnItsAnswers (ready_run program level reads run)
is_run_on program level reads run is done = record { run = run; is_run = is; is_done = done; emits = refl; sees = refl; writes = refl }

at_end : (program : ProgramTree) (level : Level) (reads : List ReadAnswer) (run : Run) (end : End) (ready : ReadyRun) → run_on program reads ≡ Ended run →
    run.end ≡ end → next_at_end program level reads run end ≡ Ready ready → IsRunOnItsAnswers ready
at_end program level reads run Done ready is done reported =
    let same : ready_run program level reads run ≡ ready = cc in subst IsRunOnItsAnswers same (is_run_on program level reads run is done)
at_end program level reads run (AbortedEnd text) ready is done reported = absurd (cc)
at_end program level reads run (FaultedEnd fault) ready is done reported = absurd (cc)

after : (program : ProgramTree) (level : Level) (reads : List ReadAnswer) (x : Answered) (ready : ReadyRun) → run_on program reads ≡ x →
    next_after program level reads x ≡ Ready ready → IsRunOnItsAnswers ready
after program level reads (Wants key trace) ready is reported = absurd (cc)
after program level reads (Ended run) ready is reported = at_end program level reads run run.end ready is refl reported

pub ready_is_the_run : ReadyIsTheRun
ready_is_the_run program level known ready reported = grind (arith, nat_tests, after)

-- ---- a call more

pub repeating_answers_the_same : RepeatingAnswersTheSame
repeating_answers_the_same program level known = ap (next_on program level) (gone_on_is_gone_on program known)

-- ---- the key that is awaited

asked_at_end : (program : ProgramTree) (level : Level) (reads : List ReadAnswer) (run : Run) (end : End) →
    key_asked (next_at_end program level reads run end) ≡ None
asked_at_end program level reads run Done = refl
asked_at_end program level reads run (AbortedEnd text) = refl
asked_at_end program level reads run (FaultedEnd fault) = refl

asked_after : (program : ProgramTree) (level : Level) (reads : List ReadAnswer) (x : Answered) → key_asked (next_after program level reads x) ≡ wanted x
asked_after program level reads (Wants key trace) = refl
asked_after program level reads (Ended run) = asked_at_end program level reads run run.end

unserved_is : (answers : List ReadAnswer) (o : Option (List ℕ)) → answer_for o answers ≡ None → unserved answers o ≡ o
unserved_is answers None none = refl
unserved_is answers (Some key) none = ap (λ (found : Option ReadAnswer). cond (is_some found) None (Some key)) none

due_asked : (program : ProgramTree) (level : Level) (reads prefetched : List ReadAnswer) → is_due program.prefetch reads ≡ true →
    awaited_by program (known_of reads prefetched) ≡ key_asked (next_on program level reads)
due_asked program level reads prefetched due =
    ap (λ (b : Bool). cond b None (unserved (serving reads prefetched) (wanted (run_on program reads)))) due
    ∙ sym (ap (λ (b : Bool). key_asked (cond b (FetchAll program.prefetch 0) (next_after program level reads (run_on program reads)))) due)

settled_asked : (program : ProgramTree) (level : Level) (reads prefetched : List ReadAnswer) → is_due program.prefetch reads ≡ false →
    served program prefetched reads ≡ None → awaited_by program (known_of reads prefetched) ≡ key_asked (next_on program level reads)
settled_asked program level reads prefetched not none =
    ap (λ (b : Bool). cond b None (unserved (serving reads prefetched) (wanted (run_on program reads)))) not
    ∙ unserved_is (serving reads prefetched) (wanted (run_on program reads)) none
    ∙ sym (asked_after program level reads (run_on program reads))
    ∙ sym (ap (λ (b : Bool). key_asked (cond b (FetchAll program.prefetch 0) (next_after program level reads (run_on program reads)))) not)

no_list-at_end : (program : ProgramTree) (level : Level) (reads : List ReadAnswer) (run : Run) (end : End) →
    list_asked (next_at_end program level reads run end) ≡ None
no_list-at_end program level reads run Done = refl
no_list-at_end program level reads run (AbortedEnd text) = refl
no_list-at_end program level reads run (FaultedEnd fault) = refl

no_list-after : (program : ProgramTree) (level : Level) (reads : List ReadAnswer) (x : Answered) → list_asked (next_after program level reads x) ≡ None
no_list-after program level reads (Wants key trace) = refl
no_list-after program level reads (Ended run) = no_list-at_end program level reads run run.end

-- what was asked for is awaited
pub asked_is_awaited : (program : ProgramTree) (attempt : AttemptState) →
    awaited (advanced program attempt) ≡ key_asked (next_of program attempt.level attempt.known)
asked_is_awaited program attempt =
    let reads : List ReadAnswer = gone_on program attempt.known in
    elim (where_it_comes program attempt.known) [
      | inl d ↦ due_asked program attempt.level reads attempt.known.prefetched (ap (is_due program.prefetch) d.stays ∙ d.due)
      | inr s ↦ settled_asked program attempt.level reads attempt.known.prefetched (settles_not_due program attempt.known s)
          (settles_none_served program attempt.known s)
    ]

-- and so is a list that was asked for
list_by : (program : ProgramTree) (level : Level) (reads : List ReadAnswer) (due : Bool) →
    cond due (Some program.prefetch) None ≡ list_asked (cond due (FetchAll program.prefetch 0) (next_after program level reads (run_on program reads)))
list_by program level reads true = refl
list_by program level reads false = sym (no_list-after program level reads (run_on program reads))

pub list_is_awaited : (program : ProgramTree) (attempt : AttemptState) →
    list_awaited (advanced program attempt) ≡ list_asked (next_of program attempt.level attempt.known)
list_is_awaited program attempt =
    list_by program attempt.level (gone_on program attempt.known) (is_due program.prefetch (gone_on program attempt.known))

chosen : (b : Bool) (k key : List ℕ) → cond b None (Some k) ≡ Some key → Some k ≡ Some key
chosen true k key is = absurd (cc)
chosen false k key is = is

pub wanted_by : (answers : List ReadAnswer) (o : Option (List ℕ)) (key : List ℕ) → unserved answers o ≡ Some key → o ≡ Some key
wanted_by answers None key is = absurd (cc)
wanted_by answers (Some k) key is = chosen (is_some (answer_in k answers)) k key is

unless_due : (due : Bool) (o : Option (List ℕ)) (key : List ℕ) → cond due None o ≡ Some key → (due ≡ false) × (o ≡ Some key)
unless_due true o key is = absurd (cc)
unless_due false o key is = (refl, is)

-- a program that waits for a key waits for no list
pub awaits_not_due : (program : ProgramTree) (known : Known) (key : List ℕ) → awaited_by program known ≡ Some key → is_due program.prefetch known.reads ≡ false
awaits_not_due program known key is =
    (unless_due (is_due program.prefetch known.reads) (unserved (serving known.reads known.prefetched) (wanted (run_on program known.reads))) key is).0

pub awaits_unserved : (program : ProgramTree) (known : Known) (key : List ℕ) → awaited_by program known ≡ Some key →
    unserved (serving known.reads known.prefetched) (wanted (run_on program known.reads)) ≡ Some key
awaits_unserved program known key is =
    (unless_due (is_due program.prefetch known.reads) (unserved (serving known.reads known.prefetched) (wanted (run_on program known.reads))) key is).1

-- an awaited key has no answer yet
pub awaited_is_new : (attempt : AttemptState) (key : List ℕ) → awaited attempt ≡ Some key → answer_in key attempt.known.reads ≡ None
awaited_is_new attempt key is = grind (arith, nat_tests, wanted_is_new, wanted_by, awaits_unserved)

-- ---- an advance, by what the code has at hand

abbrev pub seen_as : Option ProgramTree → Level → List ReadAnswer → List ReadAnswer → AttemptState
seen_as program level reads prefetched = record { program = program; level = level; known = known_of reads prefetched }
