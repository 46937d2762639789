-- A machine that finishes as the program's run does: it still does so after its steps and with more answers, and where it stands the run is reported.
use Rattle.std.proofs.Common.{◌≡◌, refl, sym, ◌∙◌, ap, subst, ℕ, Bool, true, false, cond, List, [], ◌∷◌, ◌++◌, ◌+◌, ◌<◌, ◌≤◌, length, take}
use Rattle.std.proofs.Common.{length-append, length-take-le, append_assoc, append-nil, arith}
use Rattle.std.proofs.Math.Seq.{take-length}
use Rattle.std.specs.Prelude.{bytes_eq, Option, None, Some, Result, Ok, Err, IfOk, OnOk, is_some, IsSome}
use Rattle.std.specs.declared.alloc.AllocError.{AllocError}
use Rattle.std.proofs.lemmas.Slice.Eq.{bytes_eq-Decides}
use Rattle.std.proofs.lemmas.Bool.Decides.{nat_tests}
use Rattle.stm_history.specs.declared.key_state.ReadAnswer.{ReadAnswer}
use Rattle.stm_program.specs.Syntax.{ProgramTree}
use Rattle.stm_steps.specs.declared.run.End.{End}
use Rattle.stm_steps.specs.declared.run.End.TheVariants.{Done, Aborted as AbortedEnd, Faulted as FaultedEnd}
use Rattle.stm_steps.specs.declared.run.Run.{Run}
use Rattle.stm_steps.specs.declared.run.Answered.{Answered}
use Rattle.stm_steps.specs.declared.run.Answered.TheVariants.{Ended, Wants}
use Rattle.stm_meaning.specs.Meaning.{answered}
use Rattle.stm_meaning.specs.Laws.{AgreesWith}
use Rattle.stm_machine.specs.State.{MachineState, key_asked, run_at}
use Rattle.stm_machine.specs.Steps.{Stands}
use Rattle.stm_machine.specs.Laws.{FinishAlike}
use Rattle.stm_machine.proofs.StepLemmas.{standing_at_a_key_wants_it, standing_at_no_key_has_run, ended_machines_have_run, wanted_key_is_unknown}
use Rattle.stm_compile.specs.Answers.{answer_in, look_up}
use Rattle.stm_attempt.specs.Known.{known_of, serving}
use Rattle.stm_attempt.specs.Settled.{run_on, wanted, answer_for, served, settled}
use Rattle.stm_attempt.specs.AttemptState.{unserved, awaited_by}
use Rattle.stm_attempt.specs.Laws.{AddsPrefetched}
use Rattle.stm_program.specs.declared.level.Level.{Level}
use Rattle.stm_attempt.specs.declared.next.Next.{Next}
use Rattle.stm_attempt.specs.declared.next.Next.TheVariants.{Fetch}
use Rattle.stm_attempt.specs.declared.progress.Progress.{Progress}
use Rattle.stm_attempt.specs.declared.progress.Progress.TheVariants.{Fresh, Started, Ended as EndedProgress}
use Rattle.stm_attempt.specs.Fetches.{at_of}
use Rattle.stm_attempt.specs.Next.{next_at_end, next_after, next_settled}
use Rattle.stm_attempt.specs.Entering.{is_due, gone_on}
use Rattle.stm_attempt.specs.Progress.{FinishesAs, HasCome, HasEnded, Extends, IsUnderWay, has_ended, IsLeftAtEnd}
use Rattle.stm_attempt.proofs.Unread.{unread, fewer, found_key}
use Rattle.stm_attempt.proofs.SettleLemmas.{no_answer, for_new, settle_stays, what_serves_is_taken, settling_adds_prefetched}
use Rattle.stm_attempt.proofs.EnteringLemmas.{gone_settled, not_due_whole}
use Rattle.stm_attempt.proofs.NextLemmas.{awaits_not_due, awaits_unserved}

-- ---- what was read stays known with one answer more

kept_by : (t : Bool) (x b : ReadAnswer) (o p : Option ReadAnswer) → (o ≡ Some b → p ≡ Some b) → cond t (Some x) o ≡ Some b → cond t (Some x) p ≡ Some b
kept_by true x b o p later is = is
kept_by false x b o p later is = later is

kept_answer : (key : List ℕ) (reads : List ReadAnswer) (a b : ReadAnswer) → answer_in key reads ≡ Some b → answer_in key (reads ++ a ∷ []) ≡ Some b
kept_answer key [] a b is = absurd (cc)
kept_answer key (x ∷ reads) a b is =
    kept_by (bytes_eq x.key key) x b (answer_in key reads) (answer_in key (reads ++ a ∷ [])) (kept_answer key reads a b) is

pub knows_more : (reads : List ReadAnswer) (a : ReadAnswer) → AgreesWith (look_up reads) (look_up (reads ++ a ∷ []))
knows_more reads a key c is = grind (arith, nat_tests, kept_answer)

-- ---- a machine that finishes as the run

pub still_finishes : (program : ProgramTree) (reads : List ReadAnswer) (m n : MachineState) → FinishesAs program reads m → FinishAlike (look_up reads) m n →
    FinishesAs program reads n
still_finishes program reads m n finishes alike whole agree = ap (λ o. answered o) (alike whole agree) ∙ finishes whole agree

pub finishes_with_more : (program : ProgramTree) (reads more : List ReadAnswer) (a : ReadAnswer) (m : MachineState) → more ≡ reads ++ a ∷ [] →
    FinishesAs program reads m → FinishesAs program more m
finishes_with_more program reads more a m pushed finishes whole agree =
    finishes whole
    (λ key c is. agree key c (ap (λ (l : List ReadAnswer). look_up l key) pushed ∙ knows_more reads a key c is))

-- ---- where it stands

pub wants_the_key : (program : ProgramTree) (reads : List ReadAnswer) (m : MachineState) (key : List ℕ) → FinishesAs program reads m →
    Stands (look_up reads) m → key_asked m.focus ≡ Some key → run_on program reads ≡ Wants key m.session.trace
wants_the_key program reads m key finishes stands asked =
    sym (finishes (look_up reads) (λ k a e. e)) ∙ standing_at_a_key_wants_it (look_up reads) m key stands asked

pub has_the_run : (program : ProgramTree) (reads : List ReadAnswer) (m : MachineState) (run : Run) → FinishesAs program reads m → run_at m ≡ Some run →
    run_on program reads ≡ Ended run
has_the_run program reads m run finishes is =
    sym (finishes (look_up reads) (λ k a e. e)) ∙ ended_machines_have_run (look_up reads) m run is

-- ---- what a turn of settling takes

wants_nothing : (program : ProgramTree) (reads : List ReadAnswer) (m : MachineState) (o : Option Run) → FinishesAs program reads m → run_at m ≡ o →
    IsSome o → wanted (run_on program reads) ≡ None
wants_nothing program reads m None finishes is some = absurd (cc)
wants_nothing program reads m (Some run) finishes is some = ap wanted (has_the_run program reads m run finishes is)

pub wanted_by : (program : ProgramTree) (reads : List ReadAnswer) (m : MachineState) (o : Option (List ℕ)) → FinishesAs program reads m →
    Stands (look_up reads) m → key_asked m.focus ≡ o → wanted (run_on program reads) ≡ o
wanted_by program reads m None finishes stands asked =
    let some : IsSome (run_at m) = standing_at_no_key_has_run (look_up reads) m stands asked in
    wants_nothing program reads m (run_at m) finishes refl some
wanted_by program reads m (Some key) finishes stands asked = ap wanted (wants_the_key program reads m key finishes stands asked)

-- what serves the key at which the machine stands serves the run
pub serves_the_run : (program : ProgramTree) (reads prefetched : List ReadAnswer) (m : MachineState) (o : Option ReadAnswer) → FinishesAs program reads m →
    Stands (look_up reads) m → o ≡ answer_for (key_asked m.focus) (serving reads prefetched) → served program prefetched reads ≡ o
serves_the_run program reads prefetched m o finishes stands found =
    ap (λ (k : Option (List ℕ)). answer_for k (serving reads prefetched)) (wanted_by program reads m (key_asked m.focus) finishes stands refl) ∙ sym found

-- an answer that serves is of a key that has none
pub taken_is_new : (reads prefetched : List ReadAnswer) (m : MachineState) (a : ReadAnswer) → Stands (look_up reads) m →
    Some a ≡ answer_for (key_asked m.focus) (serving reads prefetched) → answer_in a.key reads ≡ None
taken_is_new reads prefetched m a stands found =
    let asked = for_new (key_asked m.focus) (serving reads prefetched) a (sym found) in
    let key_is : a.key ≡ asked.0 = (bytes_eq-Decides a.key asked.0).0 (found_key asked.0 (serving reads prefetched) a asked.2) in
    let new : answer_in asked.0 reads ≡ None =
    no_answer (answer_in asked.0 reads) (wanted_key_is_unknown (look_up reads) m asked.0 stands asked.1) in
    subst (λ (k : List ℕ). answer_in k reads ≡ None) (sym key_is) new

-- and fewer prefetched answers are of keys that were not read
pub taken_is_read : (reads more prefetched : List ReadAnswer) (m : MachineState) (a : ReadAnswer) → Stands (look_up reads) m →
    Some a ≡ answer_for (key_asked m.focus) (serving reads prefetched) → more ≡ reads ++ a ∷ [] → unread more prefetched < unread reads prefetched
taken_is_read reads more prefetched m a stands found pushed =
    let asked = for_new (key_asked m.focus) (serving reads prefetched) a (sym found) in
    let new : answer_in asked.0 reads ≡ None =
    no_answer (answer_in asked.0 reads) (wanted_key_is_unknown (look_up reads) m asked.0 stands asked.1) in
    let less : unread (reads ++ a ∷ []) prefetched + 1 ≤ unread reads prefetched = fewer reads prefetched asked.0 a new asked.2 in
    let same : unread more prefetched ≡ unread (reads ++ a ∷ []) prefetched = ap (λ (l : List ReadAnswer). unread l prefetched) pushed in
    omega (arith, less, same)

-- with it settling comes to the same
pub taken_settles : (program : ProgramTree) (reads more prefetched : List ReadAnswer) (m : MachineState) (a : ReadAnswer) → FinishesAs program reads m →
    Stands (look_up reads) m → Some a ≡ answer_for (key_asked m.focus) (serving reads prefetched) → more ≡ reads ++ a ∷ [] →
    settled program (known_of more prefetched) ≡ settled program (known_of reads prefetched)
taken_settles program reads more prefetched m a finishes stands found pushed =
    ap (λ (l : List ReadAnswer). settled program (known_of l prefetched)) pushed
    ∙ sym (what_serves_is_taken program (known_of reads prefetched) a (serves_the_run program reads prefetched m (Some a) finishes stands found))

-- where nothing serves the reads are settled
pub none_settles : (program : ProgramTree) (reads prefetched : List ReadAnswer) (m : MachineState) → FinishesAs program reads m →
    Stands (look_up reads) m → None ≡ answer_for (key_asked m.focus) (serving reads prefetched) → settled program (known_of reads prefetched) ≡ reads
none_settles program reads prefetched m finishes stands found =
    settle_stays (length prefetched) program prefetched reads (serves_the_run program reads prefetched m None finishes stands found)

-- ---- what a refused call took is read again

unserved_by : (k key : List ℕ) (q : Option ReadAnswer) → cond (is_some q) None (Some k) ≡ Some key → q ≡ None
unserved_by k key None is = refl
unserved_by k key (Some a) is = absurd (cc)

unserved_none : (answers : List ReadAnswer) (o : Option (List ℕ)) (key : List ℕ) → unserved answers o ≡ Some key → answer_for o answers ≡ None
unserved_none answers None key is = absurd (cc)
unserved_none answers (Some k) key is = unserved_by k key (answer_in k answers) is

-- an attempt that waits for a key has read nothing that it has not reported
pub nothing_ahead : (program : ProgramTree) (reads prefetched : List ReadAnswer) (reported : ℕ) (key : List ℕ) → reported ≤ length reads →
    gone_on program (known_of reads prefetched) ≡ gone_on program (known_of (take reported reads) prefetched) →
    awaited_by program (known_of (take reported reads) prefetched) ≡ Some key → reported ≡ length reads
nothing_ahead program reads prefetched reported key within ahead asked =
    let front : List ReadAnswer = take reported reads in
    let not : is_due program.prefetch front ≡ false = awaits_not_due program (known_of front prefetched) key asked in
    let none : served program prefetched front ≡ None =
    unserved_none (serving front prefetched) (wanted (run_on program front)) key (awaits_unserved program (known_of front prefetched) key asked) in
    let stays : settled program (known_of front prefetched) ≡ front = settle_stays (length prefetched) program prefetched front none in
    let more : AddsPrefetched (known_of reads prefetched) (settled program (known_of reads prefetched)) =
    settling_adds_prefetched program (known_of reads prefetched) in
    let same : front ≡ reads ++ more.added =
    sym stays ∙ sym (gone_settled program (known_of front prefetched) not) ∙ sym ahead
    ∙ gone_settled program (known_of reads prefetched) (not_due_whole program.prefetch reported reads not) ∙ more.follow in
    let count : length front ≡ length reads + length more.added = ap (λ (l : List ReadAnswer). length l) same ∙ length-append reads more.added in
    let cut : length front ≡ reported = length-take-le reported reads within in
    omega (arith, within, count, cut)

-- ---- what comes after the reads

pub nothing_added : (before after : List ReadAnswer) → after ≡ before → Extends before after
nothing_added before after same = record { added = []; follow = same ∙ sym (append-nil before) }

pub one_added : (before mid after : List ReadAnswer) (a : ReadAnswer) → Extends before mid → after ≡ mid ++ a ∷ [] → Extends before after
one_added before mid after a so_far pushed =
    record {
      added = so_far.added ++ a ∷ [];
      follow = pushed ∙ ap (λ (l : List ReadAnswer). l ++ a ∷ []) so_far.follow ∙ append_assoc before so_far.added (a ∷ []);
    }

-- ---- where a program has come

wants_none : (program : ProgramTree) (reads : List ReadAnswer) (p : Progress) → HasEnded p → HasCome program reads p → wanted (run_on program reads) ≡ None
wants_none program reads Fresh ended come = absurd ended
wants_none program reads (Started m) ended come = absurd ended
wants_none program reads (EndedProgress run) ended come = ap wanted come

-- a program at its run's end wants nothing, and its reads are settled
pub end_is_settled : (program : ProgramTree) (reads prefetched : List ReadAnswer) (p : Progress) → HasEnded p → HasCome program reads p →
    settled program (known_of reads prefetched) ≡ reads
end_is_settled program reads prefetched p ended come =
    settle_stays (length prefetched) program prefetched reads
    (ap (λ (k : Option (List ℕ)). answer_for k (serving reads prefetched)) (wants_none program reads p ended come))

pub end_wants_nothing : (program : ProgramTree) (reads : List ReadAnswer) (p : Progress) → HasEnded p → HasCome program reads p →
    None ≡ wanted (run_on program reads)
end_wants_nothing program reads p ended come = sym (wants_none program reads p ended come)

-- ---- what is answered

pub fetch_is : (program : ProgramTree) (level : Level) (reads : List ReadAnswer) (x : Answered) (key : List ℕ) → Some key ≡ wanted x →
    Fetch key (at_of level reads) ≡ next_after program level reads x
fetch_is program level reads (Ended run) key is = absurd (cc)
fetch_is program level reads (Wants k trace) key is =
    let same : key ≡ k = cc in
    ap (λ (l : List ℕ). Fetch l (at_of level reads)) same

pub end_is : (program : ProgramTree) (level : Level) (reads : List ReadAnswer) (p : Progress) (next : Next) → HasEnded p → HasCome program reads p →
    ((run : Run) → p ≡ EndedProgress run → next ≡ next_at_end program level reads run run.end) → next ≡ next_after program level reads (run_on program reads)
end_is program level reads Fresh next ended come reported = absurd ended
end_is program level reads (Started m) next ended come reported = absurd ended
end_is program level reads (EndedProgress run) next ended come reported = reported run refl ∙ ap (λ (x : Answered). next_after program level reads x) (sym come)

pub next_of_settled : (program : ProgramTree) (level : Level) (before prefetched reads : List ReadAnswer) (next : Next) →
    reads ≡ settled program (known_of before prefetched) → next ≡ next_after program level reads (run_on program reads) →
    next ≡ next_settled program level (known_of before prefetched)
next_of_settled program level before prefetched reads next settles reported =
    reported ∙ ap (λ (l : List ReadAnswer). next_after program level l (run_on program l)) settles

-- ---- what is left where the end of a run that is not done was reported

left_at : (program : ProgramTree) (level : Level) (reads : List ReadAnswer) (run : Run) (end : End) (kept : Option ProgramTree) (after : Progress) →
    (end ≡ Done → ⊥) → after ≡ Fresh → IsLeftAtEnd (next_at_end program level reads run end) kept reads kept reads after
left_at program level reads run Done kept after not fresh = absurd (not refl)
left_at program level reads run (AbortedEnd text) kept after not fresh = record { keeps = refl; same_reads = refl; fresh = fresh }
left_at program level reads run (FaultedEnd fault) kept after not fresh = record { keeps = refl; same_reads = refl; fresh = fresh }

pub left_untold : (program : ProgramTree) (level : Level) (reads : List ReadAnswer) (run : Run) (kept : Option ProgramTree) (before after : Progress)
    (reported : Result Next AllocError) → before ≡ EndedProgress run → (run.end ≡ Done → ⊥) →
    IfOk reported (λ next. (r : Run) → before ≡ EndedProgress r → next ≡ next_at_end program level reads r r.end) → OnOk reported (after ≡ Fresh) →
    IfOk reported (λ next. IsLeftAtEnd next kept reads kept reads after)
left_untold program level reads run kept before after (Err error) is not next fresh = tt
left_untold program level reads run kept before after (Ok reported) is not next fresh =
    subst (λ (n : Next). IsLeftAtEnd n kept reads kept reads after) (sym (next run is)) (left_at program level reads run run.end kept after not fresh)

-- ---- an attempt under way

-- after a call that was not: all reads are reported
pub under_way : (program : ProgramTree) (reads prefetched : List ReadAnswer) (reported : ℕ) (progress : Progress) → reported ≡ length reads →
    HasCome program reads progress → IsUnderWay program reads prefetched reported progress
under_way program reads prefetched reported progress whole come =
    let all : take reported reads ≡ reads = ap (λ (n : ℕ). take n reads) whole ∙ take-length reads in
    record {
      within = omega (arith, whole);
      ahead = ap (λ (l : List ReadAnswer). gone_on program (known_of l prefetched)) (sym all);
      come = come;
    }

-- with the answer to the key that the run wants
pub come_with_more : (program : ProgramTree) (reads more : List ReadAnswer) (a : ReadAnswer) (key : List ℕ) (progress : Progress) →
    more ≡ reads ++ a ∷ [] → wanted (run_on program reads) ≡ Some key → HasCome program reads progress → HasCome program more progress
come_with_more program reads more a key Fresh pushed wants come = tt
come_with_more program reads more a key (Started m) pushed wants come = finishes_with_more program reads more a m pushed come
come_with_more program reads more a key (EndedProgress run) pushed wants come =
    let clash : None ≡ Some key = ap wanted (sym come) ∙ wants in
    absurd (cc)

-- ---- a run that is kept

pub ended_by : (p : Progress) → has_ended p ≡ true → HasEnded p
ended_by Fresh ended = absurd (cc)
ended_by (Started m) ended = absurd (cc)
ended_by (EndedProgress run) ended = tt

come_by : (program : ProgramTree) (reads : List ReadAnswer) (m : MachineState) (p : Progress) (o : Option Run) → FinishesAs program reads m → run_at m ≡ o →
    IsSome o → ((run : Run) → run_at m ≡ Some run → p ≡ EndedProgress run) → HasCome program reads p
come_by program reads m p None finishes is some kept = absurd (cc)
come_by program reads m p (Some run) finishes is some kept =
    subst (λ (q : Progress). HasCome program reads q) (sym (kept run is)) (has_the_run program reads m run finishes is)

pub kept_come : (program : ProgramTree) (reads : List ReadAnswer) (m : MachineState) (p : Progress) → FinishesAs program reads m → Stands (look_up reads) m →
    None ≡ key_asked m.focus → ((run : Run) → run_at m ≡ Some run → p ≡ EndedProgress run) → HasCome program reads p
kept_come program reads m p finishes stands asked kept =
    come_by program reads m p (run_at m) finishes refl (standing_at_no_key_has_run (look_up reads) m stands (sym asked)) kept

pub kept_end : (reads : List ReadAnswer) (m : MachineState) (p : Progress) → Stands (look_up reads) m → None ≡ key_asked m.focus →
    ((run : Run) → run_at m ≡ Some run → p ≡ EndedProgress run) → HasEnded p
kept_end reads m p stands asked kept = grind (arith, nat_tests, standing_at_no_key_has_run)
