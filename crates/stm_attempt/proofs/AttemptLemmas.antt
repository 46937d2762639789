-- What the calls of an attempt leave, by what the code has at hand: the reads, how many of them are reported, and how far the program has come.
use Rattle.std.proofs.Common.{◌≡◌, refl, sym, ◌∙◌, ap, subst, ℕ, Bool, true, false, cond, List, [], ◌∷◌, ◌++◌, length, take}
use Rattle.std.specs.Prelude.{Option, None, Some, Result, Ok, Err, IfOk, OnOk}
use Rattle.std.specs.declared.alloc.AllocError.{AllocError}
use Rattle.std.proofs.Math.Seq.{take-length}
use Rattle.stm_history.specs.declared.key_state.ReadAnswer.{ReadAnswer}
use Rattle.stm_program.specs.Syntax.{ProgramTree}
use Rattle.stm_program.specs.declared.level.Level.{Level}
use Rattle.stm_compile.specs.Answers.{answer_in}
use Rattle.stm_attempt.specs.declared.next.Next.{Next}
use Rattle.stm_attempt.specs.declared.next.Next.TheVariants.{Ready}
use Rattle.stm_attempt.specs.Leaving.{left_by}
use Rattle.stm_attempt.specs.declared.progress.Progress.{Progress}
use Rattle.stm_attempt.specs.Known.{known_of, serving}
use Rattle.stm_attempt.specs.Settled.{run_on, wanted}
use Rattle.stm_attempt.specs.Entering.{is_due}
use Rattle.stm_attempt.specs.AttemptState.{AttemptState, advanced, supplied, awaited, list_awaited}
use Rattle.stm_attempt.specs.Next.{next_of, key_asked, list_asked}
use Rattle.stm_attempt.specs.Progress.{IsUnderWay, IsAttempt}
use Rattle.stm_attempt.proofs.NextLemmas.{seen_as, wanted_by, asked_is_awaited, list_is_awaited, awaits_unserved, awaited_is_new}
use Rattle.stm_attempt.proofs.ProgressLemmas.{nothing_ahead, under_way, come_with_more}

-- ---- whether there is a program

pub attempt_of : (program : ProgramTree) (before : Option ProgramTree) (reads prefetched : List ReadAnswer) (reported : ℕ) (progress : Progress) →
    before ≡ Some program → IsUnderWay program reads prefetched reported progress → IsAttempt before reads prefetched reported progress
attempt_of program before reads prefetched reported progress some way =
    subst (λ (o : Option ProgramTree). IsAttempt o reads prefetched reported progress) (sym some) way

abbrev no_reads : List ReadAnswer
no_reads = []

-- ---- all reads are reported

pub all_reported : (reported : ℕ) (reads : List ReadAnswer) → reported ≡ length reads → take reported reads ≡ reads
all_reported reported reads whole = ap (λ (n : ℕ). take n reads) whole ∙ take-length reads

-- ---- what is answered, and what is left

pub asked_from : (program : ProgramTree) (old new : AttemptState) (next : Next) → new ≡ advanced program old →
    next ≡ next_of program old.level old.known → awaited new ≡ key_asked next
asked_from program old new next left reported = ap awaited left ∙ asked_is_awaited program old ∙ ap key_asked (sym reported)

pub asked_reported : (program : ProgramTree) (old new : AttemptState) (reported : Result Next AllocError) → OnOk reported (new ≡ advanced program old) →
    IfOk reported (λ next. next ≡ next_of program old.level old.known) → IfOk reported (λ next. awaited new ≡ key_asked next)
asked_reported program old new (Ok next) left is = asked_from program old new next left is
asked_reported program old new (Err error) left is = tt

list_from : (program : ProgramTree) (old new : AttemptState) (next : Next) → new ≡ advanced program old →
    next ≡ next_of program old.level old.known → list_awaited new ≡ list_asked next
list_from program old new next left reported = ap list_awaited left ∙ list_is_awaited program old ∙ ap list_asked (sym reported)

pub list_reported : (program : ProgramTree) (old new : AttemptState) (reported : Result Next AllocError) → OnOk reported (new ≡ advanced program old) →
    IfOk reported (λ next. next ≡ next_of program old.level old.known) → IfOk reported (λ next. list_awaited new ≡ list_asked next)
list_reported program old new (Ok next) left is = list_from program old new next left is
list_reported program old new (Err error) left is = tt

-- ---- an attempt that waits for a key

pub record Waits (before : Option ProgramTree) (reads prefetched : List ReadAnswer) (reported : ℕ) (progress : Progress) (key : List ℕ) : Type 0 where
  pub program : ProgramTree
  pub is : before ≡ Some program
  pub way : IsUnderWay program reads prefetched reported progress
  pub whole : reported ≡ length reads
  pub wants : wanted (run_on program reads) ≡ Some key

waits_at : (before : Option ProgramTree) (level : Level) (reads prefetched : List ReadAnswer) (reported : ℕ) (progress : Progress) (key : List ℕ) →
    awaited (seen_as before level (take reported reads) prefetched) ≡ Some key → IsAttempt before reads prefetched reported progress →
    Waits before reads prefetched reported progress key
waits_at None level reads prefetched reported progress key asked is = absurd (cc)
waits_at (Some program) level reads prefetched reported progress key asked way =
    let whole : reported ≡ length reads = nothing_ahead program reads prefetched reported key way.within way.ahead asked in
    let front : wanted (run_on program (take reported reads)) ≡ Some key =
    wanted_by (serving (take reported reads) prefetched) (wanted (run_on program (take reported reads))) key
    (awaits_unserved program (known_of (take reported reads) prefetched) key asked) in
    record {
      program = program;
      is = refl;
      way = way;
      whole = whole;
      wants = ap (λ (l : List ReadAnswer). wanted (run_on program l)) (sym (all_reported reported reads whole)) ∙ front;
    }

pub waits : (old : AttemptState) (before : Option ProgramTree) (level : Level) (reads prefetched : List ReadAnswer) (reported : ℕ) (progress : Progress)
    (key : List ℕ) → seen_as before level (take reported reads) prefetched ≡ old → awaited old ≡ Some key → IsAttempt before reads prefetched reported progress →
    Waits before reads prefetched reported progress key
waits old before level reads prefetched reported progress key view asked is =
    waits_at before level reads prefetched reported progress key (ap awaited view ∙ asked) is

pub new_key : (old : AttemptState) (before : Option ProgramTree) (level : Level) (reads prefetched : List ReadAnswer) (reported : ℕ) (progress : Progress)
    (key : List ℕ) → seen_as before level (take reported reads) prefetched ≡ old → awaited old ≡ Some key → IsAttempt before reads prefetched reported progress →
    answer_in key reads ≡ None
new_key old before level reads prefetched reported progress key view asked is =
    let w = waits old before level reads prefetched reported progress key view asked is in
    ap (λ (l : List ReadAnswer). answer_in key l) (sym (all_reported reported reads w.whole))
    ∙ ap (λ (v : AttemptState). answer_in key v.known.reads) view
    ∙ awaited_is_new old key asked

pub supplied_is : (old : AttemptState) (before : Option ProgramTree) (level : Level) (reads prefetched more : List ReadAnswer) (reported count : ℕ)
    (progress : Progress) (a : ReadAnswer) → seen_as before level (take reported reads) prefetched ≡ old → awaited old ≡ Some a.key →
    IsAttempt before reads prefetched reported progress → more ≡ reads ++ a ∷ [] → count ≡ length more →
    seen_as before level (take count more) prefetched ≡ supplied a old
supplied_is old before level reads prefetched more reported count progress a view asked is pushed whole =
    let w = waits old before level reads prefetched reported progress a.key view asked is in
    ap (λ (l : List ReadAnswer). seen_as before level l prefetched)
    (all_reported count more whole ∙ pushed ∙ ap (λ (l : List ReadAnswer). l ++ a ∷ []) (sym (all_reported reported reads w.whole)))
    ∙ ap (supplied a) view

pub supplied_attempt : (old : AttemptState) (before : Option ProgramTree) (level : Level) (reads prefetched more : List ReadAnswer) (reported count : ℕ)
    (progress : Progress) (a : ReadAnswer) → seen_as before level (take reported reads) prefetched ≡ old → awaited old ≡ Some a.key →
    IsAttempt before reads prefetched reported progress → more ≡ reads ++ a ∷ [] → count ≡ length more →
    IsAttempt before more prefetched count progress
supplied_attempt old before level reads prefetched more reported count progress a view asked is pushed whole =
    let w = waits old before level reads prefetched reported progress a.key view asked is in
    attempt_of w.program before more prefetched count progress w.is
    (under_way w.program more prefetched count progress whole
    (come_with_more w.program reads more a a.key progress pushed w.wants w.way.come))

-- ---- an attempt that waits for its list

due_only : (b : Bool) (keys others : List (List ℕ)) → cond b (Some keys) None ≡ Some others → keys ≡ others
due_only true keys others is = cc
due_only false keys others is = absurd (cc)

list_at : (before : Option ProgramTree) (level : Level) (reads prefetched : List ReadAnswer) (keys : List (List ℕ)) →
    list_awaited (seen_as before level reads prefetched) ≡ Some keys → (program : ProgramTree) × (before ≡ Some program) × (program.prefetch ≡ keys)
list_at None level reads prefetched keys asked = absurd (cc)
list_at (Some program) level reads prefetched keys asked = (program, refl, due_only (is_due program.prefetch reads) program.prefetch keys asked)

pub awaits_list : (old : AttemptState) (before : Option ProgramTree) (level : Level) (reads prefetched : List ReadAnswer) (keys : List (List ℕ)) →
    seen_as before level reads prefetched ≡ old → list_awaited old ≡ Some keys → (program : ProgramTree) × (before ≡ Some program) × (program.prefetch ≡ keys)
awaits_list old before level reads prefetched keys view asked = list_at before level reads prefetched keys (ap list_awaited view ∙ asked)

pub list_is : (old : AttemptState) (before : Option ProgramTree) (level : Level) (reads prefetched : List ReadAnswer) (keys : List (List ℕ))
    (program : ProgramTree) → seen_as before level reads prefetched ≡ old → list_awaited old ≡ Some keys → before ≡ Some program → program.prefetch ≡ keys
list_is old before level reads prefetched keys program view asked is =
    let w = awaits_list old before level reads prefetched keys view asked in
    let same : program ≡ w.0 = cc (is, w.1) in
    ap (λ (p : ProgramTree). p.prefetch) same ∙ w.2

-- ---- an attempt whose end is given away

-- what is asked for is awaited then, too
pub left_asked : (program : ProgramTree) (old : AttemptState) (next : Next) → next ≡ next_of program old.level old.known →
    awaited (left_by next (advanced program old)) ≡ key_asked next
left_asked program old (Ready ready) reported = refl
left_asked program old _ reported = asked_is_awaited program old ∙ ap key_asked (sym reported)

pub left_list : (program : ProgramTree) (old : AttemptState) (next : Next) → next ≡ next_of program old.level old.known →
    list_awaited (left_by next (advanced program old)) ≡ list_asked next
left_list program old (Ready ready) reported = refl
left_list program old _ reported = list_is_awaited program old ∙ ap list_asked (sym reported)

pub left_asked_reported : (program : ProgramTree) (old new : AttemptState) (reported : Result Next AllocError) →
    IfOk reported (λ next. new ≡ left_by next (advanced program old)) → IfOk reported (λ next. next ≡ next_of program old.level old.known) →
    IfOk reported (λ next. awaited new ≡ key_asked next)
left_asked_reported program old new (Ok next) left is = ap awaited left ∙ left_asked program old next is
left_asked_reported program old new (Err error) left is = tt

pub left_list_reported : (program : ProgramTree) (old new : AttemptState) (reported : Result Next AllocError) →
    IfOk reported (λ next. new ≡ left_by next (advanced program old)) → IfOk reported (λ next. next ≡ next_of program old.level old.known) →
    IfOk reported (λ next. list_awaited new ≡ list_asked next)
left_list_reported program old new (Ok next) left is = ap list_awaited left ∙ left_list program old next is
left_list_reported program old new (Err error) left is = tt
