-- The laws of attempts, each carried by a function of `src/laws.rt`.
use Rattle.std.specs.Prelude.{◌≡◌, ◌≤◌, ℕ, true, List, [], ◌∷◌, ◌++◌, None, Some, map, All, Contains}
use Rattle.stm_history.specs.declared.key_state.ReadAnswer.{ReadAnswer}
use Rattle.stm_history.specs.History.{History, now}
use Rattle.stm_program.specs.Syntax.{ProgramTree}
use Rattle.stm_program.specs.declared.level.Level.{Level}
use Rattle.stm_program.specs.Levels.{is_serializable}
use Rattle.stm_outcome.specs.Commits.{revision_read}
use Rattle.stm_attempt.specs.declared.next.Next.TheVariants.{Ready}
use Rattle.stm_attempt.specs.Known.{Known}
use Rattle.stm_attempt.specs.Settled.{served, settled}
use Rattle.stm_attempt.specs.Entering.{gone_on}
use Rattle.stm_attempt.specs.Fetches.{at_of, ShowOneRevision, HaveOneBase}
use Rattle.stm_attempt.specs.ReadyRun.{ReadyRun, IsRunOnItsAnswers}
use Rattle.stm_attempt.specs.AttemptState.{AttemptState, with_reads, supplied, supplied_all, awaited, list_awaited}
use Rattle.stm_attempt.specs.Next.{next_of}

-- A key that is wanted after settling is served by no prefetched answer.
abbrev pub NothingServesTheSettled : Type 0
NothingServesTheSettled =
    (program : ProgramTree) (known : Known) → served program known.prefetched (settled program known) ≡ None

-- Settled is settled.
abbrev pub SettledIsSettled : Type 0
SettledIsSettled =
    (program : ProgramTree) (known : Known) → settled program (with_reads (settled program known) known) ≡ settled program known

-- Asked again with nothing supplied, an attempt answers the same.
abbrev pub RepeatingAnswersTheSame : Type 0
RepeatingAnswersTheSame =
    (program : ProgramTree) (level : Level) (known : Known) →
    next_of program level (with_reads (gone_on program known) known) ≡ next_of program level known

-- Gone on is gone on.
abbrev pub GoneOnIsGoneOn : Type 0
GoneOnIsGoneOn = (program : ProgramTree) (known : Known) → gone_on program (with_reads (gone_on program known) known) ≡ gone_on program known

-- An attempt has read nothing, or its program's list first, in the list's order.
pub record BeginsWith (keys : List (List ℕ)) (reads : List ReadAnswer) : Type 0 where
  pub others : List (List ℕ)
  pub first : map (λ a. a.key) reads ≡ keys ++ others

abbrev pub BeginsWithList : List (List ℕ) → List ReadAnswer → Type 0
BeginsWithList keys [] = Unit {0}
BeginsWithList keys (a ∷ reads) = BeginsWith keys (a ∷ reads)

-- Going on keeps that.
abbrev pub ReadsBeginWithTheList : Type 0
ReadsBeginWithTheList =
    (program : ProgramTree) (known : Known) → BeginsWithList program.prefetch known.reads → BeginsWithList program.prefetch (gone_on program known)

-- The answers to the list that is awaited are it.
abbrev pub SuppliedListComesFirst : Type 0
SuppliedListComesFirst =
    (program : ProgramTree) (attempt : AttemptState) (answers : List ReadAnswer) → attempt.program ≡ Some program
    → list_awaited attempt ≡ Some (map (λ a. a.key) answers) → BeginsWithList program.prefetch (supplied_all answers attempt).known.reads

-- The answer to a key that is awaited stands after what was read before.
abbrev pub SuppliedKeyComesAfter : Type 0
SuppliedKeyComesAfter =
    (program : ProgramTree) (attempt : AttemptState) (answer : ReadAnswer) → attempt.program ≡ Some program → awaited attempt ≡ Some answer.key
    → BeginsWithList program.prefetch attempt.known.reads → BeginsWithList program.prefetch (supplied answer attempt).known.reads

-- So an attempt that is ready has read the whole list, first.
abbrev pub ReadyBeginsWithTheList : Type 0
ReadyBeginsWithTheList =
    (program : ProgramTree) (level : Level) (known : Known) (ready : ReadyRun) → BeginsWithList program.prefetch known.reads
    → next_of program level known ≡ Ready ready → BeginsWith ready.program.prefetch ready.answers

-- Going on keeps the base, where the prefetched answers have one.
abbrev pub GoingOnKeepsTheBase : Type 0
GoingOnKeepsTheBase =
    (program : ProgramTree) (known : Known) → All (λ a. 1 ≤ a.of_rev) known.prefetched → ShowOneRevision known.prefetched → HaveOneBase known.reads
    → HaveOneBase (gone_on program known)

-- What serves is taken, and the attempt goes on from there.
abbrev pub WhatServesIsTaken : Type 0
WhatServesIsTaken =
    (program : ProgramTree) (known : Known) (a : ReadAnswer) → served program known.prefetched known.reads ≡ Some a
    → settled program known ≡ settled program (with_reads (known.reads ++ a ∷ []) known)

-- What was read stays, and what comes after it was prefetched.
pub record AddsPrefetched (known : Known) (reads : List ReadAnswer) : Type 0 where
  pub added : List ReadAnswer
  pub follow : reads ≡ known.reads ++ added
  pub prefetched : All (Contains known.prefetched) added

abbrev pub SettlingAddsPrefetched : Type 0
SettlingAddsPrefetched = (program : ProgramTree) (known : Known) → AddsPrefetched known (settled program known)

-- Answers that have one base still have it after settling.
abbrev pub SettlingKeepsTheBase : Type 0
SettlingKeepsTheBase =
    (program : ProgramTree) (known : Known) → All (λ a. 1 ≤ a.of_rev) known.prefetched → HaveOneBase known.reads
    → HaveOneBase (settled program known)

-- And with the answer to the next fetch of a serializable level, which shows the revision that the fetch names.
abbrev pub FetchingKeepsTheBase : Type 0
FetchingKeepsTheBase =
    (h : History) (level : Level) (reads : List ReadAnswer) (a : ReadAnswer) → is_serializable level ≡ true → 1 ≤ now h
    → a.of_rev ≡ revision_read h (at_of level reads) → HaveOneBase reads → HaveOneBase (reads ++ a ∷ [])

-- An attempt that is ready is its program's run on its answers.
abbrev pub ReadyIsTheRun : Type 0
ReadyIsTheRun =
    (program : ProgramTree) (level : Level) (known : Known) (ready : ReadyRun) → next_of program level known ≡ Ready ready
    → IsRunOnItsAnswers ready
