-- The answers that an attempt has read are those of its program's list, and after them those that the program asked for, in that order.
--
-- The Go package `concurrency`, "STM": a read of a key that was not read before is one fetch.
use Rattle.std.specs.Prelude.{◌≡◌, ℕ, false, List, [], ◌∷◌, ◌++◌, length, map, take, drop, Some}
use Rattle.stm_history.specs.declared.key_state.ReadAnswer.{ReadAnswer}
use Rattle.stm_program.specs.Syntax.{ProgramTree}
use Rattle.stm_steps.specs.declared.run.Run.{Run}
use Rattle.stm_steps.specs.declared.run.Answered.TheVariants.{Ended}
use Rattle.stm_attempt.specs.Settled.{run_on, wanted}
use Rattle.stm_attempt.specs.Entering.{is_due}
use Rattle.stm_attempt.specs.Laws.{BeginsWithList}
use Rattle.stm_events.specs.FirstReads.{keys_first_read}

-- each of the answers after these was added when the program's run wanted its key
abbrev pub AskedAfter : ProgramTree → List ReadAnswer → List ReadAnswer → Type 0
AskedAfter program before [] = Unit {0}
AskedAfter program before (a ∷ reads) = (wanted (run_on program before) ≡ Some a.key) × AskedAfter program (before ++ a ∷ []) reads

-- each answer after those of the list was added when the program's run wanted its key
abbrev pub AreAsked : ProgramTree → List ReadAnswer → Type 0
AreAsked program reads =
    let count : ℕ = length program.prefetch in AskedAfter program (take count reads) (drop count reads)

abbrev pub keys_read : List ReadAnswer → List (List ℕ)
keys_read reads = map (λ a. a.key) reads

-- Where a run ends on answers that begin with the list and of which the others were asked for, their keys are those of the list and the others that
-- the run reads, in the order of its first reads.
abbrev pub AnswersAreTheReads : Type 0
AnswersAreTheReads =
    (program : ProgramTree) (reads : List ReadAnswer) (run : Run) → BeginsWithList program.prefetch reads → is_due program.prefetch reads ≡ false
    → AreAsked program reads → run_on program reads ≡ Ended run → keys_first_read program.prefetch run.reads ≡ keys_read reads
