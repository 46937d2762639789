-- What a copy of an attempt keeps, which runs its program from the start.
use Rattle.std.proofs.Common.{◌≡◌, ℕ, List, take, arith}
use Rattle.std.specs.Prelude.{Option}
use Rattle.std.proofs.lemmas.Bool.Decides.{nat_tests}
use Rattle.stm_history.specs.declared.key_state.ReadAnswer.{ReadAnswer}
use Rattle.stm_program.specs.Syntax.{ProgramTree}
use Rattle.stm_program.specs.declared.level.Level.{Level}
use Rattle.stm_attempt.specs.declared.progress.Progress.{Progress}
use Rattle.stm_attempt.specs.declared.progress.Progress.TheVariants.{Fresh}
use Rattle.stm_attempt.specs.Known.{HaveDistinctKeys}
use Rattle.stm_attempt.specs.AttemptState.{AttemptState}
use Rattle.stm_attempt.specs.Progress.{IsAttempt}

fresh : (program : Option ProgramTree) (reads prefetched : List ReadAnswer) (reported : ℕ) (progress : Progress) →
    IsAttempt program reads prefetched reported progress → IsAttempt program reads prefetched reported Fresh
fresh program reads prefetched reported progress is = grind (arith, nat_tests)

-- what contracts see of these fields
abbrev pub shown_attempt : Option ProgramTree → Level → List ReadAnswer → ℕ → List ReadAnswer → AttemptState
shown_attempt program level reads reported prefetched =
    record { program = program; level = level; known = record { reads = take reported reads; prefetched = prefetched } }

module _ (program copied_program : Option ProgramTree) (reads copied_reads prefetched copied_prefetched : List ReadAnswer) (reported : ℕ)
    (same_program : copied_program ≡ program) (same_reads : copied_reads ≡ reads) (same_prefetched : copied_prefetched ≡ prefetched) where
  pub attempt_copied : (progress : Progress) → HaveDistinctKeys prefetched × IsAttempt program reads prefetched reported progress →
      HaveDistinctKeys copied_prefetched × IsAttempt copied_program copied_reads copied_prefetched reported Fresh
  attempt_copied progress is = grind (arith, nat_tests, fresh)

  pub state_copied : (level : Level) → shown_attempt copied_program level copied_reads reported copied_prefetched ≡ shown_attempt program level reads reported prefetched
  state_copied level = grind (arith, nat_tests)
