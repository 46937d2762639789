-- How far an attempt has run its program: not at all, to where its machine stands, or to its end.
use Rattle.std.specs.Prelude.{◌≡◌, ℕ, ◌≤◌, Bool, true, false, List, [], ◌++◌, length, take, Option, None, Some}
use Rattle.stm_history.specs.declared.key_state.ReadAnswer.{ReadAnswer}
use Rattle.stm_program.specs.Syntax.{ProgramTree}
use Rattle.stm_history.specs.declared.change.Change.{Change}
use Rattle.stm_program.specs.Writes.{latest_writes}
use Rattle.stm_steps.specs.declared.run.Run.{Run}
use Rattle.stm_steps.specs.declared.run.Answered.TheVariants.{Ended as EndedRun}
use Rattle.stm_meaning.specs.Answer.{Lookup}
use Rattle.stm_meaning.specs.Meaning.{answered, run_over}
use Rattle.stm_meaning.specs.Laws.{AgreesWith}
use Rattle.stm_machine.specs.State.{MachineState, run_at}
use Rattle.stm_machine.specs.Finish.{finish}
use Rattle.stm_compile.specs.Answers.{look_up}
use Rattle.stm_attempt.specs.declared.progress.Progress.{Progress}
use Rattle.stm_attempt.specs.declared.progress.Progress.TheVariants.{Fresh, Started, Ended}
use Rattle.stm_attempt.specs.declared.next.Next.{Next}
use Rattle.stm_attempt.specs.declared.next.Next.TheVariants.{FetchAll, Fetch, Ready, Aborted, Faulted}
use Rattle.stm_attempt.specs.Known.{known_of}
use Rattle.stm_attempt.specs.Settled.{run_on}
use Rattle.stm_attempt.specs.Entering.{gone_on}

-- Finishing the machine is the program's run, over each look-up that knows what was read.
abbrev pub FinishesAs : ProgramTree → List ReadAnswer → MachineState → Type 0
FinishesAs program reads m = (whole : Lookup) → AgreesWith (look_up reads) whole → answered (finish whole m) ≡ run_over whole program.statements

abbrev pub HasCome : ProgramTree → List ReadAnswer → Progress → Type 0
HasCome program reads Fresh = Unit {0}
HasCome program reads (Started m) = FinishesAs program reads m
HasCome program reads (Ended run) = run_on program reads ≡ EndedRun run

abbrev pub has_begun : Progress → Bool
has_begun Fresh = false
has_begun (Started m) = true
has_begun (Ended run) = true

abbrev pub has_ended : Progress → Bool
has_ended Fresh = false
has_ended (Started m) = false
has_ended (Ended run) = true

abbrev pub HasEnded : Progress → Type 0
HasEnded Fresh = ⊥
HasEnded (Started m) = ⊥
HasEnded (Ended run) = Unit {0}

-- the run that has come to its end
abbrev pub run_of_progress : Progress → Option Run
run_of_progress Fresh = None
run_of_progress (Started m) = run_at m
run_of_progress (Ended run) = Some run

-- The reads stay, and what comes after them was added.
pub record Extends (before after : List ReadAnswer) : Type 0 where
  pub added : List ReadAnswer
  pub follow : after ≡ before ++ added

-- An attempt without a program has read nothing, and runs nothing.
abbrev pub HasNotBegun : List ReadAnswer → Progress → Type 0
HasNotBegun reads Fresh = reads ≡ []
HasNotBegun reads (Started m) = ⊥
HasNotBegun reads (Ended run) = ⊥

-- The first `reported` of the reads are those that the attempt is seen to have. Those after them were prefetched, and taken by a call that was
-- refused then: going on takes them again.
pub record IsUnderWay (program : ProgramTree) (reads prefetched : List ReadAnswer) (reported : ℕ) (progress : Progress) : Type 0 where
  pub within : reported ≤ length reads
  pub ahead : gone_on program (known_of reads prefetched) ≡ gone_on program (known_of (take reported reads) prefetched)
  pub come : HasCome program reads progress

abbrev pub IsAttempt : Option ProgramTree → List ReadAnswer → List ReadAnswer → ℕ → Progress → Type 0
IsAttempt None reads prefetched reported progress = HasNotBegun reads progress
IsAttempt (Some program) reads prefetched reported progress = IsUnderWay program reads prefetched reported progress

-- The last writes of a run: these, or, where there are no others, its writes themselves.
abbrev pub AreLatest : List Change → Option (List Change) → Type 0
AreLatest writes None = latest_writes writes ≡ writes
AreLatest writes (Some latest) = latest ≡ latest_writes writes

-- an attempt from which program, reads and run were taken
pub record HasGiven (kept : Option ProgramTree) (reads : List ReadAnswer) (progress : Progress) : Type 0 where
  pub no_program : kept ≡ None
  pub no_reads : reads ≡ []
  pub fresh : progress ≡ Fresh

-- one from which the run alone was taken
pub record HasReportedEnd (before : Option ProgramTree) (read : List ReadAnswer) (kept : Option ProgramTree) (reads : List ReadAnswer) (progress : Progress) : Type 0 where
  pub keeps : kept ≡ before
  pub same_reads : reads ≡ read
  pub fresh : progress ≡ Fresh

-- what is left where the end of the run was given away
abbrev pub IsLeftAtEnd : Next → Option ProgramTree → List ReadAnswer → Option ProgramTree → List ReadAnswer → Progress → Type 0
IsLeftAtEnd (Ready ready) before read kept reads progress = HasGiven kept reads progress
IsLeftAtEnd (Aborted run) before read kept reads progress = HasReportedEnd before read kept reads progress
IsLeftAtEnd (Faulted run) before read kept reads progress = HasReportedEnd before read kept reads progress
IsLeftAtEnd (FetchAll keys at) before read kept reads progress = ⊥
IsLeftAtEnd (Fetch key at) before read kept reads progress = ⊥
