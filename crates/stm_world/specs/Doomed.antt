-- What a log says of attempts that come to nothing.
--
-- The documentation of the Go package `clientv3/concurrency`, "STM" and "Isolation": a commit fails only where a key that was
-- read, or at serializable snapshot one that is written, has changed since; and what an attempt at a serializable level reads is
-- of one revision, so that no abort and no fault comes of reads that never held together.
use Rattle.std.specs.Prelude.{◌≡◌, ℕ, ◌+◌, ◌≤◌, nat_eq, Bool, true, false, if◌then◌else◌, List, [], ◌∷◌, Option, Some, None, Result, Ok}
use Rattle.stm_history.specs.declared.revisions.TheConstants.{HIGHEST_REVISION}
use Rattle.stm_history.specs.declared.key_state.ReadAnswer.{ReadAnswer}
use Rattle.stm_history.specs.History.{History, now}
use Rattle.stm_program.specs.declared.level.Level.{Level}
use Rattle.stm_history.specs.declared.change.Change.{Change}
use Rattle.stm_program.specs.Writes.{latest_writes}
use Rattle.stm_steps.specs.declared.run.End.{End}
use Rattle.stm_steps.specs.declared.run.End.TheVariants.{Done as DoneEnd, Aborted as AbortedEnd, Faulted as FaultedEnd}
use Rattle.stm_steps.specs.declared.run.Run.{Run}
use Rattle.stm_steps.specs.declared.run.Answered.TheVariants.{Ended as EndedRun}
use Rattle.stm_meaning.specs.Meaning.{run_over}
use Rattle.stm_outcome.specs.declared.answer.FailedCompare.{FailedCompare}
use Rattle.stm_outcome.specs.Commits.{revision_read}
use Rattle.stm_program.specs.Levels.{is_serializable}
use Rattle.stm_compile.specs.Committed.{conflict_now}
use Rattle.stm_compile.specs.Answers.{state_as_of}
use Rattle.stm_compile.specs.Conflicts.{IsConflict}
use Rattle.stm_attempt.specs.Settled.{run_on}
use Rattle.stm_attempt.specs.Entering.{is_due}
use Rattle.stm_attempt.specs.Fetches.{base_of}
use Rattle.stm_events.specs.declared.reply.Reply.{Reply}
use Rattle.stm_events.specs.declared.reply.Reply.TheVariants.{Conflict, GaveUp, Aborted, Faulted}
use Rattle.stm_events.specs.declared.refusal.Denied.{Denied}
use Rattle.stm_world.specs.Task.{Task}
use Rattle.stm_world.specs.Log.{Line, is_id, runner_started, begun, running, store, known_after_log}
use Rattle.stm_world.specs.Headline.{OfEachLog, AreOfOneState}
use Rattle.stm_txn.specs.Standing.{Setup}

-- a property of every line of a log, which may look at the lines before it
abbrev pub EachLine : (List Line → Line → Type 0) → List Line → Type 0
EachLine P [] = Unit {0}
EachLine P (line ∷ older) = P older line × EachLine P older

-- ---- commits that failed ----

-- a commit that failed, as a conflict or a give-up reports it: whose it was, its key, what was seen of it, and its modification
-- revision now
pub record FailedCommit : Type 0 where
  pub runner : ℕ
  pub key : List ℕ
  pub seen : ℕ
  pub now_modified : ℕ

abbrev pub failed_commit : Result Reply Denied → Option FailedCommit
failed_commit (Ok (Conflict runner key seen now)) = Some record { runner = runner; key = key; seen = seen; now_modified = now }
failed_commit (Ok (GaveUp runner attempts key seen now)) = Some record { runner = runner; key = key; seen = seen; now_modified = now }
failed_commit other = None

-- The first compare of its commit that fails is a conflict about this key: what is reported as seen is what was seen of the key, and the other
-- number is the key's modification revision now.
pub record NamesAConflict (h : History) (level : Level) (reads : List ReadAnswer) (writes : List Change) (failed : FailedCommit) : Type 0 where
  pub compare : FailedCompare
  pub fails : conflict_now h level reads writes ≡ Some compare
  pub conflict : IsConflict h reads writes compare
  pub key : failed.key ≡ conflict.seen.key
  pub was : failed.seen ≡ conflict.seen.mod_rev
  pub is : failed.now_modified ≡ compare.mod_rev

-- The commit of a runner that runs after these lines and whose program is done on what it has read, its list first, which failed by a conflict
-- with the store that the lines lead to.
pub record IsRealFailure (start : Setup) (log : List Line) (failed : FailedCommit) : Type 0 where
  pub task : Task
  pub runs : running failed.runner log ≡ Some task
  pub has_list : is_due task.program.prefetch (known_after_log start failed.runner task log).reads ≡ false
  pub run : Run
  pub is_run : run_on task.program (known_after_log start failed.runner task log).reads ≡ EndedRun run
  pub is_done : run.end ≡ DoneEnd
  pub named : NamesAConflict (store start log).history task.level (known_after_log start failed.runner task log).reads (latest_writes run.writes) failed

abbrev pub IfFailedIsReal : Setup → List Line → Option FailedCommit → Type 0
IfFailedIsReal start log None = Unit {0}
IfFailedIsReal start log (Some failed) = IsRealFailure start log failed

-- Over every list of events, each conflict and each give-up that is reported is a real one.
abbrev pub FailuresAreConflicts : Type 0
FailuresAreConflicts =
    OfEachLog (λ (start : Setup) (log : List Line). EachLine (λ older line. IfFailedIsReal start older (failed_commit line.reply)) log)

-- ---- aborts and faults ----

-- an end without a commit, as an abort or a fault reports it
pub record Stopped : Type 0 where
  pub runner : ℕ
  pub end : End

abbrev pub stopped : Result Reply Denied → Option Stopped
stopped (Ok (Aborted runner text)) = Some record { runner = runner; end = AbortedEnd text }
stopped (Ok (Faulted runner fault)) = Some record { runner = runner; end = FaultedEnd fault }
stopped other = None

-- The attempt has come to this end on what it has read, its list first. That is of one state, the current one where nothing was read, and
-- the program run alone on this state comes to the same end.
pub record IsEndOnOneState (h : History) (task : Task) (reads : List ReadAnswer) (end : End) : Type 0 where
  pub has_list : is_due task.program.prefetch reads ≡ false
  pub state : AreOfOneState h task reads
  pub reached : revision_read h (base_of reads) ≤ now h
  pub run : Run
  pub is_run : run_on task.program reads ≡ EndedRun run
  pub alone : run_over (state_as_of h (revision_read h (base_of reads))) task.program.statements ≡ EndedRun run
  pub ends : run.end ≡ end

-- an end of a runner that runs after these lines: at a serializable level it is that on one state
pub record IsRealStop (start : Setup) (log : List Line) (stopped : Stopped) : Type 0 where
  pub task : Task
  pub runs : running stopped.runner log ≡ Some task
  pub of_one_state : is_serializable task.level ≡ true →
      IsEndOnOneState (store start log).history task (known_after_log start stopped.runner task log).reads stopped.end

abbrev pub IfStoppedIsReal : Setup → List Line → Option Stopped → Type 0
IfStoppedIsReal start log None = Unit {0}
IfStoppedIsReal start log (Some stopped) = IsRealStop start log stopped

-- Over every list of events, each abort and each fault that is reported at a serializable level is the end of the program run alone on
-- the state at one revision of the store, of which all that the attempt has read is true: also where the store has moved on since.
abbrev pub StopsAreOfOneState : Type 0
StopsAreOfOneState =
    OfEachLog (λ (start : Setup) (log : List Line). 1 ≤ start.revision → EachLine (λ older line. IfStoppedIsReal start older (stopped line.reply)) log)

-- ---- how far the store has moved on ----

-- the store's revision when the runner got its number
abbrev pub since : Setup → ℕ → List Line → ℕ
since start id [] = 0
since start id (line ∷ older) = if is_id id (runner_started line.reply) then now (store start older).history else since start id older

abbrev pub is_of_runner : ℕ → Option FailedCommit → Bool
is_of_runner id None = false
is_of_runner id (Some failed) = nat_eq failed.runner id

-- how many commits of the runner were reported to have failed, the one that its run gave up over among them
abbrev pub failed_commits : ℕ → List Line → ℕ
failed_commits id [] = 0
failed_commits id (line ∷ older) =
    if is_of_runner id (failed_commit line.reply) then failed_commits id older + 1 else failed_commits id older

-- Over every list of events, the store's revision has grown since a run's start by at least the number of the run's commits that failed.
-- A store does not open above the highest revision.
abbrev pub FailuresMoveOn : Type 0
FailuresMoveOn =
    OfEachLog (λ (start : Setup) (log : List Line). (id : ℕ) (task : Task) → start.revision ≤ HIGHEST_REVISION → begun id log ≡ Some task
    → since start id log + failed_commits id log ≤ now (store start log).history)
