-- The run that the line of a commit stands for, and what its writes make of a store.
use Rattle.std.specs.Prelude.{◌≡◌, ℕ, List, Option, Some, None, Result, Ok, Err}
use Rattle.stm_history.specs.History.{History, now}
use Rattle.stm_program.specs.Syntax.{ProgramTree}
use Rattle.stm_program.specs.declared.level.Level.{Level}
use Rattle.stm_steps.specs.declared.run.Run.{Run}
use Rattle.stm_steps.specs.declared.run.Answered.{Answered}
use Rattle.stm_steps.specs.declared.run.Answered.TheVariants.{Ended, Wants}
use Rattle.stm_meaning.specs.Answer.{Lookup}
use Rattle.stm_meaning.specs.Meaning.{run_over}
use Rattle.stm_outcome.specs.declared.refusal.Refusal.{Refusal}
use Rattle.stm_outcome.specs.Outcome.{Done}
use Rattle.stm_txn.specs.Standing.{Standing, with_history}
use Rattle.stm_entries.specs.Alone.{seen_at, applied_run, history_left}
use Rattle.stm_entries.specs.Replayed.{without_moment}
use Rattle.stm_events.specs.FirstReads.{keys_first_read}
use Rattle.stm_events.specs.declared.reply.CommittedRead.{CommittedRead}
use Rattle.stm_events.specs.Replies.{reads_in}
use Rattle.stm_check.specs.Replays.{AnswersFit, keys_reported}

-- ---- the run

-- the run that came to its end
abbrev pub run_in : Answered → Option Run
run_in (Ended run) = Some run
run_in (Wants key trace) = None

-- the run is the program's, alone on this history, or on the answers at ReadCommitted, which are then those that it looked up
pub record IsRunReported (level : Level) (h : History) (program : ProgramTree) (answers : List CommittedRead) (run : Run) : Type 0 where
  pub is_run : run_over (seen_at level (reads_in h answers) h) program.statements ≡ Ended run
  pub answers_fit : AnswersFit level h (keys_first_read program.prefetch run.reads) answers

-- such a run was found, or there is none
abbrev pub IsFound : Level → History → ProgramTree → List CommittedRead → Option Run → Type 0
IsFound level h program answers (Some run) = IsRunReported level h program answers run
IsFound level h program answers None = (run : Run) → ¬ IsRunReported level h program answers run

-- the run on these look-ups is this one, and these answers are of the keys that are read first, or there is no such run
abbrev pub IsRunOn : Lookup → ProgramTree → List CommittedRead → Option Run → Type 0
IsRunOn look program answers (Some run) =
    (run_over look program.statements ≡ Ended run) × (keys_reported answers ≡ keys_first_read program.prefetch run.reads)
IsRunOn look program answers None =
    (run : Run) → run_over look program.statements ≡ Ended run → keys_reported answers ≡ keys_first_read program.prefetch run.reads → ⊥

-- ---- its writes

-- the revision that a store has come to, if it took the writes
abbrev pub revision_reached : Result Done Refusal → Option ℕ
revision_reached (Ok done) = Some (now done.history)
revision_reached (Err cause) = None

-- the store once a run's writes are applied, which stays as it is where it refuses them
abbrev pub with_writes : Standing → Run → Standing
with_writes s run = with_history s (history_left s.history (applied_run (without_moment s) run))
