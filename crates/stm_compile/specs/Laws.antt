-- The laws of commits, each carried by a function of `src/laws.rt`. Above them no proof speaks of a transaction's parts.
use Rattle.std.specs.Prelude.{◌≡◌, ℕ, ◌<◌, ◌≤◌, true, List, length, map, None, Some, All}
use Rattle.stm_history.specs.declared.change.Change.{Change}
use Rattle.stm_history.specs.declared.key_state.ReadAnswer.{ReadAnswer}
use Rattle.stm_history.specs.History.{History, key_now, mod_of, key_of}
use Rattle.stm_program.specs.Syntax.{Block}
use Rattle.stm_program.specs.declared.level.Level.{Level}
use Rattle.stm_program.specs.declared.level.Level.TheVariants.{SerializableSnapshot}
use Rattle.stm_program.specs.Writes.{latest_writes}
use Rattle.stm_steps.specs.declared.run.Run.{Run}
use Rattle.stm_steps.specs.declared.run.Answered.TheVariants.{Ended}
use Rattle.stm_meaning.specs.Meaning.{run_over}
use Rattle.stm_meaning.specs.Laws.{IsContinuedBy}
use Rattle.stm_outcome.specs.declared.answer.FailedCompare.{FailedCompare}
use Rattle.stm_outcome.specs.Outcome.{outcome, with_changes}
use Rattle.stm_outcome.specs.Commits.{effective, turned_down}
use Rattle.stm_compile.specs.Now.{changes_of_writes}
use Rattle.stm_program.specs.Levels.{is_comparing}
use Rattle.stm_outcome.specs.declared.answer.OpAnswer.TheVariants.{Get as GetAnswer}
use Rattle.stm_outcome.specs.Terms.{Terms}
use Rattle.stm_compile.specs.Answers.{seen_of, said, look_up, state_now, state_as_of, AreTrue, answer_now}
use Rattle.stm_compile.specs.CommitTxn.{first_carried, commit_of, reread_keys}
use Rattle.stm_compile.specs.Committed.{conflict_now, committed}
use Rattle.stm_compile.specs.Conflicts.{IsConflict}

-- The transaction of a run whose keys are not empty comes to the run's commit.
abbrev pub CommitComesTo : Type 0
CommitComesTo =
    (terms : Terms) (level : Level) (reads : List ReadAnswer) (run : Run) →
    All (λ (a : ReadAnswer). 0 < length a.key) reads → All (λ w. 0 < length (key_of w)) (latest_writes run.writes)
    → outcome terms (commit_of level reads (latest_writes run.writes)) ≡ committed terms level reads run

-- A commit reads no revision by its number, so it comes to the same at every floor.
abbrev pub CommitHasNoFloor : Type 0
CommitHasNoFloor =
    (terms : Terms) (floor : ℕ) (level : Level) (reads : List ReadAnswer) (run : Run) →
    committed (record terms { floor = floor }) level reads run ≡ committed terms level reads run

-- At a comparing level, where no compare fails, the run on true answers is the run of the program on the state now.
abbrev pub CommitIsTheRunNow : Type 0
CommitIsTheRunNow =
    (h : History) (level : Level) (reads : List ReadAnswer) (writes : List Change) (program : Block) (run : Run) →
    is_comparing level ≡ true → AreTrue h reads → run_over (look_up reads) program ≡ Ended run → conflict_now h level reads writes ≡ None
    → run_over (state_now h) program ≡ Ended run

-- each answer says of its key what the key is now, by its value and its modification revision
abbrev pub AreNow : History → List ReadAnswer → Type 0
AreNow h reads = All (λ (a : ReadAnswer). said a ≡ seen_of (key_now h a.key)) reads

-- At a comparing level, where no compare fails, true answers say what their keys are now.
abbrev pub TrueReadsAreNow : Type 0
TrueReadsAreNow =
    (h : History) (level : Level) (reads : List ReadAnswer) (writes : List Change) → is_comparing level ≡ true → AreTrue h reads
    → conflict_now h level reads writes ≡ None → AreNow h reads

-- A failed compare is a conflict.
abbrev pub FailedComparesConflict : Type 0
FailedComparesConflict =
    (h : History) (level : Level) (reads : List ReadAnswer) (writes : List Change) (failed : FailedCompare) →
    AreTrue h reads → conflict_now h level reads writes ≡ Some failed → IsConflict h reads writes failed

-- Where no compare of a commit at serializable snapshot fails, no key that it writes is modified above the least revision that its
-- answers carry: it is absent, also where it was deleted since, or what it holds was put at that revision or before.
abbrev pub WrittenKeysAreUnmodified : Type 0
WrittenKeysAreUnmodified =
    (h : History) (reads : List ReadAnswer) (writes : List Change) → conflict_now h SerializableSnapshot reads writes ≡ None
    → All (λ w. mod_of (key_now h (key_of w)) ≤ first_carried reads) writes

-- Where true answers all show one revision, the run on them is continued by the run on the state at that revision.
abbrev pub AnswersOfOneRevision : Type 0
AnswersOfOneRevision =
    (h : History) (r : ℕ) (reads : List ReadAnswer) (program : Block) → AreTrue h reads → All (λ (a : ReadAnswer). a.of_rev ≡ r) reads
    → IsContinuedBy (run_over (look_up reads) program) (run_over (state_as_of h r) program)

-- Answers stay true as the history grows.
abbrev pub TrueAnswersStay : Type 0
TrueAnswersStay = (h : History) (changes : List Change) (reads : List ReadAnswer) → AreTrue h reads → AreTrue (with_changes h changes) reads

-- What a commit applies is the effect of the run's writes on the state as it is now.
abbrev pub AppliedIsEffect : Type 0
AppliedIsEffect = (h : History) (writes : List Change) → effective h (latest_writes writes) ≡ changes_of_writes h writes

-- A commit that is turned down reports the keys that it reads again as they are now, and changes nothing.
pub record Rereads (h : History) (level : Level) (reads : List ReadAnswer) (failed : FailedCompare) : Type 0 where
  pub reported : (turned_down h failed (reread_keys level reads)).answer.answers ≡ map (λ a. GetAnswer a) (map (answer_now h) (reread_keys level reads))
  pub true_now : AreTrue h (map (answer_now h) (reread_keys level reads))
  pub unchanged : (turned_down h failed (reread_keys level reads)).history ≡ h

abbrev pub FailedCommitRereads : Type 0
FailedCommitRereads = (h : History) (level : Level) (reads : List ReadAnswer) (failed : FailedCompare) → Rereads h level reads failed
