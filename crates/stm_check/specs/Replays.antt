-- Whether the reply of a line that can stand in an event's place is what the replay gives.
--
-- The Go package `concurrency`, "STM": a program that committed did what it does alone at that moment.
use Rattle.std.specs.Prelude.{◌≡◌, ℕ, ◌+◌, ◌≤◌, MatchBool, List, [], ◌∷◌, map, Option, Some, None, option_map, Result, Ok, Err}
use Rattle.stm_history.specs.declared.key_state.KeyState.{KeyState}
use Rattle.stm_history.specs.History.{History, now, key_at, mod_of}
use Rattle.stm_program.specs.declared.level.Level.{Level}
use Rattle.stm_steps.specs.declared.value.Value.{Value}
use Rattle.stm_steps.specs.declared.trace_item.TraceItem.{TraceItem}
use Rattle.stm_program.specs.Levels.{is_comparing}
use Rattle.stm_txn.specs.Standing.{Standing}
use Rattle.stm_entries.specs.Replayed.{without_moment}
use Rattle.stm_entries.specs.Legal.{IsCommit}
use Rattle.stm_events.specs.declared.event.WorldEvent.{WorldEvent}
use Rattle.stm_events.specs.declared.refusal.Denied.{Denied}
use Rattle.stm_events.specs.declared.refusal.EventRefusal.TheVariants.{BadLimit, NoRunner}
use Rattle.stm_events.specs.declared.reply.CommittedRead.{CommittedRead}
use Rattle.stm_events.specs.declared.reply.Reply.{Reply}
use Rattle.stm_events.specs.declared.reply.Reply.TheVariants.{Committed}
use Rattle.stm_events.specs.Replies.{reads_in, denied}
use Rattle.stm_events.specs.Called.{Call, Watch, Poll, Cancel, Asked, Starts, Steps, Calls, asked, called}
use Rattle.stm_events.specs.FirstReads.{keys_first_read}
use Rattle.stm_check.specs.declared.runner.Runner.{Runner}
use Rattle.stm_check.specs.Runners.{running}

-- ---- commits

-- An answer is true where it says what the key was at a revision that the history has reached.
pub record IsTrulyReported (h : History) (a : CommittedRead) : Type 0 where
  pub reached : a.of_rev ≤ now h
  pub value : a.value ≡ option_map (λ (s : KeyState). s.value) (key_at h a.key a.of_rev)
  pub modified : a.mod_rev ≡ mod_of (key_at h a.key a.of_rev)

abbrev pub AreTrulyReported : History → List CommittedRead → Type 0
AreTrulyReported h [] = Unit {0}
AreTrulyReported h (a ∷ answers) = IsTrulyReported h a × AreTrulyReported h answers

abbrev pub keys_reported : List CommittedRead → List (List ℕ)
keys_reported answers = map (λ (a : CommittedRead). a.key) answers

-- At ReadCommitted the answers are of the keys of the program's list and of the others that the run looked up, in the order of the first reads, and
-- each is true; at the other levels there are none.
abbrev pub AnswersFit : Level → History → List (List ℕ) → List CommittedRead → Type 0
AnswersFit level h reads answers =
    MatchBool (is_comparing level) (answers ≡ []) ((keys_reported answers ≡ reads) × AreTrulyReported h answers)

-- A commit is right where its program, run alone on the store at this point, or on the answers at ReadCommitted, has this output and
-- trace and leads to this revision, and it is one attempt more than the runner's conflicts and one that the run may send.
pub record IsRightCommit (s : Standing) (r : Runner) (revision attempts : ℕ) (output : List Value) (trace : List TraceItem)
    (answers : List CommittedRead) : Type 0 where
  pub commit : IsCommit r.program r.level (reads_in s.history answers) output trace revision (without_moment s)
  pub answers_fit : AnswersFit r.level s.history (keys_first_read r.program.prefetch commit.run.reads) answers
  pub attempt : attempts ≡ r.conflicts + 1
  pub may_be_sent : attempts ≤ r.limit

abbrev pub IsCommitOf : Standing → Option Runner → ℕ → ℕ → List Value → List TraceItem → List CommittedRead → Type 0
IsCommitOf s None revision attempts output trace answers = ⊥
IsCommitOf s (Some r) revision attempts output trace answers = IsRightCommit s r revision attempts output trace answers

-- ---- replies that are not wholly replayed

-- a start is refused exactly where it may send no commit
abbrev pub StartReplays : ℕ → Result Reply Denied → Type 0
StartReplays limit (Err refused) = (limit ≡ 0) × (denied BadLimit ≡ Err refused)
StartReplays limit other = Unit {0}

-- a step is refused exactly where the runner does not run; of its other replies only a commit is replayed
abbrev pub StepReplays : Standing → Option Runner → Result Reply Denied → Type 0
StepReplays s runner (Err refused) = (runner ≡ None) × (denied NoRunner ≡ Err refused)
StepReplays s runner (Ok (Committed id revision attempts output trace answers)) = IsCommitOf s runner revision attempts output trace answers
StepReplays s runner other = Unit {0}

-- ---- the reply to an event

-- a call of the store has exactly the reply that a world has, a refusal too; what is about watchers is not replayed
abbrev pub CallReplays : Standing → Call → Result Reply Denied → Type 0
CallReplays s (Watch keys from) replied = Unit {0}
CallReplays s (Poll watcher most) replied = Unit {0}
CallReplays s (Cancel watcher) replied = Unit {0}
CallReplays s call replied = (called s call).reply ≡ replied

abbrev pub AskedReplays : Standing → List Runner → Asked → Result Reply Denied → Type 0
AskedReplays s runners (Starts program level limit) replied = StartReplays limit replied
AskedReplays s runners (Steps id) replied = StepReplays s (running id runners) replied
AskedReplays s runners (Calls call) replied = CallReplays s call replied

abbrev pub Replays : Standing → List Runner → WorldEvent → Result Reply Denied → Type 0
Replays s runners event replied = AskedReplays s runners (asked event) replied
