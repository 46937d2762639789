-- A log of events and replies, the newest first, and what follows from it of each runner, of the store and of the entries.
--
-- Nothing here knows how a world makes its replies.
use Rattle.std.specs.Prelude.{◌≡◌, ℕ, ◌+◌, nat_eq, Bool, true, false, ◌||◌, if◌then◌else◌, List, [], ◌∷◌, ◌++◌, map, reverse, Option, Some, None}
use Rattle.std.specs.Prelude.{Result, Ok, Err}
use Rattle.stm_history.specs.History.{History}
use Rattle.stm_steps.specs.declared.value.Value.{Value}
use Rattle.stm_steps.specs.declared.trace_item.TraceItem.{TraceItem}
use Rattle.stm_meaning.specs.Meaning.{run_over}
use Rattle.stm_txn.specs.Standing.{Standing, Setup, opening, with_history}
use Rattle.stm_attempt.specs.Known.{Known}
use Rattle.stm_entries.specs.declared.entry.Entry.{Entry}
use Rattle.stm_entries.specs.declared.entry.Entry.TheVariants.{Program}
use Rattle.stm_entries.specs.Replayed.{without_moment}
use Rattle.stm_entries.specs.Alone.{seen_at, left_by_run}
use Rattle.stm_events.specs.declared.event.WorldEvent.{WorldEvent}
use Rattle.stm_events.specs.declared.event.WorldEvent.TheVariants.{Start}
use Rattle.stm_events.specs.declared.reply.Reply.{Reply}
use Rattle.stm_events.specs.declared.reply.Reply.TheVariants.{Started, Prefetched, Fetched, Committed, Conflict}
use Rattle.stm_events.specs.declared.reply.CommittedRead.{CommittedRead}
use Rattle.stm_events.specs.declared.refusal.Denied.{Denied}
use Rattle.stm_events.specs.Replies.{reads_in, runner_of, ends_run}
use Rattle.stm_events.specs.Called.{Asked, Starts, Steps, Calls, asked, called, entered_by}
use Rattle.stm_world.specs.Task.{Task, nothing_known, answer_at, after_list, after_fetch, after_conflict}

-- an event and the reply to it
pub record Line : Type 0 where
  pub event : WorldEvent
  pub reply : Result Reply Denied

-- The log of these events and these replies: a line for each event with its reply, the newest first. Where there are more events than
-- replies, or more replies than events, there is none.
pub record IsLogOf (events : List WorldEvent) (replies : List (Result Reply Denied)) (log : List Line) : Type 0 where
  pub asked : map (λ (line : Line). line.event) log ≡ reverse events
  pub answered : map (λ (line : Line). line.reply) log ≡ reverse replies

-- ---- runners ----

-- what a start begins
abbrev pub task_in : WorldEvent → Option Task
task_in (Start program level limit) = Some record { program = program; level = level; limit = limit }
task_in other = None

abbrev pub is_id : ℕ → Option ℕ → Bool
is_id id None = false
is_id id (Some named) = nat_eq named id

-- the runner that a reply gives its number
abbrev pub runner_started : Result Reply Denied → Option ℕ
runner_started (Ok (Started runner)) = Some runner
runner_started other = None

-- the runner whose run a reply ends
abbrev pub runner_ended : Result Reply Denied → Option ℕ
runner_ended (Ok reply) = if ends_run reply then runner_of reply else None
runner_ended (Err refusal) = None

-- the runner whose conflict a reply reports
abbrev pub runner_in_conflict : Result Reply Denied → Option ℕ
runner_in_conflict (Ok (Conflict runner key seen now)) = Some runner
runner_in_conflict other = None

abbrev pub is_start : Option ℕ → Bool
is_start None = false
is_start (Some runner) = true

-- how many runners were started
abbrev pub started : List Line → ℕ
started [] = 0
started (line ∷ older) = if is_start (runner_started line.reply) then started older + 1 else started older

-- the start whose reply named the runner
abbrev pub begun : ℕ → List Line → Option Task
begun id [] = None
begun id (line ∷ older) = if is_id id (runner_started line.reply) then task_in line.event else begun id older

-- a reply has ended the runner's run
abbrev pub is_over : ℕ → List Line → Bool
is_over id [] = false
is_over id (line ∷ older) = is_id id (runner_ended line.reply) || is_over id older

-- the run of a runner that was started and has not ended
abbrev pub running : ℕ → List Line → Option Task
running id log = if is_over id log then None else begun id log

-- how many conflicts were reported of the runner
abbrev pub failures : ℕ → List Line → ℕ
failures id [] = 0
failures id (line ∷ older) = if is_id id (runner_in_conflict line.reply) then failures id older + 1 else failures id older

-- ---- the store ----

-- a program that has committed: it is run again alone at this moment, at ReadCommitted on the answers that were reported
abbrev pub with_commit : Standing → List CommittedRead → Option Task → Standing
with_commit s answers None = s
with_commit s answers (Some task) =
    with_history s (left_by_run (run_over (seen_at task.level (reads_in s.history answers) s.history) task.program.statements) (without_moment s)).history

-- what a step leaves of the store: only a commit changes it
abbrev pub store_after_step : (ℕ → Option Task) → Standing → Result Reply Denied → Standing
store_after_step task_of s (Ok (Committed runner revision attempts output trace answers)) = with_commit s answers (task_of runner)
store_after_step task_of s other = s

abbrev pub store_after_asked : (ℕ → Option Task) → Asked → Result Reply Denied → Standing → Standing
store_after_asked task_of (Starts program level limit) reply s = s
store_after_asked task_of (Steps runner) reply s = store_after_step task_of s reply
store_after_asked task_of (Calls c) reply s = (called s c).next

-- what an event leaves of the store
abbrev pub store_after : (ℕ → Option Task) → WorldEvent → Result Reply Denied → Standing → Standing
store_after task_of event reply s = store_after_asked task_of (asked event) reply s

-- the store, which opened so, after a log
abbrev pub store : Setup → List Line → Standing
store start [] = opening start
store start (line ∷ older) = store_after (λ id. begun id older) line.event line.reply (store start older)

-- ---- what a runner knows ----

-- a prefetched line adds the keys of the list as they are; a fetched line the key as it was at the reported revision; a conflict begins a new
-- attempt
abbrev pub known_after : ℕ → Task → History → Result Reply Denied → Known → Known
known_after id task h (Ok (Prefetched runner revision reads)) known = if nat_eq runner id then after_list task h known else known
known_after id task h (Ok (Fetched runner key mod_rev of_rev revision)) known =
    if nat_eq runner id then after_fetch task (answer_at h key of_rev) known else known
known_after id task h (Ok (Conflict runner key seen now)) known = if nat_eq runner id then after_conflict task h known else known
known_after id task h other known = known

-- what a runner with this task knows after a log: what was reported to it in its attempt, and what was prefetched for the attempt
abbrev pub known_after_log : Setup → ℕ → Task → List Line → Known
known_after_log start id task [] = nothing_known
known_after_log start id task (line ∷ older) = known_after id task (store start older).history line.reply (known_after_log start id task older)

-- ---- entries ----

-- the entry of a program that has committed: its run as it is reported, and at ReadCommitted the answers that are reported
abbrev pub commit_entry : History → ℕ → List Value → List TraceItem → List CommittedRead → Option Task → List Entry
commit_entry h revision output trace answers None = []
commit_entry h revision output trace answers (Some task) = Program task.program task.level (reads_in h answers) output trace revision ∷ []

-- of the replies to a step only a commit is an entry
abbrev pub entries_of_step : (ℕ → Option Task) → History → Result Reply Denied → List Entry
entries_of_step task_of h (Ok (Committed runner revision attempts output trace answers)) =
    commit_entry h revision output trace answers (task_of runner)
entries_of_step task_of h other = []

abbrev pub entries_asked : (ℕ → Option Task) → Standing → Standing → Asked → Result Reply Denied → List Entry
entries_asked task_of before after (Starts program level limit) reply = []
entries_asked task_of before after (Steps runner) reply = entries_of_step task_of before.history reply
entries_asked task_of before after (Calls c) reply = entered_by c before after reply

-- what an event is entered as: no start is
abbrev pub entries_of : (ℕ → Option Task) → Standing → Standing → WorldEvent → Result Reply Denied → List Entry
entries_of task_of before after event reply = entries_asked task_of before after (asked event) reply

-- what a line adds to the entries
abbrev pub line_entries : Setup → Line → List Line → List Entry
line_entries start line older =
    entries_of (λ id. begun id older) (store start older) (store start (line ∷ older)) line.event line.reply

-- the entries of a log, the oldest first
abbrev pub entries_reported : Setup → List Line → List Entry
entries_reported start [] = []
entries_reported start (line ∷ older) = entries_reported start older ++ line_entries start line older
