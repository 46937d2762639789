-- What the end of a job says of a hall, and when the hall bears it out.
--
-- The documentation of the Go package `clientv3/concurrency`, "STM": a transaction whose commit fails is run again. That a job sends
-- at most `limit` commits, and then reports the key over which the last one failed, is our own; so is the look at all ends once the
-- threads have ended.
use Rattle.std.specs.Prelude.{◌≡◌, ℕ, ◌+◌, ◌<◌, ◌≤◌, ◌==◌, Bool, true, false, List, length, Option, None, Some, option_and_then, slice_get}
use Rattle.stm_history.specs.declared.key_state.ReadAnswer.{ReadAnswer}
use Rattle.stm_history.specs.History.{now}
use Rattle.stm_program.specs.Levels.{is_comparing, is_serializable}
use Rattle.stm_compile.specs.Conflicts.{IsChangedAbove}
use Rattle.stm_entries.specs.declared.entry.Entry.{Entry}
use Rattle.stm_entries.specs.declared.entry.Entry.TheVariants.{Program, Foreign, Grant, Renew, Revoke, Expire}
use Rattle.stm_journal.specs.JournalState.{JournalState}
use Rattle.stm_hall.specs.Showing.{AreShownAt}
use Rattle.stm_job.specs.declared.job.Job.{Job}
use Rattle.stm_job.specs.declared.job_end.JobEnd.{JobEnd}
use Rattle.stm_job.specs.declared.job_end.JobEnd.TheVariants.{Committed, Aborted, Faulted, Refused, GaveUp}
use Rattle.stm_workers.specs.declared.start_point.StartPoint.{StartPoint}

-- how far a hall had come when it was handed in: how many entries it had, and its store's counter
abbrev pub start_point : JournalState → StartPoint
start_point hall = record { entries = length hall.entries; revision = now hall.standing.history }

-- ---- ends

-- the entry is a commit of the job's program at its level, and this was the store's revision after it
abbrev pub IsCommitOf : Job → ℕ → Option Entry → Type 0
IsCommitOf job revision None = ⊥
IsCommitOf job revision (Some (Program program level answers output trace reached)) = (program ≡ job.program) × (level ≡ job.level) × (reached ≡ revision)
IsCommitOf job revision (Some (Foreign txn)) = ⊥
IsCommitOf job revision (Some (Grant id ttl moment)) = ⊥
IsCommitOf job revision (Some (Renew id moment)) = ⊥
IsCommitOf job revision (Some (Revoke id)) = ⊥
IsCommitOf job revision (Some (Expire id)) = ⊥

-- the entry that an end names
abbrev pub entry_named : JobEnd → Option ℕ
entry_named (Committed index revision) = Some index
entry_named (Aborted text reads) = None
entry_named (Faulted fault reads) = None
entry_named (Refused cause) = None
entry_named (GaveUp key) = None

-- the entry that it names is this one
abbrev pub names_entry : ℕ → JobEnd → Bool
names_entry index (Committed named revision) = named == index
names_entry index (Aborted text reads) = false
names_entry index (Faulted fault reads) = false
names_entry index (Refused cause) = false
names_entry index (GaveUp key) = false

-- a job gave up over this key: at a level that compares; the key was changed since the hall was handed in, and the counter has grown by
-- the commits that the job could send
abbrev pub IsGivenUp : StartPoint → JournalState → Job → List ℕ → Type 0
IsGivenUp begun hall job key =
    (is_comparing job.level ≡ true) × IsChangedAbove hall.standing.history begun.revision key × (begun.revision + job.limit ≤ now hall.standing.history)

-- What was read is of one state of the hall's history: at this revision, which is not before the one at which the hall was handed in. Where nothing
-- was read, any state serves.
pub record AreOfOneState (begun : StartPoint) (hall : JournalState) (reads : List ReadAnswer) : Type 0 where
  pub revision : ℕ
  pub begins : begun.revision ≤ revision
  pub reached : revision ≤ now hall.standing.history
  pub shown : AreShownAt hall.standing.history revision reads

-- a job may have aborted, or come to a fault, on these reads: at a serializable level they are of one state
abbrev pub MayHaveStopped : StartPoint → JournalState → Job → List ReadAnswer → Type 0
MayHaveStopped begun hall job reads = is_serializable job.level ≡ true → AreOfOneState begun hall reads

-- What an end says is so: a commit is an entry made since the hall was handed in, who gave up could, and so could who aborted or came to a fault. Of
-- a refusal nothing is said.
abbrev pub IsBorneOut : StartPoint → JournalState → Job → JobEnd → Type 0
IsBorneOut begun hall job (Committed index revision) = (begun.entries ≤ index) × IsCommitOf job revision (slice_get hall.entries index)
IsBorneOut begun hall job (GaveUp key) = IsGivenUp begun hall job key
IsBorneOut begun hall job (Aborted text reads) = MayHaveStopped begun hall job reads
IsBorneOut begun hall job (Faulted fault reads) = MayHaveStopped begun hall job reads
IsBorneOut begun hall job (Refused cause) = Unit {0}

abbrev pub BorneOutAt : StartPoint → JournalState → List Job → List JobEnd → ℕ → Type 0
BorneOutAt begun hall jobs ends place =
    (job : Job) (end : JobEnd) → slice_get jobs place ≡ Some job → slice_get ends place ≡ Some end → IsBorneOut begun hall job end

-- no end before this place names the entry
abbrev pub IsNew : List JobEnd → ℕ → ℕ → Type 0
IsNew ends place index = (k : ℕ) → k < place → option_and_then entry_named (slice_get ends k) ≡ Some index → ⊥

-- the end of a job stands: what it says is so, and no job before it has named its entry
pub record Stands (begun : StartPoint) (hall : JournalState) (ends : List JobEnd) (place : ℕ) (job : Job) (end : JobEnd) : Type 0 where
  pub borne_out : IsBorneOut begun hall job end
  pub is_new : (index : ℕ) → entry_named end ≡ Some index → IsNew ends place index

abbrev pub StandsAt : StartPoint → JournalState → List Job → List JobEnd → ℕ → Type 0
StandsAt begun hall jobs ends place =
    (job : Job) (end : JobEnd) → slice_get jobs place ≡ Some job → slice_get ends place ≡ Some end → Stands begun hall ends place job end

-- each does
abbrev pub AllStand : StartPoint → JournalState → List Job → List JobEnd → Type 0
AllStand begun hall jobs ends = (place : ℕ) → StandsAt begun hall jobs ends place

-- ---- a law

-- ends at two places name two entries
abbrev pub NameDifferentEntries : List JobEnd → Type 0
NameDifferentEntries ends =
    (j k index : ℕ) → option_and_then entry_named (slice_get ends j) ≡ Some index → option_and_then entry_named (slice_get ends k) ≡ Some index
    → j ≡ k

-- where all ends stand, each commit among them is an entry of its own
abbrev pub CommitsAreApart : Type 0
CommitsAreApart =
    (begun : StartPoint) (hall : JournalState) (jobs : List Job) (ends : List JobEnd) → length ends ≡ length jobs → AllStand begun hall jobs ends
    → NameDifferentEntries ends
