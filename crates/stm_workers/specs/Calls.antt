-- What the value under the lock keeps, and what a worker calls it with: facts that are written as equations, since a value keeps them.
use Rattle.std.specs.Prelude.{◌≡◌, ℕ, nat_eq, max, Bool, false, ◌&&◌, List, [], fold, length, take, drop, cond, if◌then◌else◌, Result}
use Rattle.std.specs.List.{list_all, list_any}
use Rattle.atomic_table.specs.Seated.{TableId}
use Rattle.stm_history.specs.declared.key_state.ReadAnswer.{ReadAnswer}
use Rattle.stm_program.specs.Syntax.{ProgramTree}
use Rattle.stm_program.specs.SameProgram.{same_program}
use Rattle.stm_program.specs.declared.level.Level.{Level}
use Rattle.stm_program.specs.declared.level.Level.TheVariants.{SerializableSnapshot, Serializable, RepeatableReads, ReadCommitted}
use Rattle.stm_outcome.specs.declared.txn.Txn.{Txn}
use Rattle.stm_outcome.specs.declared.answer.TxnAnswer.{TxnAnswer}
use Rattle.stm_txn.specs.Standing.{opening, at_revision, with_history}
use Rattle.stm_attempt.specs.AttemptState.{AttemptState, IsOf}
use Rattle.stm_attempt.specs.ReadyRun.{ReadyRun}
use Rattle.stm_entries.specs.declared.entry.Entry.{Entry}
use Rattle.stm_entries.specs.declared.entry.Entry.TheVariants.{Program, Foreign, Grant, Renew, Revoke, Expire}
use Rattle.stm_journal.specs.declared.refusal.FetchRefusal.{FetchRefusal}
use Rattle.stm_journal.specs.declared.refusal.CommitRefusal.{CommitRefusal}
use Rattle.stm_journal.specs.Fetching.{fetched, FetchReturns}
use Rattle.stm_journal.specs.Verdicts.{verdict_of, CommitReturns}
use Rattle.stm_journal.specs.declared.verdict.Verdict.{Verdict}
use Rattle.stm_journal.specs.declared.verdict.Verdict.TheVariants.{Committed, Failed}
use Rattle.stm_journal.specs.JournalState.{JournalState, journal_of, made_over}
use Rattle.stm_hall.specs.Locked.{opening_of}
use Rattle.stm_job.specs.declared.job.Job.{Job}
use Rattle.stm_job.specs.declared.job_end.JobEnd.{JobEnd}
use Rattle.stm_job.specs.Ends.{is_committed}

-- the hall has gone on from another: that one's entries are its first ones, and it began as that one did
abbrev pub HasGoneOn : JournalState → JournalState → Type 0
HasGoneOn before after =
    (take (length before.entries) after.entries ≡ before.entries) × (after.start ≡ before.start) × ((opening_of after).history ≡ (opening_of before).history)
    × ((id : ℕ) → (opening_of after).is_live id ≡ (opening_of before).is_live id)

-- the store of a hall is as another's but for its history: the floor, the limit of operations, the leases with their terms, the moment and the
-- watchers are the same
abbrev pub HasKeptStore : JournalState → JournalState → Type 0
HasKeptStore before after = after ≡ journal_of (with_history before.standing after.standing.history) after.entries after.start

-- ---- what a run takes

abbrev pub level_number : Level → ℕ
level_number SerializableSnapshot = 0
level_number Serializable = 1
level_number RepeatableReads = 2
level_number ReadCommitted = 3

abbrev pub same_level : Level → Level → Bool
same_level a b = nat_eq (level_number a) (level_number b)

-- the program and the level are those of this job
abbrev pub is_run_of : ProgramTree → Level → Job → Bool
is_run_of program level job = same_program program job.program && same_level level job.level

-- they are those of some job
abbrev pub is_run_of_some : List Job → ProgramTree → Level → Bool
is_run_of_some jobs program level = list_any (is_run_of program level) jobs

-- an entry is a commit of some job
abbrev pub is_of_some : List Job → Entry → Bool
is_of_some jobs (Program program level answers output trace revision) = is_run_of_some jobs program level
is_of_some jobs (Foreign txn) = false
is_of_some jobs (Grant id ttl moment) = false
is_of_some jobs (Renew id moment) = false
is_of_some jobs (Revoke id) = false
is_of_some jobs (Expire id) = false

abbrev pub are_of_jobs : List Job → List Entry → Bool
are_of_jobs jobs entries = list_all (is_of_some jobs) entries

-- what a hall has beyond the entries of another are commits of these jobs
abbrev pub takes_commits_of : List Job → JournalState → JournalState → Bool
takes_commits_of jobs before after = are_of_jobs jobs (drop (length before.entries) after.entries)

-- an attempt is one of a job, and what is ready is a run of it
abbrev pub IsOfJob : Job → AttemptState → Type 0
IsOfJob job attempt = IsOf job.program attempt × (attempt.level ≡ job.level)

abbrev pub IsRunOfJob : Job → ReadyRun → Type 0
IsRunOfJob job ready = (ready.program ≡ job.program) × (ready.level ≡ job.level)

-- ---- what a worker has seen

-- the greatest of a revision and those that answers carry
abbrev pub greatest_carried : ℕ → List ReadAnswer → ℕ
greatest_carried seen answers = fold (λ greatest (a : ReadAnswer). max greatest a.revision) seen answers

-- what a worker has seen after a verdict: the greatest of what it had seen and what the verdict carries
abbrev pub seen_after : ℕ → Verdict → ℕ
seen_after seen (Committed index revision) = max seen revision
seen_after seen (Failed key was now answers) = greatest_carried seen answers

-- a fetch at a revision is shown at that one, and one at 0 at the store's
abbrev pub shown_at : ℕ → ℕ → ℕ
shown_at at revision = if nat_eq at 0 then revision else at

-- ---- in some hall

-- What a fetch answered, in whichever hall it was made: one whose store is that of the hall handed in, but for its history.
abbrev pub AnswersInSomeHall : JournalState → ℕ → Txn → Result TxnAnswer FetchRefusal → Type 0
AnswersInSomeHall handed seen txn result = (hall : JournalState) × HasKeptStore handed hall × FetchReturns (fetched hall.standing seen txn) result

-- the verdict on a ready attempt, or its refusal, in whichever such hall it was sent
abbrev pub JudgedInSomeHall : JournalState → ReadyRun → Result Verdict CommitRefusal → Type 0
JudgedInSomeHall handed ready result =
    (before : JournalState) × (after : JournalState) × HasKeptStore handed before × CommitReturns (verdict_of before ready) before result after

-- how many commits a verdict counts
abbrev pub committed_by : Verdict → ℕ
committed_by (Committed index revision) = 1
committed_by (Failed key seen now answers) = 0

-- what stands in the place of a run where there is none
abbrev pub no_table : TableId
no_table = record { words = 0; slots = 0; views_name = 0; atom = 0; block = 0; offset = 0; slot_names = [] }

abbrev pub no_hall : JournalState
no_hall = made_over (opening (at_revision 1))

-- how many commits the end of a job counts
abbrev pub counted_end : JobEnd → ℕ
counted_end end = cond (is_committed end) 1 0
