-- Commits of jobs, among the entries of a hall.
use Rattle.std.specs.Prelude.{◌≡◌, ℕ, ◌≤◌, Bool, true, false, List, length, Some, slice_get, count_by}
use Rattle.stm_entries.specs.declared.entry.Entry.{Entry}
use Rattle.stm_entries.specs.declared.entry.Entry.TheVariants.{Program, Foreign, Grant, Renew, Revoke, Expire}
use Rattle.stm_journal.specs.JournalState.{JournalState}
use Rattle.stm_job.specs.declared.job.Job.{Job}

abbrev pub is_commit : Entry → Bool
is_commit (Program program level answers output trace revision) = true
is_commit (Foreign txn) = false
is_commit (Grant id ttl moment) = false
is_commit (Renew id moment) = false
is_commit (Revoke id) = false
is_commit (Expire id) = false

abbrev pub commits_in : List Entry → ℕ
commits_in entries = count_by is_commit entries

-- an entry is a commit of one of these jobs: of its program, at its level
abbrev pub IsOfAJob : List Job → Entry → Type 0
IsOfAJob jobs (Program program level answers output trace revision) =
    (place : ℕ) × (job : Job) × (slice_get jobs place ≡ Some job) × (program ≡ job.program) × (level ≡ job.level)
IsOfAJob jobs (Foreign txn) = ⊥
IsOfAJob jobs (Grant id ttl moment) = ⊥
IsOfAJob jobs (Renew id moment) = ⊥
IsOfAJob jobs (Revoke id) = ⊥
IsOfAJob jobs (Expire id) = ⊥

-- what a hall has beyond the entries of another are commits of these jobs
abbrev pub TookCommitsOf : List Job → JournalState → JournalState → Type 0
TookCommitsOf jobs before after =
    (index : ℕ) (entry : Entry) → length before.entries ≤ index → slice_get after.entries index ≡ Some entry → IsOfAJob jobs entry
