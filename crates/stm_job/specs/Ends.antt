-- Which jobs committed, and over which keys commits of jobs failed.
use Rattle.std.specs.Prelude.{ℕ, ◌+◌, List, [], ◌∷◌, ◌++◌, length, Bool, true, false}
use Rattle.stm_job.specs.declared.job_end.JobEnd.{JobEnd}
use Rattle.stm_job.specs.declared.job_end.JobEnd.TheVariants.{Committed, Aborted, Faulted, Refused, GaveUp}

abbrev pub is_committed : JobEnd → Bool
is_committed (Committed index revision) = true
is_committed (Aborted text reads) = false
is_committed (Faulted fault reads) = false
is_committed (Refused cause) = false
is_committed (GaveUp key) = false

-- how many attempts a job has made whose commits failed over these keys before its last one
abbrev pub attempts_of : List (List ℕ) → ℕ
attempts_of lost = length lost + 1

-- the key over which the last commit of a job failed that gave up
abbrev pub given_up_over : JobEnd → List (List ℕ)
given_up_over (Committed index revision) = []
given_up_over (Aborted text reads) = []
given_up_over (Faulted fault reads) = []
given_up_over (Refused cause) = []
given_up_over (GaveUp key) = key ∷ []

abbrev pub all_given_up_over : List JobEnd → List (List ℕ)
all_given_up_over [] = []
all_given_up_over (end ∷ ends) = given_up_over end ++ all_given_up_over ends

abbrev pub all_lost : List (List (List ℕ)) → List (List ℕ)
all_lost [] = []
all_lost (keys ∷ lost) = keys ++ all_lost lost

-- the keys over which commits of jobs failed, one for each: those before the last attempts, and those of jobs that gave up
abbrev pub failed_keys : List JobEnd → List (List (List ℕ)) → List (List ℕ)
failed_keys ends lost = all_lost lost ++ all_given_up_over ends
