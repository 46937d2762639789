-- What an attempt came to.
use Rattle.std.specs.Prelude.{ℕ, List}
use Rattle.stm_job.specs.declared.job_end.JobEnd.{JobEnd}
use Rattle.stm_workers.specs.declared.attempts.AttemptOutcome.{AttemptOutcome}
use Rattle.stm_workers.specs.declared.attempts.AttemptOutcome.TheVariants.{Ended, Again}

abbrev pub IfEnded : (JobEnd → Type 0) → AttemptOutcome → Type 0
IfEnded says (Ended end) = says end
IfEnded says (Again key) = Unit {0}

-- the key over which the commit failed
abbrev pub IfAgain : (List ℕ → Type 0) → AttemptOutcome → Type 0
IfAgain says (Ended end) = Unit {0}
IfAgain says (Again key) = says key
