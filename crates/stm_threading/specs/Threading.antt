-- What the command `threads` does to its devices, its statuses, and what it says.
use Rattle.std.specs.Prelude.{◌≡◌, ℕ, suc, List, [], ◌∷◌, ◌++◌, Bool, true, false, Option, Result, Ok, Err, codes}
use Rattle.std.specs.Io.KnownBytes.{Keeps}
use Rattle.stm_devices.specs.Ends.{Devices}
use Rattle.stm_texts.specs.Reading.{scenario_in}
use Rattle.stm_job.specs.declared.job_end.JobEnd.{JobEnd}
use Rattle.stm_job.specs.declared.job_end.JobEnd.TheVariants.{Faulted}
use Rattle.stm_faulted_runs.specs.Lines.{OrNothing}
use Rattle.stm_faulted_runs.specs.Jobs.{ReportedJob, ExplainsJobs}
use Rattle.stm_threading.specs.declared.running.JobsFault.{JobsFault}
use Rattle.stm_threading.specs.declared.running.JobsFault.TheVariants.{OutOfMemory, Bad, Read, Write, Spawn, Audit}
use Rattle.stm_threading.specs.declared.shown.Printing.{Printing}
use Rattle.stm_threading.specs.Running.{Does}
use Rattle.stm_explain.specs.Explaining.{ExplainsOrNothing}
use Rattle.stm_explain.specs.Saying.{bad_input, memory_fault, device_fault, thread_fault, audit_fault, Reports, ReportsMore, SaysSome}

-- 2 for bad input, 3 where memory ran out, a device failed, a thread could not be started or an end does not stand
abbrev pub fault_status : JobsFault → ℕ
fault_status OutOfMemory = 3
fault_status (Bad fault) = 2
fault_status Read = 3
fault_status Write = 3
fault_status Spawn = 3
fault_status (Audit job) = 3

abbrev pub fault_message : JobsFault → List ℕ
fault_message OutOfMemory = memory_fault
fault_message (Bad bad) = bad_input (codes "stmrun: bad scenario at ") bad
fault_message Read = device_fault
fault_message Write = device_fault
fault_message Spawn = thread_fault
fault_message (Audit job) = audit_fault job

-- what is said and answered of a fault: its own message and status
abbrev pub SaysOf : Option (List ℕ) → Option (List ℕ) → Bool → JobsFault → ℕ → Type 0
SaysOf before after failed fault status = Reports (fault_status fault) (fault_message fault) before after failed status

-- a bad scenario is explained, that was kept under this name as this text, or nothing is said; of another fault nothing is
abbrev pub Explains : List ℕ → List ℕ → JobsFault → List ℕ → Type 0
Explains name text (Bad bad) more = ExplainsOrNothing name text more
Explains name text other more = more ≡ []

-- the same with an explanation after the message
abbrev pub SaysMoreOf : List ℕ → List ℕ → Option (List ℕ) → Option (List ℕ) → Bool → JobsFault → ℕ → Type 0
SaysMoreOf name text before after failed fault status =
    ReportsMore (Explains name text fault) (fault_status fault) (fault_message fault) before after failed status

-- with one where faults are explained, and else without
abbrev pub SaysBy : Bool → List ℕ → List ℕ → Option (List ℕ) → Option (List ℕ) → Bool → JobsFault → ℕ → Type 0
SaysBy false name text before after failed fault status = SaysOf before after failed fault status
SaysBy true name text before after failed fault status = SaysMoreOf name text before after failed fault status

-- the jobs that came to a fault, of those that ended so, of which the first has this number
abbrev pub faulted_job : ℕ → JobEnd → List ReportedJob
faulted_job job (Faulted fault reads) = record { job = job; fault = fault; reads = reads } ∷ []
faulted_job job other = []

abbrev pub faulted_jobs : ℕ → List JobEnd → List ReportedJob
faulted_jobs job [] = []
faulted_jobs job (end ∷ ends) = faulted_job job end ++ faulted_jobs (suc job) ends

-- what is said of the jobs that came to a fault, of the scenario that was kept under this name as this text
abbrev pub SaysJobs : List ℕ → List ℕ → List JobEnd → Option (List ℕ) → Option (List ℕ) → Bool → Type 0
SaysJobs name text ends before after failed = SaysSome (OrNothing (ExplainsJobs name text (scenario_in text) (faulted_jobs 0 ends))) before after failed

-- a good end: where faults are explained, those of the jobs are
abbrev pub SaysOfEnds : Bool → List ℕ → List ℕ → List JobEnd → Option (List ℕ) → Option (List ℕ) → Bool → Type 0
SaysOfEnds false name text ends before after failed = (failed ≡ false) × Keeps before after
SaysOfEnds true name text ends before after failed = SaysJobs name text ends before after failed

abbrev pub EndsBy : Bool → List ℕ → List ℕ → Option (List ℕ) → Option (List ℕ) → Bool → Result (List JobEnd) JobsFault → ℕ → Type 0
EndsBy explained name text before after failed (Ok ends) status = (status ≡ 0) × SaysOfEnds explained name text ends before after failed
EndsBy explained name text before after failed (Err fault) status = SaysBy explained name text before after failed fault status

-- What the command does to its devices, and its status: what is to be printed of the jobs is written, with status 0 at a good end, at which the jobs
-- that came to a fault are explained or nothing is said, and else it is said what went wrong.
abbrev pub Ends : Bool → List ℕ → List ℕ → Printing → Devices → Option (List ℕ) → Option (List ℕ) → Bool → ℕ → Type 0
Ends explained name text printing devices before after failed status =
    (ended : Result (List JobEnd) JobsFault) × Does printing devices ended × EndsBy explained name text before after failed ended status
