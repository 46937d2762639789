-- What a run of a scenario's jobs does: from the bytes of a source to what is printed in a sink.
use Rattle.std.specs.Prelude.{◌≡◌, ℕ, List, [], ◌∷◌, ◌++◌, All, length, map, Bool, true, false, Option, Result, Ok, Err, IfSome, string_bytes}
use Rattle.std.specs.Io.KnownBytes.{Appends, Keeps}
use Rattle.stm_devices.specs.Transfers.{WritesFront}
use Rattle.stm_json.specs.declared.read_error.ReadError.{ReadError}
use Rattle.stm_json.specs.declared.read_error.ReadError.TheVariants.{OutOfMemory as NoRoom, Bad as BadText}
use Rattle.stm_json.specs.Outcome.{Outcome as Reading, ◌>>=◌}
use Rattle.stm_texts.specs.declared.scenario.Scenario.{Scenario}
use Rattle.stm_texts.specs.Reading.{scenario_in}
use Rattle.stm_devices.specs.Ends.{Devices, IsUntouched}
use Rattle.stm_job_texts.specs.declared.store_call.StoreCall.{StoreCall}
use Rattle.stm_journal.specs.JournalState.{JournalState, made_over}
use Rattle.stm_job.specs.declared.job.Job.{Job}
use Rattle.stm_job.specs.declared.job_end.JobEnd.{JobEnd}
use Rattle.stm_job.specs.declared.gathered.FaultCause.{FaultCause}
use Rattle.stm_job.specs.declared.gathered.FaultCause.TheVariants.{OutOfMemory as NoMemory, Spawn as NoThread, Audit as AtFault}
use Rattle.stm_workers.specs.Gathered.{RanTo, BrokeOff}
use Rattle.stm_threading.specs.declared.running.JobsFault.{JobsFault}
use Rattle.stm_threading.specs.declared.running.Printed.{Printed}
use Rattle.stm_threading.specs.declared.running.JobsFault.TheVariants.{OutOfMemory, Bad, Read, Write, Spawn, Audit}
use Rattle.stm_job_texts.specs.Accepting.{Sorted, task_of, accepted, opening_of}
use Rattle.stm_job_texts.specs.StoreAfter.{store_after}
use Rattle.stm_job_texts.specs.Lines.{AreLinesOf}
use Rattle.stm_job_texts.specs.Outcomes.{IsFrontOf, tally_text}
use Rattle.stm_job_texts.specs.Tallies.{Tally, Counts}
use Rattle.stm_threading.specs.declared.shown.Shown.{Shown}
use Rattle.stm_threading.specs.declared.shown.Shown.TheVariants.{Values, Ends, Outcome}
use Rattle.stm_threading.specs.declared.shown.Printing.{Printing}
use Rattle.stm_threading.specs.declared.shown.Printing.TheVariants.{Values as PrintValues, Ends as PrintEnds, Outcomes as PrintOutcomes}
use Rattle.stm_txn.specs.Standing.{Setup}

-- ---- the run

-- what is printed of a run, with the ends of the jobs or without; or the front of the line of its outcome
abbrev pub IsTextOf : Shown → List JobEnd → List (List (List ℕ)) → ℕ → ℕ → JournalState → List ℕ → Type 0
IsTextOf Values ends lost jobs committed after text = AreLinesOf false ends lost jobs committed after.standing.history text
IsTextOf Ends ends lost jobs committed after text = AreLinesOf true ends lost jobs committed after.standing.history text
IsTextOf Outcome ends lost jobs committed after text = IsFrontOf ends after text

-- The text is that of a run of these jobs from a hall over the store that opens so and has taken these calls: what stands in it is the hall that
-- the run came to, and each job has its end there.
pub record IsOfRun (shown : Shown) (start : Setup) (calls : List StoreCall) (jobs : List Job) (ends : List JobEnd) (text : List ℕ) : Type 0 where
  pub lost : List (List (List ℕ))
  pub committed : ℕ
  pub after : JournalState
  pub ran : RanTo (made_over (store_after start calls)) jobs ends lost committed after
  pub shows : IsTextOf shown ends lost (length jobs) committed after text

-- the text is the front of the line of the outcome of such a run
abbrev pub IsOutcome : Setup → List StoreCall → List Job → List ℕ → Type 0
IsOutcome start calls jobs text = (ends : List JobEnd) × IsOfRun Outcome start calls jobs ends text

-- one more text was counted, that of such a run
abbrev pub HasCounted : Setup → List StoreCall → List Job → Tally → Tally → Type 0
HasCounted start calls jobs before after =
    (text : List ℕ) × IsOutcome start calls jobs text
    × ((texts : List (List ℕ)) → Counts texts before → Counts (texts ++ text ∷ []) after)

-- The tally is that of `runs` texts, each of them that of such a run. That a run was made for each is the body's matter: two of them may be of
-- one run.
pub record AreCounted (runs : ℕ) (start : Setup) (calls : List StoreCall) (jobs : List Job) (tally : Tally) : Type 0 where
  pub texts : List (List ℕ)
  pub many : length texts ≡ runs
  pub each : All (IsOutcome start calls jobs) texts
  pub counted : Counts texts tally

-- what is printed of these jobs: of a run of them, in which they ended so, or what `runs` runs came to, of which no end is reported
abbrev pub IsPrintedOfJobs : Printing → Setup → List StoreCall → List Job → List JobEnd → List ℕ → Type 0
IsPrintedOfJobs PrintValues start calls jobs ends text = IsOfRun Values start calls jobs ends text
IsPrintedOfJobs PrintEnds start calls jobs ends text = IsOfRun Ends start calls jobs ends text
IsPrintedOfJobs (PrintOutcomes runs) start calls jobs ends text =
    (ends ≡ []) × (tally : Tally) × AreCounted runs start calls jobs tally × (text ≡ tally_text tally runs)

-- the run of these jobs, from such a hall, was broken off for this cause
pub record IsBrokenOffFor (start : Setup) (calls : List StoreCall) (jobs : List Job) (cause : FaultCause) : Type 0 where
  pub ends : List JobEnd
  pub after : JournalState
  pub broke : BrokeOff (made_over (store_after start calls)) jobs cause ends after

-- What is reported of a run of these jobs of which nothing is printed: the cause for which it was broken off. Memory may run out before the run and
-- after it, too.
abbrev pub IsBrokenOff : Setup → List StoreCall → List Job → JobsFault → Type 0
IsBrokenOff start calls jobs OutOfMemory = Unit {0}
IsBrokenOff start calls jobs Spawn = IsBrokenOffFor start calls jobs NoThread
IsBrokenOff start calls jobs (Audit job) = IsBrokenOffFor start calls jobs (AtFault job)
IsBrokenOff start calls jobs (Bad fault) = ⊥
IsBrokenOff start calls jobs Read = ⊥
IsBrokenOff start calls jobs Write = ⊥

-- what is reported of a run that was broken off, by its cause
abbrev pub fault_reported : FaultCause → JobsFault
fault_reported NoMemory = OutOfMemory
fault_reported NoThread = Spawn
fault_reported (AtFault job) = Audit job

-- what is reported of an input that could not be read as a scenario of jobs
abbrev pub fault_read : ReadError → JobsFault
fault_read NoRoom = OutOfMemory
fault_read (BadText fault) = Bad fault

-- a scenario of jobs was accepted, and the text is printed of them, whose ends are these
pub record IsPrintedOfScenario (printing : Printing) (s : Scenario) (ends : List JobEnd) (text : List ℕ) : Type 0 where
  pub sorted : Sorted
  pub is_accepted : accepted s ≡ Ok sorted
  pub jobs : List Job
  pub are_its : map task_of jobs ≡ sorted.tasks
  pub of_jobs : IsPrintedOfJobs printing (opening_of s) sorted.calls jobs ends text

-- a scenario of jobs was accepted, and the run of them was broken off for this cause
pub record IsBrokenOffAt (s : Scenario) (cause : FaultCause) : Type 0 where
  pub sorted : Sorted
  pub is_accepted : accepted s ≡ Ok sorted
  pub jobs : List Job
  pub are_its : map task_of jobs ≡ sorted.tasks
  pub of_run : IsBrokenOffFor (opening_of s) sorted.calls jobs cause

-- the first fault of a scenario that was read, or of reading it
abbrev pub judged : Reading Scenario → Reading Sorted
judged reading = reading >>= accepted

abbrev pub IsPrintedOf : Printing → Reading Scenario → List JobEnd → List ℕ → Type 0
IsPrintedOf printing reading ends text = (s : Scenario) × (reading ≡ Ok s) × IsPrintedOfScenario printing s ends text

abbrev pub IsBrokenOffOf : Reading Scenario → FaultCause → Type 0
IsBrokenOffOf reading cause = (s : Scenario) × (reading ≡ Ok s) × IsBrokenOffAt s cause

-- what making the lines answers: those of a run, or the first fault, or the cause for which the run was broken off
abbrev pub Answers : Printing → Reading Scenario → Result Printed JobsFault → Type 0
Answers printing reading (Ok p) = IsPrintedOf printing reading p.ends (string_bytes p.text)
Answers printing reading (Err (Bad fault)) = judged reading ≡ Err fault
Answers printing reading (Err Read) = ⊥
Answers printing reading (Err Write) = ⊥
Answers printing reading (Err OutOfMemory) = Unit {0}
Answers printing reading (Err Spawn) = IsBrokenOffOf reading NoThread
Answers printing reading (Err (Audit job)) = IsBrokenOffOf reading (AtFault job)

-- what writing them does: what the sink held before and holds, whether it has failed then, and the answer, which has the ends
abbrev pub Writes : Printing → List ℕ → Option (List ℕ) → Option (List ℕ) → Bool → Result (List JobEnd) JobsFault → Type 0
Writes printing bytes before after failed (Ok ends) =
    (failed ≡ false) × (text : List ℕ) × IsPrintedOf printing (scenario_in bytes) ends text × Appends before after text
Writes printing bytes before after failed (Err (Bad fault)) = (failed ≡ false) × Keeps before after × (judged (scenario_in bytes) ≡ Err fault)
Writes printing bytes before after failed (Err Read) = ⊥
Writes printing bytes before after failed (Err Write) =
    (failed ≡ true) × (text : List ℕ) × (ends : List JobEnd) × IsPrintedOf printing (scenario_in bytes) ends text × WritesFront before after text
Writes printing bytes before after failed (Err OutOfMemory) = (failed ≡ false) × Keeps before after
Writes printing bytes before after failed (Err Spawn) = (failed ≡ false) × Keeps before after × IsBrokenOffOf (scenario_in bytes) NoThread
Writes printing bytes before after failed (Err (Audit job)) = (failed ≡ false) × Keeps before after × IsBrokenOffOf (scenario_in bytes) (AtFault job)

-- ---- the devices

-- What a run did, by its answer. At the end of a good one exactly what is printed of it was written, and its jobs ended so; at a bad scenario, a run
-- that was broken off, which is reported by its cause, and a failed source nothing was; at a failed sink a front of the lines was.
abbrev pub Does : Printing → Devices → Result (List JobEnd) JobsFault → Type 0
Does printing d (Ok ends) =
    (d.source_failed ≡ false) × (d.sink_failed ≡ false)
    × IfSome d.input (λ input. (text : List ℕ) × IsPrintedOf printing (scenario_in input) ends text × Appends d.before d.after text)
Does printing d (Err (Bad fault)) = IsUntouched d × IfSome d.input (λ input. judged (scenario_in input) ≡ Err fault)
Does printing d (Err Read) = (d.source_failed ≡ true) × (d.sink_failed ≡ false) × Keeps d.before d.after
Does printing d (Err Write) =
    (d.source_failed ≡ false) × (d.sink_failed ≡ true)
    × IfSome d.input (λ input. (text : List ℕ) × (ends : List JobEnd) × IsPrintedOf printing (scenario_in input) ends text × WritesFront d.before d.after text)
Does printing d (Err OutOfMemory) = IsUntouched d
Does printing d (Err Spawn) = IsUntouched d × IfSome d.input (λ input. IsBrokenOffOf (scenario_in input) NoThread)
Does printing d (Err (Audit job)) = IsUntouched d × IfSome d.input (λ input. IsBrokenOffOf (scenario_in input) (AtFault job))
