-- From the run of the jobs to what is printed of it, and from there to what the devices saw.
use Rattle.std.proofs.Common.{◌≡◌, ℕ, List, length, map, Result, Ok, Err, IfOk, IfErr, IfSome, false, refl, sym, ap, subst, ◌∙◌, take, string_bytes}
use Rattle.std.specs.Io.KnownBytes.{Appends}
use Rattle.stm_devices.specs.Transfers.{WritesFront}
use Rattle.stm_devices.specs.declared.transfer.TheConstants.{MOST_READ}
use Rattle.stm_json.specs.declared.read_error.ReadError.{ReadError}
use Rattle.stm_json.specs.declared.read_error.ReadError.TheVariants as error
use Rattle.stm_json.specs.Outcome.{Outcome as Reading}
use Rattle.stm_json.specs.Returns.{ReturnsFault}
use Rattle.stm_texts.specs.declared.scenario.Scenario.{Scenario}
use Rattle.stm_job_texts.specs.declared.store_call.StoreCall.{StoreCall}
use Rattle.stm_devices.specs.Ends.{Devices}
use Rattle.stm_texts.proofs.Fronts.{pending_of_revision}
use Rattle.stm_txn.specs.Standing.{Standing, Setup}
use Rattle.stm_journal.specs.JournalState.{JournalState, made_over}
use Rattle.stm_job.specs.declared.job.Job.{Job}
use Rattle.stm_job.specs.declared.job_end.JobEnd.{JobEnd}
use Rattle.stm_job.specs.declared.gathered.FaultCause.{FaultCause}
use Rattle.stm_job.specs.declared.gathered.FaultCause.TheVariants.{OutOfMemory as NoMemory, Spawn as NoThread, Audit as AtFault}
use Rattle.stm_workers.specs.Gathered.{RanTo, BrokeOff}
use Rattle.stm_threading.specs.declared.running.JobsFault.{JobsFault}
use Rattle.stm_threading.specs.declared.running.Printed.{Printed}
use Rattle.stm_threading.specs.declared.running.JobsFault.TheVariants.{OutOfMemory, Bad, Read, Write, Spawn, Audit}
use Rattle.stm_job_texts.specs.Accepting.{Sorted, task_of, accepted, opening_of}
use Rattle.stm_job_texts.specs.StoreAfter.{store_after}
use Rattle.stm_threading.specs.declared.shown.Printing.{Printing}
use Rattle.stm_threading.specs.declared.shown.Shown.{Shown}
use Rattle.stm_threading.specs.Running.{IsTextOf, IsOfRun, IsPrintedOfJobs, IsBrokenOffFor, IsBrokenOff, IsBrokenOffOf, IsPrintedOf}
use Rattle.stm_threading.specs.Running.{fault_reported, fault_read, judged, Answers, Writes, Does}

-- what follows of two things that hold of a value holds of it
pub of_both : {T E : Type 0} (r : Result T E) (P Q R : T → Type 0) → IfOk r P → IfOk r Q → ((x : T) → P x → Q x → R x) → IfOk r R
of_both (Ok x) P Q R p q follows = follows x p q
of_both (Err e) P Q R p q follows = tt

-- ---- the run

-- the text is of the hall that the jobs were run to, from the one over this store
pub is_of_run : (shown : Shown) (start : Setup) (calls : List StoreCall) (jobs : List Job) (text : List ℕ) (standing : Standing) (ends : List JobEnd)
    (lost : List (List (List ℕ))) (committed : ℕ) (before after : JournalState) → standing ≡ store_after start calls → before ≡ made_over standing
    → RanTo before jobs ends lost committed after → IsTextOf shown ends lost (length jobs) committed after text
    → IsOfRun shown start calls jobs ends text
is_of_run shown start calls jobs text standing ends lost committed before after stands made ran shows = record {
  lost = lost;
  committed = committed;
  after = after;
  ran = subst (λ (hall : JournalState). RanTo hall jobs ends lost committed after) (made ∙ ap made_over stands) ran;
  shows = shows;
}

-- a run from the hall over this store that was broken off is reported by its cause
pub broken_off : (start : Setup) (calls : List StoreCall) (jobs : List Job) (fault : JobsFault) (cause : FaultCause) (standing : Standing) (ends : List JobEnd)
    (before after : JournalState) → standing ≡ store_after start calls → before ≡ made_over standing
    → BrokeOff before jobs cause ends after → fault ≡ fault_reported cause → IsBrokenOff start calls jobs fault
broken_off start calls jobs fault cause standing ends before after stands made broke reported =
    subst (λ (f : JobsFault). IsBrokenOff start calls jobs f) (sym reported)
    (by_cause cause (record {
      ends = ends;
      after = after;
      broke = subst (λ (hall : JournalState). BrokeOff hall jobs cause ends after) (made ∙ ap made_over stands) broke;
    }))
  where
    by_cause : (c : FaultCause) → IsBrokenOffFor start calls jobs c → IsBrokenOff start calls jobs (fault_reported c)
    by_cause NoMemory broken = tt
    by_cause NoThread broken = broken
    by_cause (AtFault job) broken = broken

-- one that was not is reported as out of memory
pub no_room : (start : Setup) (calls : List StoreCall) (jobs : List Job) (fault : JobsFault) → fault ≡ OutOfMemory → IsBrokenOff start calls jobs fault
no_room start calls jobs fault reported = subst (λ (f : JobsFault). IsBrokenOff start calls jobs f) (sym reported) tt

-- ---- what is answered

broken_at : (s : Scenario) (sorted : Sorted) (start : Setup) (calls : List StoreCall) (jobs : List Job) (cause : FaultCause) → accepted s ≡ Ok sorted
    → start ≡ opening_of s → calls ≡ sorted.calls → map task_of jobs ≡ sorted.tasks → IsBrokenOffFor start calls jobs cause → IsBrokenOffOf (Ok s) cause
broken_at s sorted start calls jobs cause is_accepted opens called are_its broken = (
  s,
  refl,
  record {
    sorted = sorted;
    is_accepted = is_accepted;
    jobs = jobs;
    are_its = are_its;
    of_run = subst (λ (cs : List StoreCall). IsBrokenOffFor (opening_of s) cs jobs cause) called
        (subst (λ n. IsBrokenOffFor n calls jobs cause) opens broken);
  },
)

module _ (printing : Printing) where
  -- of a scenario that was accepted: the lines of a run of its jobs, or a run that was broken off
  pub answers_of : (s : Scenario) (sorted : Sorted) (start : Setup) (calls : List StoreCall) (jobs : List Job) (result : Result Printed JobsFault)
      → accepted s ≡ Ok sorted → start ≡ opening_of s → calls ≡ sorted.calls → map task_of jobs ≡ sorted.tasks
      → IfOk result (λ p. IsPrintedOfJobs printing start calls jobs p.ends (string_bytes p.text)) → IfErr result (IsBrokenOff start calls jobs)
      → Answers printing (Ok s) result
  answers_of s sorted start calls jobs (Ok p) is_accepted opens called are_its printed broken =
      let from_there : IsPrintedOfJobs printing (opening_of s) calls jobs p.ends (string_bytes p.text) =
      subst (λ n. IsPrintedOfJobs printing n calls jobs p.ends (string_bytes p.text)) opens printed in (
        s,
        refl,
        record {
          sorted = sorted;
          is_accepted = is_accepted;
          jobs = jobs;
          are_its = are_its;
          of_jobs = subst (λ (cs : List StoreCall). IsPrintedOfJobs printing (opening_of s) cs jobs p.ends (string_bytes p.text)) called from_there;
        },
      )
  answers_of s sorted start calls jobs (Err OutOfMemory) is_accepted opens called are_its printed broken = tt
  answers_of s sorted start calls jobs (Err Spawn) is_accepted opens called are_its printed broken =
      broken_at s sorted start calls jobs NoThread is_accepted opens called are_its broken
  answers_of s sorted start calls jobs (Err (Audit job)) is_accepted opens called are_its printed broken =
      broken_at s sorted start calls jobs (AtFault job) is_accepted opens called are_its broken
  answers_of s sorted start calls jobs (Err (Bad fault)) is_accepted opens called are_its printed broken = absurd broken
  answers_of s sorted start calls jobs (Err Read) is_accepted opens called are_its printed broken = absurd broken
  answers_of s sorted start calls jobs (Err Write) is_accepted opens called are_its printed broken = absurd broken

  -- of one that was not accepted, and of an input that is none: its first fault
  of_fault : (reading : Reading Scenario) (e : ReadError) → ReturnsFault e (judged reading) → Answers printing reading (Err (fault_read e))
  of_fault reading error.OutOfMemory reported = tt
  of_fault reading (error.Bad fault) reported = reported

  pub answers_fault : (reading : Reading Scenario) (e : ReadError) (result : Result Printed JobsFault) → ReturnsFault e (judged reading)
      → result ≡ Err (fault_read e) → Answers printing reading result
  answers_fault reading e result reported is = subst (λ (r : Result Printed JobsFault). Answers printing reading r) (sym is) (of_fault reading e reported)

-- the fault of reading is that of what was read
pub judged_unread : (reading : Reading Scenario) (e : ReadError) → ReturnsFault e reading → ReturnsFault e (judged reading)
judged_unread reading error.OutOfMemory reported = tt
judged_unread reading (error.Bad fault) reported = ap judged reported

-- ---- the devices

-- what was done for the bytes that were read was done for the input
pub does_of : (printing : Printing) (d : Devices) (bytes : List ℕ) (result : Result (List JobEnd) JobsFault) → IfSome d.input (λ all. bytes ≡ take MOST_READ all)
    → d.source_failed ≡ false → Writes printing bytes d.before d.after d.sink_failed result → Does printing d result
does_of printing d bytes (Ok ends) read works did =
    (works, did.0, pending_of_revision bytes d.input (λ outcome. (text : List ℕ) × IsPrintedOf printing outcome ends text × Appends d.before d.after text) read (did.1, did.2, did.3))
does_of printing d bytes (Err (Bad fault)) read works did = ((works, did.0, did.1), pending_of_revision bytes d.input (λ outcome. judged outcome ≡ Err fault) read did.2)
does_of printing d bytes (Err Read) read works did = absurd did
does_of printing d bytes (Err Write) read works did = (
  works,
  did.0,
  pending_of_revision bytes d.input (λ outcome. (text : List ℕ) × (ends : List JobEnd) × IsPrintedOf printing outcome ends text × WritesFront d.before d.after text) read
      (did.1, did.2, did.3, did.4),
)
does_of printing d bytes (Err OutOfMemory) read works did = (works, did.0, did.1)
does_of printing d bytes (Err Spawn) read works did =
    ((works, did.0, did.1), pending_of_revision bytes d.input (λ outcome. IsBrokenOffOf outcome NoThread) read did.2)
does_of printing d bytes (Err (Audit job)) read works did =
    ((works, did.0, did.1), pending_of_revision bytes d.input (λ outcome. IsBrokenOffOf outcome (AtFault job)) read did.2)
