-- The explanations of jobs that came to a fault.
use Rattle.std.specs.Prelude.{◌≡◌, ℕ, List, [], ◌++◌, map, Some, Ok, Err, codes, decimal}
use Rattle.stm_history.specs.declared.key_state.ReadAnswer.{ReadAnswer}
use Rattle.stm_steps.specs.declared.fault.Fault.{Fault}
use Rattle.stm_steps.specs.Faults.{fault_name}
use Rattle.stm_json.specs.Outcome.{Outcome}
use Rattle.stm_texts.specs.declared.scenario.Scenario.{Scenario}
use Rattle.stm_faulted_runs.specs.declared.jobs.FaultedJob.{FaultedJob}
use Rattle.stm_faulted_runs.specs.Lines.{FaultReport, origin_of, ExplainsEach}

-- a job that came to a fault, and what its last attempt had read
pub record ReportedJob : Type 0 where
  pub job : ℕ
  pub fault : Fault
  pub reads : List ReadAnswer

-- what contracts see of it
abbrev pub reported_job : FaultedJob → ReportedJob
reported_job job = record { job = job.job; fault = job.fault; reads = job.reads.now }

-- the number of a job, its fault, and what it had read
abbrev pub reported_of_job : ReportedJob → FaultReport
reported_of_job job = record {
  head = codes "job " ++ decimal job.job ++ codes ": " ++ fault_name job.fault;
  fault = job.fault;
  number = job.job;
  reads = Some job.reads;
}

-- what is said of jobs of a scenario; nothing where there is no scenario
abbrev pub ExplainsJobs : List ℕ → List ℕ → Outcome Scenario → List ReportedJob → List ℕ → Type 0
ExplainsJobs name text (Ok s) jobs said = ExplainsEach (origin_of name text s) (map reported_of_job jobs) said
ExplainsJobs name text (Err bad) jobs said = said ≡ []
