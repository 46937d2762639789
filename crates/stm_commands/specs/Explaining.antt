-- What the commands do that explain, where they are to, a bad input after what they say of it, and runs that came to a fault.
use Rattle.std.specs.Prelude.{◌≡◌, ℕ, List, [], Bool, true, false, Option, Result, Ok, Err}
use Rattle.std.specs.Io.KnownBytes.{Keeps}
use Rattle.stm_report.specs.declared.run_script.ScriptFault.{ScriptFault}
use Rattle.stm_report.specs.declared.run_script.ScriptFault.TheVariants.{Bad}
use Rattle.stm_devices.specs.Ends.{Devices as ScriptDevices}
use Rattle.stm_report.specs.declared.format.Format.{Format}
use Rattle.stm_formats.specs.declared.format_label.RunnerLabel.{RunnerLabel}
use Rattle.stm_report.specs.FormatScript.{DoesAs}
use Rattle.stm_check.specs.declared.checking.Checked.{Checked}
use Rattle.stm_check.specs.declared.sources.CheckFault.{CheckFault}
use Rattle.stm_check.specs.declared.sources.CheckFault.TheVariants.{BadScenario, BadReport}
use Rattle.stm_report.specs.declared.whole_comparing.WholeChecked.{WholeChecked}
use Rattle.stm_texts.specs.Reading.{scenario_in}
use Rattle.stm_faulted_runs.specs.Lines.{OrNothing, ExplainsRun}
use Rattle.stm_explain.specs.Explaining.{ExplainsOrNothing}
pub use Rattle.stm_explain.specs.Saying.{ReportsMore, SaysSome}
use Rattle.stm_commands.specs.Statuses.{status_of, message_of}
use Rattle.stm_commands.specs.Checking.{Devices, Does, answer_status, fault_status as check_status, fault_message as check_message}
use Rattle.stm_commands.specs.WholeChecking.{Does as WholeDoes, SaysOfAnswer}

-- what explains a fault, where faults are explained, and else nothing
abbrev pub Explained : Bool → (List ℕ → Type 0) → List ℕ → Type 0
Explained false Explains more = more ≡ []
Explained true Explains more = Explains more

-- ---- script

-- a bad scenario is explained, that was kept under this name as this text, or nothing is said; of another fault nothing is
abbrev pub ScriptExplains : List ℕ → List ℕ → ScriptFault → List ℕ → Type 0
ScriptExplains name text (Bad bad) more = ExplainsOrNothing name text more
ScriptExplains name text other more = more ≡ []

abbrev pub ScriptSays : Bool → List ℕ → List ℕ → Option (List ℕ) → Option (List ℕ) → Bool → ScriptFault → ℕ → Type 0
ScriptSays explain name text before after failed fault status =
    ReportsMore (Explained explain (ScriptExplains name text fault)) (status_of fault) (message_of fault) before after failed status

-- what is said of the runs that came to a fault, of the scenario that was kept under this name as this text
abbrev pub SaysRuns : List ℕ → List ℕ → Option (List ℕ) → Option (List ℕ) → Bool → Type 0
SaysRuns name text before after failed = SaysSome (OrNothing (ExplainsRun name text (scenario_in text))) before after failed

-- a good end: where faults are explained, those of the runs are
abbrev pub SaysOfRuns : Bool → List ℕ → List ℕ → Option (List ℕ) → Option (List ℕ) → Bool → Type 0
SaysOfRuns false name text before after failed = (failed ≡ false) × Keeps before after
SaysOfRuns true name text before after failed = SaysRuns name text before after failed

abbrev pub ScriptEndsBy : {A : Type 0} → Bool → List ℕ → List ℕ → Option (List ℕ) → Option (List ℕ) → Bool → Result A ScriptFault → ℕ → Type 0
ScriptEndsBy explain name text before after failed (Ok u) status = (status ≡ 0) × SaysOfRuns explain name text before after failed
ScriptEndsBy explain name text before after failed (Err fault) status = ScriptSays explain name text before after failed fault status

abbrev pub ScriptEnds : Bool → Format → List RunnerLabel → List ℕ → List ℕ → ScriptDevices → Option (List ℕ) → Option (List ℕ) → Bool → ℕ → Type 0
ScriptEnds explain format labels name text devices before after failed status =
    (ended : Result (Unit {0}) ScriptFault) × DoesAs format labels devices ended × ScriptEndsBy explain name text before after failed ended status

-- ---- check, and check of each line

-- the names of the two inputs, and the texts as which they were kept
pub record Inputs : Type 0 where
  pub scenario_name : List ℕ
  pub scenario_text : List ℕ
  pub report_name : List ℕ
  pub report_text : List ℕ

-- the input is explained that is bad, or nothing is said; of another fault nothing is
abbrev pub CheckExplains : Inputs → CheckFault → List ℕ → Type 0
CheckExplains inputs (BadScenario bad) more = ExplainsOrNothing inputs.scenario_name inputs.scenario_text more
CheckExplains inputs (BadReport bad) more = ExplainsOrNothing inputs.report_name inputs.report_text more
CheckExplains inputs other more = more ≡ []

abbrev pub CheckSays : Bool → Inputs → Option (List ℕ) → Option (List ℕ) → Bool → CheckFault → ℕ → Type 0
CheckSays explain inputs before after failed fault status =
    ReportsMore (Explained explain (CheckExplains inputs fault)) (check_status fault) (check_message fault) before after failed status

abbrev pub CheckEndsBy : Bool → Inputs → Option (List ℕ) → Option (List ℕ) → Bool → Result Checked CheckFault → ℕ → Type 0
CheckEndsBy explain inputs before after failed (Ok checked) status = (status ≡ answer_status checked) × (failed ≡ false) × Keeps before after
CheckEndsBy explain inputs before after failed (Err fault) status = CheckSays explain inputs before after failed fault status

abbrev pub CheckEnds : Bool → Inputs → Devices → Option (List ℕ) → Option (List ℕ) → Bool → ℕ → Type 0
CheckEnds explain inputs devices before after failed status =
    (ended : Result Checked CheckFault) × Does devices ended × CheckEndsBy explain inputs before after failed ended status

abbrev pub WholeCheckEndsBy : Bool → Inputs → Option (List ℕ) → Option (List ℕ) → Bool → Result WholeChecked CheckFault → ℕ → Type 0
WholeCheckEndsBy explain inputs before after failed (Ok checked) status = SaysOfAnswer before after failed checked status
WholeCheckEndsBy explain inputs before after failed (Err fault) status = CheckSays explain inputs before after failed fault status

abbrev pub WholeCheckEnds : Bool → Inputs → Devices → Option (List ℕ) → Option (List ℕ) → Bool → ℕ → Type 0
WholeCheckEnds explain inputs devices before after failed status =
    (ended : Result WholeChecked CheckFault) × WholeDoes devices ended × WholeCheckEndsBy explain inputs before after failed ended status
