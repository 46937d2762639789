-- What the command `check` does to its devices, its statuses, and what it says.
use Rattle.std.specs.Prelude.{◌≡◌, ◌⊎◌, ℕ, List, ◌++◌, Bool, true, false, Option, Result, Ok, Err, codes, decimal}
use Rattle.std.specs.Io.KnownBytes.{Appends, Keeps}
use Rattle.stm_devices.specs.Transfers.{WritesFront}
use Rattle.stm_check.specs.declared.checking.Checked.{Checked}
use Rattle.stm_check.specs.declared.checking.Checked.TheVariants.{Yes, No}
use Rattle.stm_check.specs.declared.sources.CheckFault.{CheckFault}
use Rattle.stm_check.specs.declared.sources.CheckFault.TheVariants.{OutOfMemory, BadScenario, BadReport, Device}
use Rattle.stm_check.specs.CauseNames.{cause_name as wrong_cause_name}
use Rattle.stm_check.specs.Sources.{Sources, Judges, NoneFailed}
use Rattle.stm_commands.specs.Statuses.{bad_input, memory_fault, device_fault, Reports}

-- ---- answers

abbrev pub answer_status : Checked → ℕ
answer_status Yes = 0
answer_status (No line cause) = 1

abbrev pub answer_text : Checked → List ℕ
answer_text Yes = codes "yes\n"
answer_text (No line cause) = codes "no " ++ decimal line ++ codes " " ++ wrong_cause_name cause ++ codes "\n"

-- ---- faults

-- 2 for bad input, 3 where memory ran out or a device failed
abbrev pub fault_status : CheckFault → ℕ
fault_status OutOfMemory = 3
fault_status (BadScenario fault) = 2
fault_status (BadReport fault) = 2
fault_status Device = 3

abbrev pub fault_message : CheckFault → List ℕ
fault_message OutOfMemory = memory_fault
fault_message (BadScenario bad) = bad_input (codes "stmrun: bad scenario at ") bad
fault_message (BadReport bad) = bad_input (codes "stmrun: bad report at ") bad
fault_message Device = device_fault

-- ---- a check of either kind, each line against the definition or the whole report against the one that a script writes

-- the devices at the end: the sources, what the sink held before and holds, and whether it has failed
pub record Devices : Type 0 where
  pub sources : Sources
  pub before : Option (List ℕ)
  pub after : Option (List ℕ)
  pub sink_failed : Bool

-- What a check did, by its answer, given the line of each answer and when the sources are answered so. At an answer its line was written; at a
-- bad input, out of memory and a failed source nothing was; at a failed sink a front of the line was.
abbrev pub DoesTo : {C : Type 0} → (C → List ℕ) → (Sources → Result C CheckFault → Type 0) → Devices → Result C CheckFault → Type 0
DoesTo {C} line IsAnswered d (Ok answer) = IsAnswered d.sources (Ok answer) × (d.sink_failed ≡ false) × Appends d.before d.after (line answer)
DoesTo {C} line IsAnswered d (Err OutOfMemory) = NoneFailed d.sources × (d.sink_failed ≡ false) × Keeps d.before d.after
DoesTo {C} line IsAnswered d (Err (BadScenario fault)) =
    IsAnswered d.sources (Err (BadScenario fault)) × (d.sink_failed ≡ false) × Keeps d.before d.after
DoesTo {C} line IsAnswered d (Err (BadReport fault)) =
    IsAnswered d.sources (Err (BadReport fault)) × (d.sink_failed ≡ false) × Keeps d.before d.after
DoesTo {C} line IsAnswered d (Err Device) =
    (IsAnswered d.sources (Err Device) × (d.sink_failed ≡ false) × Keeps d.before d.after)
    ⊎ ((d.sink_failed ≡ true) × (answer : C) × IsAnswered d.sources (Ok answer) × WritesFront d.before d.after (line answer))

-- ---- the command

-- what `check` did, by its answer
abbrev pub Does : Devices → Result Checked CheckFault → Type 0
Does d result = DoesTo answer_text Judges d result

-- what is said and answered of a fault: its own message and status
abbrev pub SaysOf : Option (List ℕ) → Option (List ℕ) → Bool → CheckFault → ℕ → Type 0
SaysOf before after failed fault status = Reports (fault_status fault) (fault_message fault) before after failed status

abbrev pub EndsBy : Option (List ℕ) → Option (List ℕ) → Bool → Result Checked CheckFault → ℕ → Type 0
EndsBy before after failed (Ok checked) status = (status ≡ answer_status checked) × (failed ≡ false) × Keeps before after
EndsBy before after failed (Err fault) status = SaysOf before after failed fault status

-- The command's end: an answer, with its status and nothing said, or a fault, with what is said of it.
abbrev pub Ends : Devices → Option (List ℕ) → Option (List ℕ) → Bool → ℕ → Type 0
Ends devices before after failed status =
    (ended : Result Checked CheckFault) × Does devices ended × EndsBy before after failed ended status
