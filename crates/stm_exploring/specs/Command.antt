-- What the command `explore` does to its devices, its statuses, and what it says.
use Rattle.std.specs.Prelude.{◌≡◌, ℕ, List, Bool, true, false, Option, Result, Ok, Err, codes}
use Rattle.std.specs.Io.KnownBytes.{Appends, Keeps}
use Rattle.stm_devices.specs.Transfers.{WritesFront}
use Rattle.stm_program.specs.Syntax.{ProgramTree}
use Rattle.stm_program.specs.declared.level.Level.{Level}
use Rattle.stm_exploring.specs.declared.printed.Printed.{Printed}
use Rattle.stm_exploring.specs.declared.printed.SearchAnswer.{SearchAnswer}
use Rattle.stm_exploring.specs.declared.printed.SearchAnswer.TheVariants.{Kept, Broken, Open}
use Rattle.stm_exploring.specs.declared.question.Question.{Question}
use Rattle.stm_exploring.specs.declared.reading.ExploreFault.{ExploreFault}
use Rattle.stm_exploring.specs.declared.reading.ExploreFault.TheVariants.{OutOfMemory, BadScenario, BadProgram, BadWait, Device}
use Rattle.stm_explore.specs.declared.waits.Wait.{Wait}
use Rattle.stm_exploring.specs.declared.rules.Rule.{Rule}
use Rattle.stm_exploring.specs.Exploring.{Sources, ReadsProgram, Searches, SearchesFor}
use Rattle.stm_exploring.specs.Questions.{Gathers}
use Rattle.stm_exploring.specs.Levels.{SearchesLevels}
use Rattle.stm_faulted_runs.specs.Lines.{OrNothing}
use Rattle.stm_exploring.specs.Explaining.{KeptInput, Explained, ExplainsFault, ExplainsScenario, ExplainsProgram, ExplainsSearched}
use Rattle.stm_explain.specs.Saying.{bad_input, memory_fault, device_fault, Says, ReportsMore}

-- ---- answers and faults

abbrev pub verdict_status : SearchAnswer → ℕ
verdict_status Kept = 0
verdict_status Broken = 1
verdict_status Open = 4

-- 2 for bad input, 3 where memory ran out or a device failed
abbrev pub fault_status : ExploreFault → ℕ
fault_status OutOfMemory = 3
fault_status (BadScenario bad) = 2
fault_status (BadProgram bad) = 2
fault_status (BadWait bad) = 2
fault_status Device = 3

abbrev pub fault_message : ExploreFault → List ℕ
fault_message OutOfMemory = memory_fault
fault_message (BadScenario bad) = bad_input (codes "stmrun: bad scenario at ") bad
fault_message (BadProgram bad) = bad_input (codes "stmrun: bad program at ") bad
fault_message (BadWait bad) = bad_input (codes "stmrun: bad wait ") bad
fault_message Device = device_fault

-- ---- the sinks

-- a sink: what it held before and holds, and whether it has failed
pub record Sunk : Type 0 where
  pub before : Option (List ℕ)
  pub after : Option (List ℕ)
  pub failed : Bool

-- What was written of what a search answered: what it prints, a front of that where the sink has failed, and of a fault nothing.
abbrev pub Writes : Result Printed ExploreFault → Option (List ℕ) → Option (List ℕ) → Bool → Result SearchAnswer ExploreFault → Type 0
Writes (Ok p) before after failed (Ok verdict) = (verdict ≡ p.verdict) × (failed ≡ false) × Appends before after p.text
Writes (Ok p) before after failed (Err fault) = (fault ≡ Device) × (failed ≡ true) × WritesFront before after p.text
Writes (Err fault) before after failed result = (result ≡ Err fault) × (failed ≡ false) × Keeps before after

-- what is said and answered of a fault: its own message, what explains it after that, and its status
abbrev pub SaysMoreOf : Bool → (ExploreFault → List ℕ → Type 0) → Option (List ℕ) → Option (List ℕ) → Bool → ExploreFault → ℕ → Type 0
SaysMoreOf explain Explains before after failed fault status =
    ReportsMore (Explained explain (Explains fault)) (fault_status fault) (fault_message fault) before after failed status

-- ---- the command

-- after what is printed of a rule that is broken stands this, where faults are explained, and else nothing
abbrev pub SaysOfVerdict : Bool → SearchAnswer → List ℕ → Option (List ℕ) → Option (List ℕ) → Bool → Type 0
SaysOfVerdict false verdict more before after failed = (failed ≡ false) × Keeps before after
SaysOfVerdict true Broken more before after failed = Says before after failed more
SaysOfVerdict true other more before after failed = (failed ≡ false) × Keeps before after

abbrev pub RuleEndsBy : Bool → KeptInput → KeptInput → Result Printed ExploreFault → Sunk → Result SearchAnswer ExploreFault → ℕ → Type 0
RuleEndsBy explain scenario keeps searched err (Ok verdict) status =
    (status ≡ verdict_status verdict) × (more : List ℕ) × OrNothing (Explained explain (ExplainsSearched keeps searched)) more
    × SaysOfVerdict explain verdict more err.before err.after err.failed
RuleEndsBy explain scenario keeps searched err (Err fault) status = SaysMoreOf explain (ExplainsFault scenario keeps) err.before err.after err.failed fault status

abbrev pub RuleFinishes : Bool → KeptInput → KeptInput → Result Printed ExploreFault → Sunk → Sunk → ℕ → Type 0
RuleFinishes explain scenario keeps searched out err status =
    (ended : Result SearchAnswer ExploreFault) × Writes searched out.before out.after out.failed ended
    × RuleEndsBy explain scenario keeps searched err ended status

-- with a rule: it is explained, where faults are, where it is broken by a fault
abbrev pub Explores : Bool → List Wait → Option Level → KeptInput → KeptInput → Sources → Sunk → Sunk → ℕ → Type 0
Explores explain waits level scenario keeps sources out err status =
    (searched : Result Printed ExploreFault) × Searches waits level sources searched × RuleFinishes explain scenario keeps searched out err status

abbrev pub EndsBy : Bool → KeptInput → Sunk → Result SearchAnswer ExploreFault → ℕ → Type 0
EndsBy explain scenario err (Ok verdict) status = (status ≡ verdict_status verdict) × (err.failed ≡ false) × Keeps err.before err.after
EndsBy explain scenario err (Err fault) status = SaysMoreOf explain (ExplainsScenario scenario) err.before err.after err.failed fault status

abbrev pub Finishes : Bool → KeptInput → Result Printed ExploreFault → Sunk → Sunk → ℕ → Type 0
Finishes explain scenario gathered out err status =
    (ended : Result SearchAnswer ExploreFault) × Writes gathered out.before out.after out.failed ended × EndsBy explain scenario err ended status

-- the program of a rule was read, or it is said why not
abbrev pub ReadsRule : Bool → KeptInput → Option (List ℕ) → Bool → Sunk → Result ProgramTree ℕ → Type 0
ReadsRule explain rule known failed err (Ok program) = ReadsProgram known failed (Ok program) × (err.failed ≡ false) × Keeps err.before err.after
ReadsRule explain rule known failed err (Err status) =
    (fault : ExploreFault) × ReadsProgram known failed (Err fault)
    × SaysMoreOf explain (ExplainsProgram rule) err.before err.after err.failed fault status

-- with rules that are known
abbrev pub ExploresFor : Bool → List Wait → Option Level → List Rule → KeptInput → Option (List ℕ) → Bool → Sunk → Sunk → ℕ → Type 0
ExploresFor explain waits level rules scenario known failed out err status =
    (searched : Result Printed ExploreFault) × SearchesFor waits level rules known failed searched × Finishes explain scenario searched out err status

-- with these at each level
abbrev pub ExploresLevels : Bool → List Wait → List Rule → KeptInput → Option (List ℕ) → Bool → Sunk → Sunk → ℕ → Type 0
ExploresLevels explain waits rules scenario known failed out err status =
    (searched : Result Printed ExploreFault) × SearchesLevels waits rules known failed searched × Finishes explain scenario searched out err status

-- without one
abbrev pub GoesThrough : Bool → Question → Option Level → KeptInput → Option (List ℕ) → Bool → Sunk → Sunk → ℕ → Type 0
GoesThrough explain question level scenario known failed out err status =
    (gathered : Result Printed ExploreFault) × Gathers question level known failed gathered × Finishes explain scenario gathered out err status
