-- What a search does: from the bytes of a scenario and of a rule's program to what is printed.
use Rattle.std.specs.Prelude.{◌≡◌, ◌⊎◌, ℕ, List, [], ◌∷◌, Bool, true, false, Option, None, Result, Ok, Err, IfSome}
use Rattle.stm_devices.specs.declared.transfer.ReadFault.{ReadFault}
use Rattle.stm_devices.specs.declared.transfer.ReadFault.TheVariants.{OutOfMemory as NoRoom, Device as NoDevice}
use Rattle.stm_json.specs.Outcome.{Outcome, ◌>>=◌}
use Rattle.stm_program.specs.Syntax.{ProgramTree}
use Rattle.stm_program.specs.declared.level.Level.{Level}
use Rattle.stm_program_texts.specs.Reading.{program_in}
use Rattle.stm_texts.specs.declared.scenario.Scenario.{Scenario}
use Rattle.stm_texts.specs.Reading.{scenario_in}
use Rattle.stm_explore.specs.declared.waits.Wait.{Wait}
use Rattle.stm_exploring.specs.declared.reading.ExploreFault.{ExploreFault}
use Rattle.stm_exploring.specs.declared.reading.ExploreFault.TheVariants.{OutOfMemory, BadScenario, BadProgram, BadWait, Device}
use Rattle.stm_exploring.specs.declared.printed.Printed.{Printed}
use Rattle.stm_exploring.specs.Asking.{asked}
use Rattle.stm_exploring.specs.Waits.{first_stranger, IsWaitFault}
use Rattle.stm_exploring.specs.declared.rules.Rule.{Rule}
use Rattle.stm_exploring.specs.declared.rules.RuleAnswer.{RuleAnswer}
use Rattle.stm_exploring.specs.Judging.{AreFound, alone, verdict_of_all, answers_text}

-- ---- what bytes spell

-- a scenario, as it is asked about
abbrev pub asked_in : Option Level → List ℕ → Outcome Scenario
asked_in level bytes = scenario_in bytes >>= (λ s. Ok (asked level s))

-- ---- one source: its bytes, where they are known, whether it has failed then, and the answer

-- what is answered where a source could not be read to its end
abbrev pub fault_of_read : ReadFault → ExploreFault
fault_of_read NoRoom = OutOfMemory
fault_of_read NoDevice = Device

-- what reading its scenario did
abbrev pub ReadsScenario : Option Level → Option (List ℕ) → Bool → Result Scenario ExploreFault → Type 0
ReadsScenario level known failed (Ok s) = (failed ≡ false) × IfSome known (λ all. asked_in level all ≡ Ok s)
ReadsScenario level known failed (Err OutOfMemory) = failed ≡ false
ReadsScenario level known failed (Err (BadScenario fault)) = (failed ≡ false) × IfSome known (λ all. asked_in level all ≡ Err fault)
ReadsScenario level known failed (Err (BadProgram fault)) = ⊥
ReadsScenario level known failed (Err (BadWait fault)) = ⊥
ReadsScenario level known failed (Err Device) = failed ≡ true

-- what reading its program did
abbrev pub ReadsProgram : Option (List ℕ) → Bool → Result ProgramTree ExploreFault → Type 0
ReadsProgram known failed (Ok p) = (failed ≡ false) × IfSome known (λ all. program_in all ≡ Ok p)
ReadsProgram known failed (Err OutOfMemory) = failed ≡ false
ReadsProgram known failed (Err (BadScenario fault)) = ⊥
ReadsProgram known failed (Err (BadWait fault)) = ⊥
ReadsProgram known failed (Err (BadProgram fault)) = (failed ≡ false) × IfSome known (λ all. program_in all ≡ Err fault)
ReadsProgram known failed (Err Device) = failed ≡ true

-- ---- whether a rule is kept

-- what is printed of answers about a scenario
abbrev pub printed : Scenario → List RuleAnswer → Printed
printed s answers = record { verdict = verdict_of_all answers; text = answers_text s answers }

-- it is what is printed of what is known about this scenario and these rules
abbrev pub IsPrinted : List Wait → Scenario → List Rule → Printed → Type 0
IsPrinted waits s rules p = (answers : List RuleAnswer) × AreFound waits rules s answers × (p ≡ printed s answers)

-- what was left of the sources before, and whether each has failed
pub record Sources : Type 0 where
  pub scenario : Option (List ℕ)
  pub keeps : Option (List ℕ)
  pub scenario_failed : Bool
  pub keeps_failed : Bool

abbrev pub NoneFailed : Sources → Type 0
NoneFailed d = (d.scenario_failed ≡ false) × (d.keeps_failed ≡ false)

-- What a search of two sources did, by its answer. The scenario is read and judged before the program, so that a program which cannot be
-- read is answered only beside a good scenario, and both before the waits. A failed source is answered exactly where one has failed.
abbrev pub Searches : List Wait → Option Level → Sources → Result Printed ExploreFault → Type 0
Searches waits level d (Ok p) =
    NoneFailed d × (s : Scenario) × (rule : ProgramTree) × IfSome d.scenario (λ all. asked_in level all ≡ Ok s)
    × IfSome d.keeps (λ all. program_in all ≡ Ok rule) × (first_stranger s waits ≡ None) × IsPrinted waits s (alone rule ∷ []) p
Searches waits level d (Err OutOfMemory) = NoneFailed d
Searches waits level d (Err (BadScenario fault)) = NoneFailed d × IfSome d.scenario (λ all. asked_in level all ≡ Err fault)
Searches waits level d (Err (BadProgram fault)) =
    NoneFailed d × (s : Scenario) × IfSome d.scenario (λ all. asked_in level all ≡ Ok s) × IfSome d.keeps (λ all. program_in all ≡ Err fault)
Searches waits level d (Err (BadWait fault)) =
    NoneFailed d × (s : Scenario) × (rule : ProgramTree) × IfSome d.scenario (λ all. asked_in level all ≡ Ok s)
    × IfSome d.keeps (λ all. program_in all ≡ Ok rule) × IsWaitFault s waits (BadWait fault)
Searches waits level d (Err Device) =
    (d.scenario_failed ≡ true)
    ⊎ ((d.scenario_failed ≡ false) × (d.keeps_failed ≡ true) × (s : Scenario) × IfSome d.scenario (λ all. asked_in level all ≡ Ok s))

-- The same of one source: this is so of its scenario and what is printed.
abbrev pub SearchesOne : (Scenario → Printed → Type 0) → List Wait → Option Level → Option (List ℕ) → Bool → Result Printed ExploreFault → Type 0
SearchesOne Is waits level known failed (Ok p) =
    (failed ≡ false) × (s : Scenario) × IfSome known (λ all. asked_in level all ≡ Ok s) × (first_stranger s waits ≡ None) × Is s p
SearchesOne Is waits level known failed (Err OutOfMemory) = failed ≡ false
SearchesOne Is waits level known failed (Err (BadScenario fault)) = (failed ≡ false) × IfSome known (λ all. asked_in level all ≡ Err fault)
SearchesOne Is waits level known failed (Err (BadProgram fault)) = ⊥
SearchesOne Is waits level known failed (Err (BadWait fault)) =
    (failed ≡ false) × (s : Scenario) × IfSome known (λ all. asked_in level all ≡ Ok s) × IsWaitFault s waits (BadWait fault)
SearchesOne Is waits level known failed (Err Device) = failed ≡ true

-- of rules that are known
abbrev pub SearchesFor : List Wait → Option Level → List Rule → Option (List ℕ) → Bool → Result Printed ExploreFault → Type 0
SearchesFor waits level rules known failed searched = SearchesOne (λ s p. IsPrinted waits s rules p) waits level known failed searched
