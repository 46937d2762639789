-- What a check of two sources does: from the bytes of a scenario and of a report to an answer.
use Rattle.std.specs.Prelude.{◌≡◌, ◌⊎◌, ℕ, List, Bool, true, false, Option, Result, Ok, Err, IfSome}
use Rattle.stm_devices.specs.declared.transfer.ReadFault.{ReadFault}
use Rattle.stm_devices.specs.declared.transfer.ReadFault.TheVariants.{OutOfMemory as NoRoom, Device as NoDevice}
use Rattle.stm_texts.specs.declared.scenario.Scenario.{Scenario}
use Rattle.stm_texts.specs.Reading.{scenario_in}
use Rattle.stm_texts.specs.Opens.{IsOpening}
use Rattle.stm_events.specs.declared.line.Report.{Report}
use Rattle.stm_report_lines.specs.Reading.{report_in}
use Rattle.stm_check.specs.declared.checking.Checked.{Checked}
use Rattle.stm_check.specs.declared.sources.CheckFault.{CheckFault}
use Rattle.stm_check.specs.declared.sources.CheckFault.TheVariants.{OutOfMemory, BadScenario, BadReport, Device}
use Rattle.stm_check.specs.Judged.{IsJudged}

-- ---- one source: its bytes, where they are known, whether it has failed then, and the answer

-- what is answered where a source could not be read to its end
abbrev pub fault_of_read : ReadFault → CheckFault
fault_of_read NoRoom = OutOfMemory
fault_of_read NoDevice = Device

-- what reading its scenario did
abbrev pub ReadsScenario : Option (List ℕ) → Bool → Result Scenario CheckFault → Type 0
ReadsScenario known failed (Ok s) = (failed ≡ false) × IfSome known (λ all. scenario_in all ≡ Ok s) × IsOpening s.opening
ReadsScenario known failed (Err OutOfMemory) = failed ≡ false
ReadsScenario known failed (Err (BadScenario fault)) = (failed ≡ false) × IfSome known (λ all. scenario_in all ≡ Err fault)
ReadsScenario known failed (Err (BadReport fault)) = ⊥
ReadsScenario known failed (Err Device) = failed ≡ true

-- what reading its report did
abbrev pub ReadsReport : Option (List ℕ) → Bool → Result Report CheckFault → Type 0
ReadsReport known failed (Ok r) = (failed ≡ false) × IfSome known (λ all. report_in all ≡ Ok r)
ReadsReport known failed (Err OutOfMemory) = failed ≡ false
ReadsReport known failed (Err (BadScenario fault)) = ⊥
ReadsReport known failed (Err (BadReport fault)) = (failed ≡ false) × IfSome known (λ all. report_in all ≡ Err fault)
ReadsReport known failed (Err Device) = failed ≡ true

-- ---- both

-- what was left of the sources before, and whether each has failed
pub record Sources : Type 0 where
  pub scenario : Option (List ℕ)
  pub report : Option (List ℕ)
  pub scenario_failed : Bool
  pub report_failed : Bool

abbrev pub NoneFailed : Sources → Type 0
NoneFailed d = (d.scenario_failed ≡ false) × (d.report_failed ≡ false)

-- What a check of two sources did, by its answer. The scenario is read and judged before the report, so that a report which cannot be read is
-- answered only beside a good scenario. A failed source is answered exactly where one has failed.
abbrev pub Judges : Sources → Result Checked CheckFault → Type 0
Judges d (Ok checked) =
    NoneFailed d × (s : Scenario) × (r : Report) × IfSome d.scenario (λ all. scenario_in all ≡ Ok s)
    × IfSome d.report (λ all. report_in all ≡ Ok r) × IsJudged s r checked
Judges d (Err OutOfMemory) = NoneFailed d
Judges d (Err (BadScenario fault)) = NoneFailed d × IfSome d.scenario (λ all. scenario_in all ≡ Err fault)
Judges d (Err (BadReport fault)) =
    NoneFailed d × (s : Scenario) × IfSome d.scenario (λ all. scenario_in all ≡ Ok s) × IfSome d.report (λ all. report_in all ≡ Err fault)
Judges d (Err Device) =
    (d.scenario_failed ≡ true)
    ⊎ ((d.scenario_failed ≡ false) × (d.report_failed ≡ true) × (s : Scenario) × IfSome d.scenario (λ all. scenario_in all ≡ Ok s))
