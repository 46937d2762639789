-- From what is written for the bytes that were read to what the command does.
use Rattle.std.proofs.Common.{◌≡◌, ℕ, List, take, IfSome, Some, None, false, Option, Result, Ok, Err, ap, subst, ◌∙◌}
use Rattle.std.specs.Io.KnownBytes.{Appends}
use Rattle.stm_devices.specs.declared.transfer.TheConstants.{MOST_READ}
use Rattle.stm_devices.specs.Transfers.{WritesFront}
use Rattle.stm_devices.specs.Ends.{Devices}
use Rattle.stm_json.specs.Outcome.{Outcome}
use Rattle.stm_program.specs.Syntax.{ProgramTree}
use Rattle.stm_program_source.specs.Program.{shown_program}
use Rattle.stm_program_texts.proofs.Texts.{program_in-long}
use Rattle.stm_program_texts.specs.Reading.{program_in}
use Rattle.stm_texts.proofs.Fronts.{of_front, scenario_in-front}
use Rattle.stm_texts.specs.declared.scenario.Scenario.{Scenario as ScenarioTree}
use Rattle.stm_show.specs.declared.showing.ShowFault.{ShowFault}
use Rattle.stm_show.specs.declared.showing.ShowFault.TheVariants.{OutOfMemory, Bad, Read, Write}
use Rattle.stm_show.specs.declared.showing.Shown.{Shown}
use Rattle.stm_show.specs.declared.showing.Shown.TheVariants.{Scenario, Program}
use Rattle.stm_show.specs.Scenario.{shown_scenario}
use Rattle.stm_show.specs.Showing.{text_of, source_in, Writes, Does}

source_in-front : (shown : Shown) (all : List ℕ) → source_in shown (take MOST_READ all) ≡ source_in shown all
source_in-front Scenario all = ap (λ (o : Outcome ScenarioTree). text_of shown_scenario o) (scenario_in-front all)
source_in-front Program all = ap (λ (o : Outcome ProgramTree). text_of shown_program o) (of_front program_in program_in-long all)

-- what is so of the source of the bytes that were read is so of that of the input
of_input : (shown : Shown) (bytes : List ℕ) (known : Option (List ℕ)) (P : Outcome (List ℕ) → Type 0)
    → IfSome known (λ all. bytes ≡ take MOST_READ all) → P (source_in shown bytes) → IfSome known (λ all. P (source_in shown all))
of_input shown bytes None P read holds = tt
of_input shown bytes (Some all) P read holds = subst P (ap (source_in shown) read ∙ source_in-front shown all) holds

pub Does-from_Writes : {A : Type 0} (shown : Shown) (d : Devices) (bytes : List ℕ) (result : Result A ShowFault)
    → IfSome d.input (λ all. bytes ≡ take MOST_READ all) → d.source_failed ≡ false
    → Writes (source_in shown bytes) d.before d.after d.sink_failed result → Does shown d result
Does-from_Writes shown d bytes (Ok u) read works did =
    (works, did.0, of_input shown bytes d.input (λ source. (text : List ℕ) × (source ≡ Ok text) × Appends d.before d.after text) read (did.1, did.2, did.3))
Does-from_Writes shown d bytes (Err OutOfMemory) read works did = (works, did.0, did.1)
Does-from_Writes shown d bytes (Err (Bad fault)) read works did =
    ((works, did.0, did.1), of_input shown bytes d.input (λ source. source ≡ Err fault) read did.2)
Does-from_Writes shown d bytes (Err Read) read works did = absurd did
Does-from_Writes shown d bytes (Err Write) read works did =
    (works, did.0, of_input shown bytes d.input (λ source. (text : List ℕ) × (source ≡ Ok text) × WritesFront d.before d.after text) read (did.1, did.2, did.3))
