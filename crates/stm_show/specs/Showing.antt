-- What the command `show` does: from the bytes of a source to the text in a sink.
use Rattle.std.specs.Prelude.{◌≡◌, ℕ, List, Bool, true, false, Option, Result, Ok, Err, IfSome}
use Rattle.std.specs.Io.KnownBytes.{Appends, Keeps}
use Rattle.stm_devices.specs.Ends.{Devices, IsUntouched}
use Rattle.stm_devices.specs.Transfers.{WritesFront}
use Rattle.stm_json.specs.Outcome.{Outcome}
use Rattle.stm_program_source.specs.Program.{shown_program}
use Rattle.stm_program_texts.specs.Reading.{program_in}
use Rattle.stm_show.specs.declared.showing.ShowFault.{ShowFault}
use Rattle.stm_show.specs.declared.showing.ShowFault.TheVariants.{OutOfMemory, Bad, Read, Write}
use Rattle.stm_show.specs.declared.showing.Shown.{Shown}
use Rattle.stm_show.specs.declared.showing.Shown.TheVariants as of
use Rattle.stm_show.specs.Scenario.{shown_scenario}
use Rattle.stm_texts.specs.Reading.{scenario_in}

-- the text of what was read, or the same fault
abbrev pub text_of : {A : Type 0} → (A → List ℕ) → Outcome A → Outcome (List ℕ)
text_of text (Ok x) = Ok (text x)
text_of text (Err fault) = Err fault

-- the source of the scenario or of the program that bytes spell, or their first fault
abbrev pub source_in : Shown → List ℕ → Outcome (List ℕ)
source_in of.Scenario bytes = text_of shown_scenario (scenario_in bytes)
source_in of.Program bytes = text_of shown_program (program_in bytes)

-- what writing the source of bytes does: what the sink held before and holds, whether it has failed then, and the answer
abbrev pub Writes : {A : Type 0} → Outcome (List ℕ) → Option (List ℕ) → Option (List ℕ) → Bool → Result A ShowFault → Type 0
Writes source before after failed (Ok u) = (failed ≡ false) × (text : List ℕ) × (source ≡ Ok text) × Appends before after text
Writes source before after failed (Err OutOfMemory) = (failed ≡ false) × Keeps before after
Writes source before after failed (Err (Bad fault)) = (failed ≡ false) × Keeps before after × (source ≡ Err fault)
Writes source before after failed (Err Read) = ⊥
Writes source before after failed (Err Write) = (failed ≡ true) × (text : List ℕ) × (source ≡ Ok text) × WritesFront before after text

-- What the command did, by its answer. At the end of a good one exactly the source of the input was written; at a bad input, an allocation failure
-- or a failed source nothing was; at a failed sink a front of it was. Each fault of a device is answered exactly where the device has failed.
abbrev pub Does : {A : Type 0} → Shown → Devices → Result A ShowFault → Type 0
Does shown d (Ok u) =
    (d.source_failed ≡ false) × (d.sink_failed ≡ false)
    × IfSome d.input (λ input. (text : List ℕ) × (source_in shown input ≡ Ok text) × Appends d.before d.after text)
Does shown d (Err OutOfMemory) = IsUntouched d
Does shown d (Err (Bad fault)) = IsUntouched d × IfSome d.input (λ input. source_in shown input ≡ Err fault)
Does shown d (Err Read) = (d.source_failed ≡ true) × (d.sink_failed ≡ false) × Keeps d.before d.after
Does shown d (Err Write) =
    (d.source_failed ≡ false) × (d.sink_failed ≡ true)
    × IfSome d.input (λ input. (text : List ℕ) × (source_in shown input ≡ Ok text) × WritesFront d.before d.after text)
