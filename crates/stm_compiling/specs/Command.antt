-- What the command `compile` does to its devices, and its status; and how a source is read for other commands.
use Rattle.std.specs.Prelude.{◌≡◌, ◌⊎◌, ℕ, List, take, Bool, true, false, Option, Result, Ok, Err, IfSome}
use Rattle.std.specs.Io.KnownBytes.{Appends, Keeps}
use Rattle.stm_devices.specs.Ends.{Devices}
use Rattle.stm_devices.specs.Transfers.{WritesFront}
use Rattle.stm_devices.specs.declared.transfer.TheConstants.{MOST_READ}
use Rattle.stm_explain.specs.Saying.{Reports, device_fault}
use Rattle.stm_terms.specs.declared.faults.BadSource.{BadSource}
use Rattle.stm_terms.specs.declared.faults.SourceError.{SourceError}
use Rattle.stm_terms.specs.declared.faults.SourceError.TheVariants as error
use Rattle.stm_terms.specs.Outcome.{Outcome}
use Rattle.stm_compiling.specs.Faults.{SaysFault, SaysWrong, fault_status, fault_text}
use Rattle.stm_compiling.specs.Parts.{printed_by, scenario_alone, text_by}
use Rattle.stm_compiling.specs.declared.part.Part.{Part}
use Rattle.stm_compiling.specs.declared.whole.Compiled.{Compiled}
use Rattle.stm_compiling.specs.declared.part.Printed.{Printed}
use Rattle.stm_compiling.specs.declared.fault.CompileFault.{CompileFault}
use Rattle.stm_compiling.specs.declared.fault.CompileFault.TheVariants.{OutOfMemory, Bad, Device}

-- ---- what is answered of a source

-- what is said of a fault
abbrev pub Says : {E : Type 0} → Option (List ℕ) → List ℕ → BadSource → Result (List ℕ) E → Type 0
Says name source bad (Ok said) = SaysFault name source bad said
Says name source bad (Err e) = Unit {0}

-- why there is no answer, where a text was not read
abbrev pub Tells : Option (List ℕ) → List ℕ → SourceError → CompileFault → Type 0
Tells name source error.OutOfMemory fault = fault ≡ OutOfMemory
Tells name source (error.Bad bad) OutOfMemory = Unit {0}
Tells name source (error.Bad bad) (Bad said) = SaysFault name source bad said
Tells name source (error.Bad bad) Device = ⊥

-- it is what reading gives, or why there is nothing, of which the fault stands in a text
abbrev pub Answers : {A : Type 0} → Option (List ℕ) → List ℕ → Outcome A → Result A CompileFault → Type 0
Answers name text reading (Ok answer) = reading ≡ Ok answer
Answers name text reading (Err OutOfMemory) = Unit {0}
Answers name text reading (Err (Bad said)) = SaysWrong name text reading said
Answers name text reading (Err Device) = ⊥

-- why there are no bytes of an input, by whether it has failed
abbrev pub IsUnread : Bool → CompileFault → Type 0
IsUnread failed OutOfMemory = failed ≡ false
IsUnread failed (Bad said) = ⊥
IsUnread failed Device = failed ≡ true

abbrev pub HasBytes : {X : Type 0} → (X → List ℕ) → Option (List ℕ) → Bool → Result X CompileFault → Type 0
HasBytes view input failed (Ok source) = (failed ≡ false) × IfSome input (λ all. view source ≡ take MOST_READ all)
HasBytes view input failed (Err fault) = IsUnread failed fault

-- what is answered of the source that an input has, by whether that has failed: how it is read, and in which text its fault stands
abbrev pub Gives : {A : Type 0} → (List ℕ → Outcome A) → (List ℕ → List ℕ) → Option (List ℕ) → Option (List ℕ) → Bool → Result A CompileFault → Type 0
Gives read text name input failed (Ok answer) = (failed ≡ false) × IfSome input (λ all. read all ≡ Ok answer)
Gives read text name input failed (Err OutOfMemory) = failed ≡ false
Gives read text name input failed (Err (Bad said)) = (failed ≡ false) × IfSome input (λ all. SaysWrong name (text all) (read all) said)
Gives read text name input failed (Err Device) = failed ≡ true

-- what is printed of a scenario that a source came to
abbrev pub PrintsAlone : Compiled → Result Printed CompileFault → Type 0
PrintsAlone compiled (Ok printed) = printed ≡ scenario_alone compiled
PrintsAlone compiled (Err fault) = fault ≡ OutOfMemory

-- ---- what is done

-- nothing is said where there is an answer; else why, with the status of that
abbrev pub Compiles : {A : Type 0} → (List ℕ → Outcome A) → (List ℕ → List ℕ) → Option (List ℕ) → Option (List ℕ) → Bool → Option (List ℕ) → Option (List ℕ) → Bool → Result A ℕ → Type 0
Compiles read text name input source_failed before after failed (Ok answer) =
    (source_failed ≡ false) × IfSome input (λ all. read all ≡ Ok answer) × (failed ≡ false) × Keeps before after
Compiles read text name input source_failed before after failed (Err status) =
    (fault : CompileFault) × Gives read text name input source_failed (Err fault) × Reports (fault_status fault) (fault_text fault) before after failed status

-- what printing does: the line was written, with status 0 and what is said beside it, or a front of it, where the sink has failed then
abbrev pub Prints : Printed → Option (List ℕ) → Option (List ℕ) → Bool → Option (List ℕ) → Option (List ℕ) → Bool → ℕ → Type 0
Prints printed old new sink_failed before after failed status =
    ((sink_failed ≡ false) × Appends old new printed.line × Reports 0 printed.notes before after failed status)
    ⊎ ((sink_failed ≡ true) × WritesFront old new printed.line × Reports 3 device_fault before after failed status)

-- What the command does: it prints the source's part, or nothing, and says why there is none.
abbrev pub Ends : Part → Option (List ℕ) → Devices → Option (List ℕ) → Option (List ℕ) → Bool → ℕ → Type 0
Ends part name d before after failed status =
    ((printed : Printed) × (d.source_failed ≡ false) × IfSome d.input (λ all. printed_by part all ≡ Ok printed)
    × Prints printed d.before d.after d.sink_failed before after failed status)
    ⊎ ((d.sink_failed ≡ false) × Keeps d.before d.after
    × ((fault : CompileFault) × Gives (printed_by part) (text_by part) name d.input d.source_failed (Err fault)
    × Reports (fault_status fault) (fault_text fault) before after failed status))
