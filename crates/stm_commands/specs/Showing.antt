-- What the command `show` does to its devices, its statuses, and what it says.
use Rattle.std.specs.Prelude.{◌≡◌, ℕ, List, Bool, false, Option, Result, Ok, Err, codes}
use Rattle.std.specs.Io.KnownBytes.{Keeps}
use Rattle.stm_devices.specs.Ends.{Devices}
use Rattle.stm_explain.specs.Saying.{bad_input, memory_fault, device_fault, Reports}
use Rattle.stm_show.specs.declared.showing.ShowFault.{ShowFault}
use Rattle.stm_show.specs.declared.showing.ShowFault.TheVariants.{OutOfMemory, Bad, Read, Write}
use Rattle.stm_show.specs.declared.showing.Shown.{Shown}
use Rattle.stm_show.specs.declared.showing.Shown.TheVariants.{Scenario, Program}
use Rattle.stm_show.specs.Showing.{Does}

-- 2 for bad input, 3 where memory ran out or a device failed
abbrev pub fault_status : ShowFault → ℕ
fault_status OutOfMemory = 3
fault_status (Bad bad) = 2
fault_status Read = 3
fault_status Write = 3

-- what stands before the place of a bad input
abbrev pub bad_begins : Shown → List ℕ
bad_begins Scenario = codes "stmrun: bad scenario at "
bad_begins Program = codes "stmrun: bad program at "

abbrev pub fault_message : Shown → ShowFault → List ℕ
fault_message shown OutOfMemory = memory_fault
fault_message shown (Bad bad) = bad_input (bad_begins shown) bad
fault_message shown Read = device_fault
fault_message shown Write = device_fault

-- what is said and answered of a fault: its own message and status
abbrev pub SaysOf : Shown → Option (List ℕ) → Option (List ℕ) → Bool → ShowFault → ℕ → Type 0
SaysOf shown before after failed fault status = Reports (fault_status fault) (fault_message shown fault) before after failed status

abbrev pub EndsBy : {A : Type 0} → Shown → Option (List ℕ) → Option (List ℕ) → Bool → Result A ShowFault → ℕ → Type 0
EndsBy shown before after failed (Ok u) status = (status ≡ 0) × (failed ≡ false) × Keeps before after
EndsBy shown before after failed (Err fault) status = SaysOf shown before after failed fault status

-- What the command does to its devices, and its status: the source was written, with status 0 and nothing said, or else what is said of the fault.
abbrev pub Ends : Shown → Devices → Option (List ℕ) → Option (List ℕ) → Bool → ℕ → Type 0
Ends shown devices before after failed status =
    (ended : Result (Unit {0}) ShowFault) × Does shown devices ended × EndsBy shown before after failed ended status
