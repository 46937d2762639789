-- The statuses of the program, and what it says of a fault.
use Rattle.std.specs.Prelude.{◌≡◌, ℕ, List, Bool, false, Option, Result, Ok, Err, codes}
use Rattle.std.specs.Io.KnownBytes.{Keeps}
pub use Rattle.stm_explain.specs.Saying.{bad_input, memory_fault, device_fault, Says, Reports}
use Rattle.stm_report.specs.declared.run_script.ScriptFault.{ScriptFault}
use Rattle.stm_report.specs.declared.run_script.ScriptFault.TheVariants.{OutOfMemory, Bad, Read, Write}
use Rattle.stm_devices.specs.Ends.{Devices}
use Rattle.stm_report.specs.Script.{Does}

-- 2 for bad input, 3 where memory ran out or a device failed
abbrev pub status_of : ScriptFault → ℕ
status_of OutOfMemory = 3
status_of (Bad fault) = 2
status_of Read = 3
status_of Write = 3

abbrev pub message_of : ScriptFault → List ℕ
message_of OutOfMemory = memory_fault
message_of (Bad bad) = bad_input (codes "stmrun: bad scenario at ") bad
message_of Read = device_fault
message_of Write = device_fault

-- what is said and answered of a fault: its own message and status
abbrev pub SaysOf : Option (List ℕ) → Option (List ℕ) → Bool → ScriptFault → ℕ → Type 0
SaysOf before after failed fault status = Reports (status_of fault) (message_of fault) before after failed status

abbrev pub EndsBy : {A : Type 0} → Option (List ℕ) → Option (List ℕ) → Bool → Result A ScriptFault → ℕ → Type 0
EndsBy before after failed (Ok u) status = (status ≡ 0) × (failed ≡ false) × Keeps before after
EndsBy before after failed (Err fault) status = SaysOf before after failed fault status

-- What the command does to its devices, and its status: a script's end, with status 0 and nothing said at a good one, and
-- else what is said of its fault.
abbrev pub Ends : Devices → Option (List ℕ) → Option (List ℕ) → Bool → ℕ → Type 0
Ends devices before after failed status =
    (ended : Result (Unit {0}) ScriptFault) × Does devices ended × EndsBy before after failed ended status

abbrev pub no_format : List ℕ
no_format =
    codes "error: no format has this name: lines, json, text, svg and html are allowed\n\nUsage: stmrun script [OPTIONS] [FILE]\n\nFor more information, try '--help'.\n"

-- what is said of a word that names no format, in the manner of the other usage faults
abbrev pub SaysNoFormat : Option (List ℕ) → Option (List ℕ) → Bool → ℕ → Type 0
SaysNoFormat before after failed status = (status ≡ 2) × Says before after failed no_format
