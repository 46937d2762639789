-- What is said of a fault, and what explains it.
use Rattle.std.specs.Prelude.{◌≡◌, ℕ, List, ◌++◌, Bool, false, Option, codes, decimal}
use Rattle.std.specs.Io.KnownBytes.{Appends}
use Rattle.stm_json.specs.declared.read_error.BadInput.{BadInput}
use Rattle.stm_json.specs.CauseNames.{cause_name}
use Rattle.stm_devices.specs.Transfers.{WritesFront}
use Rattle.stm_explain.specs.Explaining.{ExplainsOrNothing}
use Rattle.stm_explain.specs.declared.messages.Message.{Message}
use Rattle.stm_explain.specs.declared.messages.Message.TheVariants.{Bad, Usage, OutOfMemory, Device, NoThread, Audit}

-- ---- the messages

-- place and cause of the first fault of an input, after this
abbrev pub bad_input : List ℕ → BadInput → List ℕ
bad_input begin bad = begin ++ bad.place ++ codes ": " ++ cause_name bad.cause ++ codes "\n"

-- what is wrong with the words of a command line, and its usage
abbrev pub usage_fault : List ℕ → List ℕ → List ℕ
usage_fault wrong usage = codes "error: " ++ wrong ++ usage

abbrev pub memory_fault : List ℕ
memory_fault = codes "stmrun: out of memory\n"

abbrev pub device_fault : List ℕ
device_fault = codes "stmrun: device fault\n"

abbrev pub thread_fault : List ℕ
thread_fault = codes "stmrun: no thread\n"

-- which job's end does not stand
abbrev pub audit_fault : ℕ → List ℕ
audit_fault job = codes "stmrun: audit " ++ decimal job ++ codes "\n"

-- 2 where what the command was given is wrong, and 3 where memory, a device or a thread failed, or an end does not stand
abbrev pub status_of : Message → ℕ
status_of (Bad begin bad) = 2
status_of (Usage wrong usage) = 2
status_of OutOfMemory = 3
status_of Device = 3
status_of NoThread = 3
status_of (Audit job) = 3

abbrev pub text_of : Message → List ℕ
text_of (Bad begin bad) = bad_input begin.now bad.now
text_of (Usage wrong usage) = usage_fault wrong.now usage.now
text_of OutOfMemory = memory_fault
text_of Device = device_fault
text_of NoThread = thread_fault
text_of (Audit job) = audit_fault job

-- ---- what is said

-- the text was written, or a prefix of it where the sink then has failed: what it held before and holds, and whether it has
abbrev pub Says : Option (List ℕ) → Option (List ℕ) → Bool → List ℕ → Type 0
Says before after failed text = WritesFront before after text × (failed ≡ false → Appends before after text)

-- explanations of faults of some text under some name, or nothing
abbrev pub IsExplained : List ℕ → Type 0
IsExplained more = (name text : List ℕ) × ExplainsOrNothing name text more

-- a text of this form was written, or a prefix of it where the sink then has failed
abbrev pub SaysSome : (List ℕ → Type 0) → Option (List ℕ) → Option (List ℕ) → Bool → Type 0
SaysSome Form before after failed = (more : List ℕ) × Form more × Says before after failed more

-- a command ends with this status, and says this
abbrev pub Reports : ℕ → List ℕ → Option (List ℕ) → Option (List ℕ) → Bool → ℕ → Type 0
Reports code message before after failed status = (status ≡ code) × Says before after failed message

-- the same with explanations of this form after the message
abbrev pub ReportsMore : (List ℕ → Type 0) → ℕ → List ℕ → Option (List ℕ) → Option (List ℕ) → Bool → ℕ → Type 0
ReportsMore Form code message before after failed status = (more : List ℕ) × Form more × Reports code (message ++ more) before after failed status
