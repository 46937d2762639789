-- What the command `audit` does to its devices, and its status.
use Rattle.std.specs.Prelude.{◌≡◌, ◌⊎◌, ℕ, List, length, take, Bool, true, false, Option, Some, None, Result, Ok, Err, IfSome, codes}
use Rattle.std.specs.Io.KnownBytes.{Appends, Keeps}
use Rattle.stm_devices.specs.Ends.{Devices}
use Rattle.stm_devices.specs.Transfers.{WritesFront}
use Rattle.stm_devices.specs.declared.transfer.TheConstants.{MOST_READ}
use Rattle.stm_json.specs.declared.cause.Cause.TheVariants.{Range}
use Rattle.stm_json.specs.declared.read_error.BadInput.{BadInput}
use Rattle.stm_explain.specs.Saying.{Reports, bad_input, memory_fault, device_fault}
use Rattle.stm_audit.specs.declared.command.Printed.{Printed}
use Rattle.stm_audit.specs.declared.command.AuditFault.{AuditFault}
use Rattle.stm_audit.specs.declared.command.AuditFault.TheVariants.{OutOfMemory, Bad, Device}
use Rattle.stm_audit.specs.declared.auditing.Audited.{Audited}
use Rattle.stm_audit.specs.declared.trace.Trace.{Trace}
use Rattle.stm_audit.specs.Audit.{audited}
use Rattle.stm_audit.specs.Lines.{audit_text, audit_status}
use Rattle.stm_audit.specs.Reading.{trace_in}

-- ---- what is answered of a trace

-- the lines of its audit, and the status
abbrev pub IsPrintOf : Trace → Printed → Type 0
IsPrintOf trace p =
    (a : Audited) × (audited trace ≡ Some a) × (p.text ≡ audit_text a (length trace.commits)) × (p.status ≡ audit_status a)

-- the fault of a list of keys that no store can have had
abbrev pub misfit : BadInput
misfit = record { place = codes "/0/2"; cause = Range }

abbrev pub IsMisfit : AuditFault → Type 0
IsMisfit OutOfMemory = Unit {0}
IsMisfit (Bad bad) = bad ≡ misfit
IsMisfit Device = ⊥

abbrev pub Prints : Trace → Result Printed AuditFault → Type 0
Prints trace (Ok p) = IsPrintOf trace p
Prints trace (Err OutOfMemory) = Unit {0}
Prints trace (Err (Bad bad)) = (audited trace ≡ None) × (bad ≡ misfit)
Prints trace (Err Device) = ⊥

-- the same of the trace that bytes spell, or its first fault
abbrev pub Answers : List ℕ → Result Printed AuditFault → Type 0
Answers bytes (Ok p) = (trace : Trace) × (trace_in bytes ≡ Ok trace) × IsPrintOf trace p
Answers bytes (Err OutOfMemory) = Unit {0}
Answers bytes (Err (Bad bad)) = (trace_in bytes ≡ Err bad) ⊎ ((trace : Trace) × (trace_in bytes ≡ Ok trace) × (audited trace ≡ None) × (bad ≡ misfit))
Answers bytes (Err Device) = ⊥

-- the same of an input, of which one byte more is read than a trace may have, by whether it has failed
abbrev pub Gives : Option (List ℕ) → Bool → Result Printed AuditFault → Type 0
Gives input failed (Ok p) = (failed ≡ false) × IfSome input (λ all. Answers (take MOST_READ all) (Ok p))
Gives input failed (Err OutOfMemory) = failed ≡ false
Gives input failed (Err (Bad bad)) = (failed ≡ false) × IfSome input (λ all. Answers (take MOST_READ all) (Err (Bad bad)))
Gives input failed (Err Device) = failed ≡ true

-- ---- what is said

abbrev pub fault_status : AuditFault → ℕ
fault_status OutOfMemory = 3
fault_status (Bad bad) = 2
fault_status Device = 3

abbrev pub fault_text : AuditFault → List ℕ
fault_text OutOfMemory = memory_fault
fault_text (Bad bad) = bad_input (codes "stmrun: bad trace at ") bad
fault_text Device = device_fault

-- ---- what is done

-- what writing does: it was written, with its status and nothing said, or a front of it, where the sink has failed then
abbrev pub Writes : Printed → Option (List ℕ) → Option (List ℕ) → Bool → Option (List ℕ) → Option (List ℕ) → Bool → ℕ → Type 0
Writes p old new sink_failed before after failed status =
    ((sink_failed ≡ false) × Appends old new p.text × (status ≡ p.status) × (failed ≡ false) × Keeps before after)
    ⊎ ((sink_failed ≡ true) × WritesFront old new p.text × Reports 3 device_fault before after failed status)

-- What the command does: it writes what its trace comes to, or nothing, and says why.
abbrev pub Ends : Devices → Option (List ℕ) → Option (List ℕ) → Bool → ℕ → Type 0
Ends d before after failed status =
    ((p : Printed) × Gives d.input d.source_failed (Ok p) × Writes p d.before d.after d.sink_failed before after failed status)
    ⊎ ((d.sink_failed ≡ false) × Keeps d.before d.after
    × ((fault : AuditFault) × Gives d.input d.source_failed (Err fault)
    × Reports (fault_status fault) (fault_text fault) before after failed status))
