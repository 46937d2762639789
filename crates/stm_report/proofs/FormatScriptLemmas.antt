-- From what is written for the bytes that were read to what a script does.
use Rattle.std.proofs.Common.{◌≡◌, ℕ, List, take, IfSome, false, Result, Ok, Err}
use Rattle.std.specs.Io.KnownBytes.{Appends}
use Rattle.stm_devices.specs.declared.transfer.TheConstants.{MOST_READ}
use Rattle.stm_devices.specs.Transfers.{WritesFront}
use Rattle.stm_report.specs.declared.run_script.ScriptFault.{ScriptFault}
use Rattle.stm_report.specs.declared.run_script.ScriptFault.TheVariants.{OutOfMemory, Bad, Read, Write}
use Rattle.stm_devices.specs.Ends.{Devices}
use Rattle.stm_texts.proofs.Fronts.{pending_of_revision}
use Rattle.stm_report.specs.declared.format.Format.{Format}
use Rattle.stm_formats.specs.declared.format_label.RunnerLabel.{RunnerLabel}
use Rattle.stm_report.specs.FormatScript.{IsOutputOf, Writes, DoesAs}

-- what was done for the bytes that were read was done for the input
pub DoesAs-from_Writes : {A : Type 0} (format : Format) (labels : List RunnerLabel) (d : Devices) (bytes : List ℕ) (result : Result A ScriptFault) →
    IfSome d.input (λ all. bytes ≡ take MOST_READ all) → d.source_failed ≡ false
    → Writes format labels bytes d.before d.after d.sink_failed result → DoesAs format labels d result
DoesAs-from_Writes format labels d bytes (Ok u) read works did =
    (works, did.0, pending_of_revision bytes d.input (λ outcome. (text : List ℕ) × IsOutputOf format labels outcome text × Appends d.before d.after text) read (did.1, did.2, did.3))
DoesAs-from_Writes format labels d bytes (Err OutOfMemory) read works did = (works, did.0, did.1)
DoesAs-from_Writes format labels d bytes (Err (Bad fault)) read works did =
    ((works, did.0, did.1), pending_of_revision bytes d.input (λ outcome. outcome ≡ Err fault) read did.2)
DoesAs-from_Writes format labels d bytes (Err Read) read works did = absurd did
DoesAs-from_Writes format labels d bytes (Err Write) read works did = (
  works,
  did.0,
  pending_of_revision bytes d.input (λ outcome. (text : List ℕ) × IsOutputOf format labels outcome text × WritesFront d.before d.after text) read (did.1, did.2, did.3),
)
