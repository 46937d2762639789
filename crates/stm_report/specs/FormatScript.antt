-- What a script does in a format: from the bytes of a source to the report in a sink.
use Rattle.std.specs.Prelude.{◌≡◌, ℕ, List, Bool, true, false, Option, Result, Ok, Err, IfSome, IsUtf8}
use Rattle.std.specs.Io.KnownBytes.{Appends, Keeps}
use Rattle.stm_events.specs.declared.event.WorldEvent.{WorldEvent}
use Rattle.stm_events.specs.declared.reply.Reply.{Reply}
use Rattle.stm_events.specs.declared.refusal.Denied.{Denied}
use Rattle.stm_history.specs.History.{History, now}
use Rattle.stm_txn.specs.Standing.{kept}
use Rattle.stm_world.specs.World.{World, opened, world_after, replies_to}
use Rattle.stm_texts.specs.declared.scenario.Scenario.{Scenario}
use Rattle.stm_json.specs.Outcome.{Outcome}
use Rattle.stm_texts.specs.Reading.{scenario_in}
use Rattle.stm_texts.specs.Opens.{setup_of}
use Rattle.stm_devices.specs.Transfers.{WritesFront}
use Rattle.stm_report.specs.declared.run_script.ScriptFault.{ScriptFault}
use Rattle.stm_report.specs.declared.run_script.ScriptFault.TheVariants.{OutOfMemory, Bad, Read, Write}
use Rattle.stm_report.specs.Report.{IsReport}
use Rattle.stm_devices.specs.Ends.{Devices, IsUntouched}
use Rattle.stm_report.specs.declared.format.Format.{Format}
use Rattle.stm_report.specs.declared.format.Format.TheVariants.{Lines, Json, Text, Svg, Html}
use Rattle.stm_report.specs.Forms.{json_text}
use Rattle.stm_formats.specs.declared.format_label.RunnerLabel.{RunnerLabel}
use Rattle.stm_formats.specs.FormatRuns.{text_from, svg_from, html_from}

-- ---- the report of a run in a format

-- The text is the report of these events, before which the store was at a revision, of their replies and of the world that they left; where it says what
-- revisions changed, it is as this history has them. One of lines is in UTF-8.
abbrev pub IsTextOver : History → ℕ → Format → List RunnerLabel → World → List WorldEvent → List (Result Reply Denied) → List ℕ → Type 0
IsTextOver h since Lines labels w events replies text = IsReport w replies text × IsUtf8 text
IsTextOver h since Json labels w events replies text = text ≡ json_text w replies
IsTextOver h since (Text width) labels w events replies text = text ≡ text_from width labels h w since events replies
IsTextOver h since Svg labels w events replies text = text ≡ svg_from labels h w since events replies
IsTextOver h since Html labels w events replies text = text ≡ html_from labels h w since events replies

-- it is of the history that the world's store has kept
abbrev pub IsTextSince : ℕ → Format → List RunnerLabel → World → List WorldEvent → List (Result Reply Denied) → List ℕ → Type 0
IsTextSince since format labels w events replies text = IsTextOver (kept w.standing).history since format labels w events replies text

-- the text is that of these events' run from a world, of the history that its store has kept
abbrev pub IsTextFrom : Format → List RunnerLabel → World → List WorldEvent → List ℕ → Type 0
IsTextFrom format labels w events text = IsTextSince (now w.standing.history) format labels (world_after events w) events (replies_to events w) text

-- the same of the whole history, also of what compactions have dropped
abbrev pub IsWholeTextFrom : Format → List RunnerLabel → World → List WorldEvent → List ℕ → Type 0
IsWholeTextFrom format labels w events text =
    IsTextOver (world_after events w).standing.history (now w.standing.history) format labels (world_after events w) events (replies_to events w) text

-- the text is that of a scenario's run, over an empty store at its opening revision
unfoldable pub IsRunText : Format → List RunnerLabel → Scenario → List ℕ → Type 0
IsRunText format labels s text = IsWholeTextFrom format labels (opened (setup_of s.opening)) s.events text

-- a scenario was read, and the text is that of its run
abbrev pub IsOutputOf : Format → List RunnerLabel → Outcome Scenario → List ℕ → Type 0
IsOutputOf format labels reading text = (s : Scenario) × (reading ≡ Ok s) × IsRunText format labels s text

-- what making the report of bytes answers, seen by view: that of the scenario that they spell, or their first fault, unless memory ran out
abbrev pub Answers : {X : Type 0} → (X → List ℕ) → Format → List RunnerLabel → List ℕ → Result X ScriptFault → Type 0
Answers view format labels bytes (Ok x) = IsOutputOf format labels (scenario_in bytes) (view x)
Answers view format labels bytes (Err OutOfMemory) = Unit {0}
Answers view format labels bytes (Err (Bad fault)) = scenario_in bytes ≡ Err fault
Answers view format labels bytes (Err Read) = ⊥
Answers view format labels bytes (Err Write) = ⊥

-- what writing the report of bytes does: what the sink held before and holds, whether it has failed then, and the answer
abbrev pub Writes : {A : Type 0} → Format → List RunnerLabel → List ℕ → Option (List ℕ) → Option (List ℕ) → Bool → Result A ScriptFault → Type 0
Writes format labels bytes before after failed (Ok u) =
    (failed ≡ false) × (text : List ℕ) × IsOutputOf format labels (scenario_in bytes) text × Appends before after text
Writes format labels bytes before after failed (Err OutOfMemory) = (failed ≡ false) × Keeps before after
Writes format labels bytes before after failed (Err (Bad fault)) = (failed ≡ false) × Keeps before after × (scenario_in bytes ≡ Err fault)
Writes format labels bytes before after failed (Err Read) = ⊥
Writes format labels bytes before after failed (Err Write) =
    (failed ≡ true) × (text : List ℕ) × IsOutputOf format labels (scenario_in bytes) text × WritesFront before after text

-- ---- the script

-- What a script did, by its answer. At the end of a good one exactly the report of the input in its format was written; at a bad scenario,
-- an allocation failure or a failed source nothing was; at a failed sink a front of it was. Each fault of a device is answered exactly where the
-- device has failed.
abbrev pub DoesAs : {A : Type 0} → Format → List RunnerLabel → Devices → Result A ScriptFault → Type 0
DoesAs format labels d (Ok u) =
    (d.source_failed ≡ false) × (d.sink_failed ≡ false)
    × IfSome d.input (λ input. (text : List ℕ) × IsOutputOf format labels (scenario_in input) text × Appends d.before d.after text)
DoesAs format labels d (Err OutOfMemory) = IsUntouched d
DoesAs format labels d (Err (Bad fault)) = IsUntouched d × IfSome d.input (λ input. scenario_in input ≡ Err fault)
DoesAs format labels d (Err Read) = (d.source_failed ≡ true) × (d.sink_failed ≡ false) × Keeps d.before d.after
DoesAs format labels d (Err Write) =
    (d.source_failed ≡ false) × (d.sink_failed ≡ true)
    × IfSome d.input (λ input. (text : List ℕ) × IsOutputOf format labels (scenario_in input) text × WritesFront d.before d.after text)
