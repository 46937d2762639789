-- Which texts are checkpoints, and what they lead to. The first line is a scenario, that says at which revision the store opens (`["begin",..]`). Each further
-- line is one of those with which a report ends: what each key was at that revision, which leases are live, and the end line.
--
-- How a scenario and a report's lines are read is `stm_texts` and `stm_report_lines`; that both stand in one text is our own. The scenario sets the moment
-- (an advance), has the changes of the next revision (a transaction), so that watches from it on show them, and makes it the floor (a compaction).
use Rattle.std.specs.Prelude.{ℕ, if◌then◌else◌, List, [], ◌∷◌, Option, None, Some, option_map, Ok, Err}
use Rattle.stm_history.specs.declared.key_state.KeyState.{KeyState}
use Rattle.stm_history.specs.Opening.{States}
use Rattle.stm_json.specs.Outcome.{Outcome}
use Rattle.stm_events.specs.declared.line.ReportLine.{ReportLine}
use Rattle.stm_events.specs.declared.line.ReportLine.TheVariants.{Key, Lease, End}
use Rattle.stm_events.specs.declared.line.Report.{Report}
use Rattle.stm_report_lines.specs.Bytes.{is_line_feed}
use Rattle.stm_report_lines.specs.Reading.{report_in}
use Rattle.stm_texts.specs.declared.scenario.Scenario.{Scenario}
use Rattle.stm_texts.specs.Reading.{scenario_in}
use Rattle.stm_txn.specs.Standing.{Setup}
use Rattle.stm_txn.specs.declared.restored.Checkpoint.{Checkpoint}
use Rattle.stm_txn.specs.declared.restored.KeptLease.{KeptLease}

-- the bytes before the first line feed, and those behind it
abbrev pub first_line : List ℕ → List ℕ
first_line [] = []
first_line (b ∷ bytes) = if is_line_feed b then [] else b ∷ first_line bytes

abbrev pub behind_line : List ℕ → List ℕ
behind_line [] = []
behind_line (b ∷ bytes) = if is_line_feed b then bytes else behind_line bytes

-- the leases that lines say are live, and nothing else, up to the end line, of which nothing is taken: the scenario says the revision
abbrev pub leases_in : List ReportLine → Option (List KeptLease)
leases_in (Lease id ttl renewed ∷ lines) =
    option_map (λ (leases : List KeptLease). (record { id = id; ttl = ttl; renewed = renewed }) ∷ leases) (leases_in lines)
leases_in (End revision entries ∷ []) = Some []
leases_in lines = None

-- what lines say that keys were, and the leases behind them
pub record Held : Type 0 where
  pub states : States
  pub leases : List KeptLease

abbrev pub with_key : List ℕ × KeyState → Held → Held
with_key entry held = record { states = entry ∷ held.states; leases = held.leases }

abbrev pub held_in : List ReportLine → Option Held
held_in (Key key state ∷ lines) = option_map (with_key (key, state)) (held_in lines)
held_in lines = option_map (λ (leases : List KeptLease). (let held : Held = record { states = []; leases = leases } in held)) (leases_in lines)

abbrev pub held_of : Outcome Report → Option Held
held_of (Ok report) = held_in report.lines
held_of (Err fault) = None

abbrev pub checkpoint_at : Setup → Held → Checkpoint
checkpoint_at start held = record { revision = start.revision; states = held.states; leases = held.leases; operations = start.limit }

-- the checkpoint of a scenario that says at which revision its store opens
abbrev pub checkpoint_with : Option Setup → Option Held → Option Checkpoint
checkpoint_with (Some start) (Some held) = Some (checkpoint_at start held)
checkpoint_with opening held = None

abbrev pub checkpoint_of : Outcome Scenario → List ℕ → Option (Checkpoint × Scenario)
checkpoint_of (Ok scenario) lines = option_map (λ (c : Checkpoint). (c, scenario)) (checkpoint_with scenario.opening (held_of (report_in lines)))
checkpoint_of (Err fault) lines = None

-- the checkpoint that a text is, with its scenario
abbrev pub checkpoint_in : List ℕ → Option (Checkpoint × Scenario)
checkpoint_in text = checkpoint_of (scenario_in (first_line text)) (behind_line text)
