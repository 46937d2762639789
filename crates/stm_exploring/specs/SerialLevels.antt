-- Whether whole schedules come to what serial orders come to at each of the four levels, and what is printed of that.
use Rattle.std.specs.Prelude.{◌≡◌, ℕ, List, [], ◌∷◌, ◌++◌, map, All, Bool, true, false, if◌then◌else◌, Option, None, Some}
use Rattle.std.specs.List.{concat, list_all, list_any}
use Rattle.serde_json.specs.Data.{Data, string}
use Rattle.stm_report_lines.specs.LineData.{list}
use Rattle.stm_report_lines.specs.Text.{line_text}
use Rattle.stm_program.specs.declared.level.Level.{Level}
use Rattle.stm_texts.specs.Grammar.{level_text}
use Rattle.stm_texts.specs.declared.scenario.Scenario.{Scenario}
use Rattle.stm_explore.specs.declared.orders.SerialAnswer.{SerialAnswer}
use Rattle.stm_explore.specs.declared.orders.SerialAnswer.TheVariants.{Serial, Anomaly, Open, Undecided}
use Rattle.stm_explore.specs.Orders.{IsSerialAnswer}
use Rattle.stm_exploring.specs.declared.printed.Printed.{Printed}
use Rattle.stm_exploring.specs.declared.printed.SearchAnswer.{SearchAnswer}
use Rattle.stm_exploring.specs.declared.printed.SearchAnswer.TheVariants as verdict
use Rattle.stm_exploring.specs.declared.serial_levels.SerialLevel.{SerialLevel}
use Rattle.stm_exploring.specs.Anomalies.{serial_parts}
use Rattle.stm_exploring.specs.Asking.{ends_of, place_of}
use Rattle.stm_exploring.specs.Levels.{enough_line, leveled, levels}

-- at each of these levels in their order, this is so of the scenario with its starts at that level
abbrev pub AreComparedAt : List Level → Scenario → List SerialLevel → Type 0
AreComparedAt ls s at =
    (map (λ (a : SerialLevel). a.level) at ≡ ls)
    × All (λ (a : SerialLevel). IsSerialAnswer (place_of (leveled a.level s)) (ends_of (leveled a.level s)) a.answer) at

-- ---- what it comes to

abbrev pub are_all_serial : SerialAnswer → Bool
are_all_serial (Serial outcomes) = true
are_all_serial (Anomaly it moves) = false
are_all_serial (Open gone_through) = false
are_all_serial (Undecided it moves) = false

abbrev pub has_anomaly : SerialAnswer → Bool
has_anomaly (Serial outcomes) = false
has_anomaly (Anomaly it moves) = true
has_anomaly (Open gone_through) = false
has_anomaly (Undecided it moves) = false

abbrev pub is_serial : SerialLevel → Bool
is_serial a = are_all_serial a.answer

abbrev pub is_odd : SerialLevel → Bool
is_odd a = has_anomaly a.answer

abbrev pub verdict_at : List SerialLevel → SearchAnswer
verdict_at at = if list_any is_odd at then verdict.Broken else (if list_all is_serial at then verdict.Kept else verdict.Open)

-- the first level from which on a serial order comes to each outcome
abbrev pub enough_serial : List SerialLevel → Option Level
enough_serial [] = None
enough_serial (a ∷ at) = if list_all is_serial (a ∷ at) then Some a.level else enough_serial at

-- ---- what is printed

-- the line of an answer, and at its end the level
abbrev pub serial_level_line : SerialLevel → Data
serial_level_line a = list (serial_parts a.answer ++ string (level_text a.level) ∷ [])

abbrev pub serial_level_text : SerialLevel → List ℕ
serial_level_text a = line_text (serial_level_line a)

-- a line for each level, and the least one that is enough
abbrev pub serial_levels_text : List SerialLevel → List ℕ
serial_levels_text at = concat (map serial_level_text at) ++ line_text (enough_line (enough_serial at))

abbrev pub printed_at : List SerialLevel → Printed
printed_at at = record { verdict = verdict_at at; text = serial_levels_text at }

abbrev pub ArePrintedAt : Scenario → Printed → Type 0
ArePrintedAt s p = (at : List SerialLevel) × AreComparedAt levels s at × (p ≡ printed_at at)
