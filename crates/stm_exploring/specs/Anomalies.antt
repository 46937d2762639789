-- What is printed of whether whole schedules come to what serial orders come to.
use Rattle.std.specs.Prelude.{◌≡◌, ℕ, List, [], ◌∷◌, ◌++◌, length, codes}
use Rattle.serde_json.specs.Data.{Data, string}
use Rattle.stm_report_lines.specs.LineData.{list, whole}
use Rattle.stm_report_lines.specs.Text.{line_text}
use Rattle.stm_schedules.specs.declared.outcome.Outcome.{Outcome}
use Rattle.stm_texts.specs.Writing.{written_list}
use Rattle.stm_texts.specs.declared.scenario.Scenario.{Scenario}
use Rattle.stm_explore.specs.declared.orders.SerialAnswer.{SerialAnswer}
use Rattle.stm_explore.specs.declared.orders.SerialAnswer.TheVariants.{Serial, Anomaly, Open, Undecided}
use Rattle.stm_explore.specs.Orders.{IsSerialAnswer}
use Rattle.stm_exploring.specs.declared.printed.Printed.{Printed}
use Rattle.stm_exploring.specs.declared.printed.SearchAnswer.{SearchAnswer}
use Rattle.stm_exploring.specs.declared.printed.SearchAnswer.TheVariants as verdict
use Rattle.stm_exploring.specs.Asking.{ends_of, place_of}
use Rattle.stm_exploring.specs.Judging.{scheduled_text}
use Rattle.stm_exploring.specs.Lines.{key_value_data, runner_end_data}

-- the elements of the line of an outcome that no serial order comes to, and to which a schedule of so many moves does
abbrev pub anomaly_parts : Outcome → ℕ → List Data
anomaly_parts it moves =
    string (codes "anomaly") ∷ whole moves ∷ written_list key_value_data it.state ∷ written_list runner_end_data it.ends ∷ []

abbrev pub serial_parts : SerialAnswer → List Data
serial_parts (Serial outcomes) = string (codes "serial") ∷ whole outcomes ∷ []
serial_parts (Anomaly it moves) = anomaly_parts it (length moves)
serial_parts (Open gone_through) = string (codes "open") ∷ whole gone_through ∷ []
serial_parts (Undecided it moves) = string (codes "open") ∷ whole (length moves) ∷ []

abbrev pub serial_line : SerialAnswer → Data
serial_line answer = list (serial_parts answer)

-- the line of the scenario with the schedule that comes to it
abbrev pub serial_schedule : Scenario → SerialAnswer → List ℕ
serial_schedule s (Serial outcomes) = []
serial_schedule s (Anomaly it moves) = scheduled_text s moves
serial_schedule s (Open gone_through) = []
serial_schedule s (Undecided it moves) = []

abbrev pub serial_text : Scenario → SerialAnswer → List ℕ
serial_text s answer = line_text (serial_line answer) ++ serial_schedule s answer

abbrev pub verdict_of_serial : SerialAnswer → SearchAnswer
verdict_of_serial (Serial outcomes) = verdict.Kept
verdict_of_serial (Anomaly it moves) = verdict.Broken
verdict_of_serial (Open gone_through) = verdict.Open
verdict_of_serial (Undecided it moves) = verdict.Open

abbrev pub printed_serial : Scenario → SerialAnswer → Printed
printed_serial s answer = record { verdict = verdict_of_serial answer; text = serial_text s answer }

-- it is what is printed of what is known of the outcomes of this scenario
abbrev pub IsPrintedSerial : Scenario → Printed → Type 0
IsPrintedSerial s p = (answer : SerialAnswer) × IsSerialAnswer (place_of s) (ends_of s) answer × (p ≡ printed_serial s answer)
