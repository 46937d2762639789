-- What was found from one place, as its schedules come to it from another one.
use Rattle.std.specs.Prelude.{List, map}
use Rattle.stm_schedules.specs.declared.moves.Move.{Move}
use Rattle.stm_schedules.specs.declared.outcome.Outcome.{Outcome}
use Rattle.stm_schedules.specs.Outcomes.{Ends, outcome_after}
use Rattle.stm_schedules.specs.Places.{Place}
use Rattle.stm_explore.specs.declared.finding.Outcomes.{Outcomes}
use Rattle.stm_explore.specs.declared.finding.Outcomes.TheVariants.{Found, Open as OpenAt}
use Rattle.stm_explore.specs.declared.orders.SerialAnswer.{SerialAnswer}
use Rattle.stm_explore.specs.declared.orders.SerialAnswer.TheVariants as serial

-- what these schedules come to
abbrev pub outcomes_after : Place → Ends → List (List Move) → List Outcome
outcomes_after p ends schedules = map (λ (schedule : List Move). outcome_after schedule p ends) schedules

abbrev pub outcomes_there : Place → Ends → Outcomes → Outcomes
outcomes_there p ends (Found outcomes schedules) = Found (outcomes_after p ends schedules) schedules
outcomes_there p ends (OpenAt gone_through outcomes schedules) = OpenAt gone_through (outcomes_after p ends schedules) schedules

abbrev pub answer_there : Place → Ends → SerialAnswer → SerialAnswer
answer_there p ends (serial.Serial count) = serial.Serial count
answer_there p ends (serial.Anomaly it schedule) = serial.Anomaly (outcome_after schedule p ends) schedule
answer_there p ends (serial.Open gone_through) = serial.Open gone_through
answer_there p ends (serial.Undecided it schedule) = serial.Undecided (outcome_after schedule p ends) schedule
