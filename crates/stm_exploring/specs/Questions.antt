-- What is asked of a scenario without a rule: what its whole schedules come to, and what is printed of that.
use Rattle.std.specs.Prelude.{◌≡◌, ℕ, List, ◌++◌, length, map, Bool, true, false, Option, Result, Ok, Err, IfSome, codes}
use Rattle.std.specs.List.{zip}
use Rattle.stm_program.specs.declared.level.Level.{Level}
use Rattle.stm_texts.specs.declared.scenario.Scenario.{Scenario}
use Rattle.stm_schedules.specs.declared.moves.Move.{Move}
use Rattle.stm_schedules.specs.declared.outcome.Outcome.{Outcome}
use Rattle.stm_schedules.specs.Outcomes.{Ends}
use Rattle.stm_schedules.specs.Places.{Place}
use Rattle.stm_explore.specs.Explored.{AreOutcomes, OutcomesAreWitnessed}
use Rattle.stm_explore.specs.declared.finding.Outcomes.{Outcomes}
use Rattle.stm_explore.specs.declared.finding.Outcomes.TheVariants.{Found, Open as OpenAt}
use Rattle.stm_exploring.specs.declared.question.Question.{Question}
use Rattle.stm_exploring.specs.declared.question.Question.TheVariants.{Outcomes as EachOutcome, Witnesses as EachWitness, Serial as ByOrders, SerialLevels as ByOrdersAtEach}
use Rattle.stm_exploring.specs.declared.reading.ExploreFault.{ExploreFault}
use Rattle.stm_exploring.specs.declared.reading.ExploreFault.TheVariants.{OutOfMemory, BadScenario, BadProgram, BadWait, Device}
use Rattle.stm_exploring.specs.declared.printed.SearchAnswer.{SearchAnswer}
use Rattle.stm_exploring.specs.declared.printed.SearchAnswer.TheVariants as verdict
use Rattle.stm_exploring.specs.declared.printed.Printed.{Printed}
use Rattle.stm_exploring.specs.Anomalies.{IsPrintedSerial}
use Rattle.stm_exploring.specs.Asking.{place_of, ends_of}
use Rattle.stm_exploring.specs.Exploring.{asked_in}
use Rattle.stm_exploring.specs.Judging.{scheduled_text}
use Rattle.stm_exploring.specs.Lines.{each_once, outcome_text, counted_text}
use Rattle.stm_exploring.specs.SerialLevels.{ArePrintedAt}

-- these are all outcomes, and each schedule comes to its one
abbrev pub AreGathered : Place → Ends → Outcomes → Type 0
AreGathered p ends gathered = AreOutcomes p ends gathered × OutcomesAreWitnessed p ends gathered

-- the line of an outcome, and that of the scenario with a schedule that comes to it
abbrev pub witness_text : Scenario → Outcome × List Move → List ℕ
witness_text s it = outcome_text it.0 ++ scheduled_text s it.1

-- the texts of outcomes, each once, ascending by bytes: with their schedules, or without
abbrev pub found_texts : Bool → Scenario → List Outcome → List (List Move) → List (List ℕ)
found_texts false s outcomes schedules = each_once (map outcome_text outcomes)
found_texts true s outcomes schedules = each_once (map (witness_text s) (zip outcomes schedules))

-- and how many there are
abbrev pub all_text : List (List ℕ) → List ℕ
all_text texts = counted_text texts (codes "outcomes") (length texts)

-- those of all outcomes, or of those of schedules of up to a length, and that length
abbrev pub gathered_text : Bool → Scenario → Outcomes → List ℕ
gathered_text witnessed s (Found outcomes schedules) = all_text (found_texts witnessed s outcomes schedules)
gathered_text witnessed s (OpenAt gone_through outcomes schedules) =
    counted_text (found_texts witnessed s outcomes schedules) (codes "open") gone_through

abbrev pub verdict_of_outcomes : Outcomes → SearchAnswer
verdict_of_outcomes (Found outcomes schedules) = verdict.Kept
verdict_of_outcomes (OpenAt gone_through outcomes schedules) = verdict.Open

abbrev pub printed_outcomes : Bool → Scenario → Outcomes → Printed
printed_outcomes witnessed s gathered = record { verdict = verdict_of_outcomes gathered; text = gathered_text witnessed s gathered }

-- it is what is printed of what the whole schedules of this scenario come to
abbrev pub AreListed : Bool → Scenario → Printed → Type 0
AreListed witnessed s p = (gathered : Outcomes) × AreGathered (place_of s) (ends_of s) gathered × (p ≡ printed_outcomes witnessed s gathered)

-- it is what is printed of what is asked of this scenario
abbrev pub ArePrinted : Question → Scenario → Printed → Type 0
ArePrinted EachOutcome s p = AreListed false s p
ArePrinted EachWitness s p = AreListed true s p
ArePrinted ByOrders s p = IsPrintedSerial s p
ArePrinted ByOrdersAtEach s p = ArePrintedAt s p

-- what going through the schedules of a source's scenario did, by its answer
abbrev pub Gathers : Question → Option Level → Option (List ℕ) → Bool → Result Printed ExploreFault → Type 0
Gathers question level known failed (Ok p) =
    (failed ≡ false) × (s : Scenario) × IfSome known (λ all. asked_in level all ≡ Ok s) × ArePrinted question s p
Gathers question level known failed (Err OutOfMemory) = failed ≡ false
Gathers question level known failed (Err (BadScenario fault)) = (failed ≡ false) × IfSome known (λ all. asked_in level all ≡ Err fault)
Gathers question level known failed (Err (BadProgram fault)) = ⊥
Gathers question level known failed (Err (BadWait fault)) = ⊥
Gathers question level known failed (Err Device) = failed ≡ true
