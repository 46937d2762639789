-- No line of a search has a float.
use Rattle.std.proofs.Common.{arith, ◌≡◌, ℕ, false, List, [], ◌∷◌, ◌++◌, map, refl}
use Rattle.std.proofs.lemmas.Bool.Decides.{nat_tests}
use Rattle.serde_json.specs.Data.{Data, string}
use Rattle.serde_json.specs.View.{items_of}
use Rattle.serde_json.specs.Written.{has_float, items_have_float}
use Rattle.stm_report_lines.specs.LineData.{list, value_data}
use Rattle.stm_steps.specs.declared.run.End.{End}
use Rattle.stm_steps.specs.declared.value.Value.{Value}
use Rattle.stm_program.specs.declared.level.Level.{Level}
use Rattle.stm_texts.specs.Grammar.{level_text}
use Rattle.stm_schedules.specs.declared.outcome.KeyValue.{KeyValue}
use Rattle.stm_schedules.specs.declared.outcome.Outcome.{Outcome}
use Rattle.stm_schedules.specs.declared.outcome.RunnerEnd.{RunnerEnd}
use Rattle.stm_schedules.specs.declared.outcome.RunnerEnd.TheVariants.{Committed}
use Rattle.stm_explore.specs.declared.orders.SerialAnswer.{SerialAnswer}
use Rattle.stm_explore.specs.declared.orders.SerialAnswer.TheVariants.{Serial, Anomaly, Open as OpenOutcomes, Undecided}
use Rattle.stm_exploring.specs.declared.rules.RuleAnswer.{RuleAnswer}
use Rattle.stm_exploring.specs.Anomalies.{serial_line, serial_parts}
use Rattle.stm_exploring.specs.Levels.{level_line}
use Rattle.stm_exploring.specs.SerialLevels.{serial_level_line}
use Rattle.stm_exploring.specs.declared.serial_levels.SerialLevel.{SerialLevel}
use Rattle.stm_exploring.specs.Judging.{answer_line}
use Rattle.stm_exploring.specs.Lines.{end_data, key_value_data, runner_end_data, outcome_line}

each-no_float : {A : Type 0} (write : A → Data) → ((x : A) → has_float (write x) ≡ false) → (xs : List A) → items_have_float (items_of (map write xs)) ≡ false
each-no_float write one [] = refl
each-no_float write one (x ∷ xs) = rw (one x) (each-no_float write one xs)

end_data-no_float : (end : End) → has_float (end_data end) ≡ false
end_data-no_float end = grind (arith, nat_tests)

pub answer_line-no_float : (a : RuleAnswer) → has_float (answer_line a) ≡ false
answer_line-no_float a = grind (arith, nat_tests, end_data-no_float)

pub level_line-no_float : (level : Level) (a : RuleAnswer) → has_float (level_line level a) ≡ false
level_line-no_float level a = grind (arith, nat_tests, end_data-no_float)

value_data-no_float : (v : Value) → has_float (value_data v) ≡ false
value_data-no_float v = grind (arith, nat_tests)

runner_end_data-no_float : (end : RunnerEnd) → has_float (runner_end_data end) ≡ false
runner_end_data-no_float (Committed output) = rw (each-no_float value_data value_data-no_float output) refl
runner_end_data-no_float _ = refl

states-no_float : (state : List KeyValue) → items_have_float (items_of (map key_value_data state)) ≡ false
states-no_float = each-no_float key_value_data (λ kv. refl)

ends-no_float : (ends : List RunnerEnd) → items_have_float (items_of (map runner_end_data ends)) ≡ false
ends-no_float = each-no_float runner_end_data runner_end_data-no_float

pub outcome_line-no_float : (o : Outcome) → has_float (outcome_line o) ≡ false
outcome_line-no_float o = rw (states-no_float o.state, ends-no_float o.ends) refl

pub serial_line-no_float : (answer : SerialAnswer) → has_float (serial_line answer) ≡ false
serial_line-no_float (Serial outcomes) = refl
serial_line-no_float (Anomaly it moves) = rw (states-no_float it.state, ends-no_float it.ends) refl
serial_line-no_float (OpenOutcomes gone_through) = refl
serial_line-no_float (Undecided it moves) = refl

serial_parts_at-no_float : (answer : SerialAnswer) (level : List ℕ) → has_float (list (serial_parts answer ++ string level ∷ [])) ≡ false
serial_parts_at-no_float (Serial outcomes) level = refl
serial_parts_at-no_float (Anomaly it moves) level = rw (states-no_float it.state, ends-no_float it.ends) refl
serial_parts_at-no_float (OpenOutcomes gone_through) level = refl
serial_parts_at-no_float (Undecided it moves) level = refl

pub serial_level_line-no_float : (a : SerialLevel) → has_float (serial_level_line a) ≡ false
serial_level_line-no_float a = serial_parts_at-no_float a.answer (level_text a.level)
