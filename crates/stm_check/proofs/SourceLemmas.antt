-- From what was read of a source to what it has.
use Rattle.std.proofs.Common.{◌≡◌, ℕ, List, take, Option, Some, None, IfSome, sym, ap, ◌∙◌, arith}
use Rattle.std.proofs.lemmas.Bool.Decides.{nat_tests}
use Rattle.stm_json.specs.Outcome.{Outcome}
use Rattle.stm_devices.specs.declared.transfer.TheConstants.{MOST_READ}
use Rattle.stm_texts.specs.declared.scenario.Scenario.{Scenario}
use Rattle.stm_texts.specs.Reading.{scenario_in}
use Rattle.stm_texts.proofs.Fronts.{RefusesLong, of_front, scenario_in-front}
use Rattle.stm_events.specs.declared.line.Report.{Report}
use Rattle.stm_report_lines.specs.Reading.{report_in}

report_in-long : RefusesLong report_in
unfolding report_in
report_in-long bytes long = grind (arith, nat_tests)

pub scenario_reported : (bytes : List ℕ) (known : Option (List ℕ)) (outcome : Outcome Scenario) → IfSome known (λ all. bytes ≡ take MOST_READ all) →
    scenario_in bytes ≡ outcome → IfSome known (λ all. scenario_in all ≡ outcome)
scenario_reported bytes None outcome read is = tt
scenario_reported bytes (Some all) outcome read is = sym (scenario_in-front all) ∙ sym (ap scenario_in read) ∙ is

pub report_reported : (bytes : List ℕ) (known : Option (List ℕ)) (outcome : Outcome Report) → IfSome known (λ all. bytes ≡ take MOST_READ all) →
    report_in bytes ≡ outcome → IfSome known (λ all. report_in all ≡ outcome)
report_reported bytes None outcome read is = tt
report_reported bytes (Some all) outcome read is = sym (of_front report_in report_in-long all) ∙ sym (ap report_in read) ∙ is
