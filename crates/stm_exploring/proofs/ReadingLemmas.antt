-- From what was read of a source to what it has.
use Rattle.std.proofs.Common.{◌≡◌, ℕ, List, take, Option, Some, None, IfSome, sym, ap, Ok, ◌∙◌, arith}
use Rattle.std.proofs.lemmas.Bool.Decides.{nat_tests}
use Rattle.stm_devices.specs.declared.transfer.TheConstants.{MOST_READ}
use Rattle.stm_json.specs.Outcome.{Outcome, ◌>>=◌}
use Rattle.stm_program.specs.Syntax.{ProgramTree}
use Rattle.stm_program.specs.declared.level.Level.{Level}
use Rattle.stm_texts.specs.declared.scenario.Scenario.{Scenario}
use Rattle.stm_texts.proofs.Fronts.{RefusesLong, of_front, scenario_in-front}
use Rattle.stm_exploring.specs.Asking.{asked}
use Rattle.stm_exploring.specs.Exploring.{asked_in}
use Rattle.stm_program_texts.specs.Reading.{program_in}

-- ---- what is too long by a byte is too long however it goes on

asked_in-front : (level : Option Level) (all : List ℕ) → asked_in level (take MOST_READ all) ≡ asked_in level all
asked_in-front level all =
    ap (λ (o : Outcome Scenario). o >>= (λ (s : Scenario). Ok (asked level s))) (scenario_in-front all)

program_in-long : RefusesLong program_in
unfolding program_in
program_in-long bytes long = grind (arith, nat_tests)

program_in-front : (all : List ℕ) → program_in (take MOST_READ all) ≡ program_in all
program_in-front = of_front program_in program_in-long

-- ---- what was read of the bytes was read of the source

pub scenario_reported : (level : Option Level) (bytes : List ℕ) (known : Option (List ℕ)) (outcome : Outcome Scenario)
    → IfSome known (λ all. bytes ≡ take MOST_READ all) → asked_in level bytes ≡ outcome → IfSome known (λ all. asked_in level all ≡ outcome)
scenario_reported level bytes None outcome taken is = tt
scenario_reported level bytes (Some all) outcome taken is = sym (asked_in-front level all) ∙ sym (ap (asked_in level) taken) ∙ is

pub program_reported : (bytes : List ℕ) (known : Option (List ℕ)) (outcome : Outcome ProgramTree) → IfSome known (λ all. bytes ≡ take MOST_READ all)
    → program_in bytes ≡ outcome → IfSome known (λ all. program_in all ≡ outcome)
program_reported bytes None outcome taken is = tt
program_reported bytes (Some all) outcome taken is =
    sym (program_in-front all) ∙ sym (ap program_in taken) ∙ is
