-- What is too long by a byte is too long however it goes on, so who reads no further reads the same.
use Rattle.std.proofs.Common.{◌≡◌, ℕ, ◌≤◌, ◌<◌, List, length, take, Bool, true, false, nat_lt, Option, IfSome, refl, sym, ap, ◌∙◌, arith, take_all}
use Rattle.std.proofs.lemmas.Bool.{ltb-true, ltb-false}
use Rattle.std.proofs.lemmas.Bool.Decides.{nat_tests}
use Rattle.std.proofs.lemmas.List.{length-take-le}
use Rattle.stm_devices.specs.declared.transfer.TheConstants.{MOST_READ}
use Rattle.stm_json.specs.declared.cause.Cause.TheVariants.{TooLong}
use Rattle.stm_json.specs.declared.limits.TheConstants.{MOST_BYTES}
use Rattle.stm_json.specs.Outcome.{Outcome, bad}
use Rattle.stm_texts.specs.declared.scenario.Scenario.{Scenario}
use Rattle.stm_texts.specs.Reading.{scenario_in}

-- a reading that refuses what is too long
abbrev pub RefusesLong : {X : Type 0} → (List ℕ → Outcome X) → Type 0
RefusesLong reading = (bytes : List ℕ) → MOST_BYTES < length bytes → reading bytes ≡ bad TooLong

front_by_length : {X : Type 0} (reading : List ℕ → Outcome X) → RefusesLong reading
    → (b : Bool) (all : List ℕ) → nat_lt MOST_BYTES (length all) ≡ b → reading (take MOST_READ all) ≡ reading all
front_by_length reading refuses true all is =
    let long : MOST_BYTES < length all = ltb-true MOST_BYTES (length all) is in
    let front : length (take MOST_READ all) ≡ MOST_READ = length-take-le MOST_READ all (omega arith) in
    refuses (take MOST_READ all) (omega arith) ∙ sym (refuses all long)
front_by_length reading refuses false all is =
    let short : length all ≤ MOST_BYTES = ltb-false MOST_BYTES (length all) is in
    ap reading (take_all MOST_READ all (omega arith))

pub of_front : {X : Type 0} (reading : List ℕ → Outcome X) → RefusesLong reading → (all : List ℕ) → reading (take MOST_READ all) ≡ reading all
of_front reading refuses all = front_by_length reading refuses (nat_lt MOST_BYTES (length all)) all refl

scenario_in-long : RefusesLong scenario_in
unfolding scenario_in
scenario_in-long bytes long = grind (arith, nat_tests)

pub scenario_in-front : (all : List ℕ) → scenario_in (take MOST_READ all) ≡ scenario_in all
scenario_in-front = of_front scenario_in scenario_in-long

-- what is so of the scenario in the bytes that were read is so of that in the input
pub pending_of_revision : (bytes : List ℕ) (known : Option (List ℕ)) (P : Outcome Scenario → Type 0) →
    IfSome known (λ all. bytes ≡ take MOST_READ all) → P (scenario_in bytes) → IfSome known (λ all. P (scenario_in all))
pending_of_revision bytes known P read holds = grind (arith, nat_tests, scenario_in-front)
