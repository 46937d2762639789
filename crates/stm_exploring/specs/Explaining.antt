-- What the command `explore` explains, where it is to: a bad input, and a rule that came to a fault.
use Rattle.std.specs.Prelude.{◌≡◌, ◌==◌, ℕ, List, [], Bool, true, false, Result, Ok, Err}
use Rattle.std.specs.List.{after_first}
use Rattle.stm_explain.specs.Explaining.{ExplainsOrNothing}
use Rattle.stm_texts.specs.Reading.{scenario_in}
use Rattle.stm_faulted_runs.specs.Rules.{ExplainsRule}
use Rattle.stm_exploring.specs.declared.printed.Printed.{Printed}
use Rattle.stm_exploring.specs.declared.printed.SearchAnswer.{SearchAnswer}
use Rattle.stm_exploring.specs.declared.printed.SearchAnswer.TheVariants.{Broken}
use Rattle.stm_exploring.specs.declared.reading.ExploreFault.{ExploreFault}
use Rattle.stm_exploring.specs.declared.reading.ExploreFault.TheVariants.{BadScenario, BadProgram}

-- what explains a fault, where faults are explained, and else nothing
abbrev pub Explained : Bool → (List ℕ → Type 0) → List ℕ → Type 0
Explained false Explains more = more ≡ []
Explained true Explains more = Explains more

-- an input's name, and the text as which it was kept
pub record KeptInput : Type 0 where
  pub name : List ℕ
  pub text : List ℕ

-- the scenario or the rule is explained that is bad, or nothing is said; of another fault nothing is
abbrev pub ExplainsFault : KeptInput → KeptInput → ExploreFault → List ℕ → Type 0
ExplainsFault scenario keeps (BadScenario bad) more = ExplainsOrNothing scenario.name scenario.text more
ExplainsFault scenario keeps (BadProgram bad) more = ExplainsOrNothing keeps.name keeps.text more
ExplainsFault scenario keeps other more = more ≡ []

-- the same of a search without a rule
abbrev pub ExplainsScenario : KeptInput → ExploreFault → List ℕ → Type 0
ExplainsScenario scenario (BadScenario bad) more = ExplainsOrNothing scenario.name scenario.text more
ExplainsScenario scenario other more = more ≡ []

-- the same of a rule that is read alone
abbrev pub ExplainsProgram : KeptInput → ExploreFault → List ℕ → Type 0
ExplainsProgram rule (BadProgram bad) more = ExplainsOrNothing rule.name rule.text more
ExplainsProgram rule other more = more ≡ []

-- the schedule, which is printed of a rule that is broken after the first line
abbrev pub schedule_in : List ℕ → List ℕ
schedule_in printed = after_first (λ b. b == 10) printed

-- what is said of the rule that was kept under this name as this text, on the state that the printed schedule leaves
abbrev pub ExplainsOnSchedule : List ℕ → List ℕ → List ℕ → List ℕ → Type 0
ExplainsOnSchedule name text printed said = ExplainsRule name text (scenario_in (schedule_in printed)) said

-- a rule that is broken is explained on its schedule, and another is not
abbrev pub ExplainsAnswer : SearchAnswer → KeptInput → List ℕ → List ℕ → Type 0
ExplainsAnswer Broken keeps printed said = ExplainsOnSchedule keeps.name keeps.text printed said
ExplainsAnswer other keeps printed said = said ≡ []

abbrev pub ExplainsSearched : KeptInput → Result Printed ExploreFault → List ℕ → Type 0
ExplainsSearched keeps (Ok printed) said = ExplainsAnswer printed.verdict keeps printed.text said
ExplainsSearched keeps (Err fault) said = said ≡ []
