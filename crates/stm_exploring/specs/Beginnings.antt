-- Where the schedules of a scenario begin, and a search for rules there.
use Rattle.std.specs.Prelude.{◌≡◌, true, List, IfSome}
use Rattle.stm_schedules.specs.Places.{Place}
use Rattle.stm_serial.specs.Serial.{IsComparing}
use Rattle.stm_serial_search.specs.Search.{AreProgramsOf}
use Rattle.stm_texts.specs.declared.scenario.Scenario.{Scenario}
use Rattle.stm_world.specs.World.{World}
use Rattle.stm_exploring.specs.declared.rules.Rule.{Rule}
use Rattle.stm_exploring.specs.declared.rules.RuleAnswer.{RuleAnswer}
use Rattle.stm_exploring.specs.declared.judging.Searched.{Searched}
use Rattle.stm_exploring.specs.declared.beginning.Begun.{Begun}
use Rattle.stm_exploring.specs.Asking.{ends_of, place_of}
use Rattle.stm_exploring.specs.Judging.{AreFoundFrom}
use Rattle.stm_exploring.specs.Narrowing.{StandsFor}

-- ---- a scenario whose set-up was run

abbrev pub place_in : Begun → World → Place
place_in b w = record { world = w; others = b.others.now }

abbrev pub whole_place : Begun → Place
whole_place b = place_in b b.world

-- The programs are those of the runners, serial orders are enough where that is said, and the small world stands for the whole one where these rules are
-- searched for.
pub record IsReady (rules : List Rule) (b : Begun) : Type 0 where
  pub programs : AreProgramsOf b.programs.items b.world.runners
  pub comparing : b.comparing ≡ true → IsComparing (whole_place b)
  pub small : IfSome b.small (λ w. StandsFor rules (place_in b w) (whole_place b))

-- it is where the schedules of this scenario begin
pub record HasBegun (s : Scenario) (rules : List Rule) (b : Begun) : Type 0 where
  pub ready : IsReady rules b
  pub place : whole_place b ≡ place_of s
  pub ends : b.ends.items ≡ ends_of s

-- ---- a search

abbrev pub place_at : Searched → Place
place_at at = record { world = at.world.now; others = at.others.now }

-- the programs are those of the runners, and serial orders are enough where that is said
pub record CanSearch (at : Searched) : Type 0 where
  pub programs : AreProgramsOf at.programs.now at.world.now.runners
  pub comparing : at.comparing ≡ true → IsComparing (place_at at)

-- it is so of these rules after the schedules from there
abbrev pub AreFoundThere : Searched → List Rule → List RuleAnswer → Type 0
AreFoundThere at rules answers = AreFoundFrom at.waits.now rules (place_at at) at.ends.now answers
