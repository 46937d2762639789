-- What a part of a program comes to.
use Rattle.std.specs.Prelude.{ℕ, nat_lt, if◌then◌else◌, List, pos, Option, None, Some, Result, Ok, Err}
use Rattle.stm_steps.specs.declared.value.Value.{Value}
use Rattle.stm_steps.specs.declared.value.Value.TheVariants.{Number}
use Rattle.stm_steps.specs.declared.fault.Fault.{Fault}
use Rattle.stm_steps.specs.declared.fault.Fault.TheVariants.{TurnLimit}
use Rattle.stm_steps.specs.declared.stop.Stop.{Stop}
use Rattle.stm_steps.specs.declared.stop.Stop.TheVariants.{Faulted, Wants}
use Rattle.stm_steps.specs.Session.{Session, with_variable, with_turn}
use Rattle.stm_steps.specs.declared.session.TheConstants.{TURN_LIMIT}

-- A part of a program gives something and goes on, or stops the run. Either way there is what the run has come to.
pub data Outcome (X : Type 0) : Type 0 where
  Gives : X → Session → Outcome X
  Stops : Stop → Session → Outcome X

-- one part after another: the second sees what the first gave
abbrev pub and_then : {X Y : Type 0} → Outcome X → (X → Session → Outcome Y) → Outcome Y
and_then (Gives x s) next = next x s
and_then (Stops stop s) next = Stops stop s

-- a computed value, or a fault that stops the run
abbrev pub given : {X : Type 0} → Result X Fault → Session → Outcome X
given (Ok x) s = Gives x s
given (Err fault) s = Stops (Faulted fault) s

-- what was found under a key, or the key as one that the run wants
abbrev pub found_or_wanted : List ℕ → Option Value → Session → Outcome Value
found_or_wanted key (Some x) s = Gives x s
found_or_wanted key None s = Stops (Wants key) s

-- the turns of all loops of one run, at most
abbrev pub turn_limit : ℕ
turn_limit = TURN_LIMIT

-- a turn is counted before its variable is set
unfoldable pub begin_turn : ℕ → ℕ → Session → Outcome (Unit {0})
begin_turn v i s = if nat_lt s.turns turn_limit then Gives tt (with_variable v (Number (pos i)) (with_turn s)) else Stops (Faulted TurnLimit) s
