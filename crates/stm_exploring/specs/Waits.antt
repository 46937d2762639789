-- Waits as they are spelled on the command line, and those that a scenario has no runners for.
use Rattle.std.specs.Prelude.{◌≡◌, ℕ, nat_eq, nat_lt, Bool, true, false, ◌||◌, List, [], ◌∷◌, ◌++◌, length, map, Option, Some, codes, decimal}
use Rattle.std.specs.List.{concat, find}
use Rattle.stm_json.specs.declared.cause.Cause.TheVariants.{Range}
use Rattle.stm_schedules.specs.Scenarios.{up_to_last_start}
use Rattle.stm_serial_search.specs.Search.{programs_started}
use Rattle.stm_texts.specs.declared.scenario.Scenario.{Scenario}
use Rattle.stm_explore.specs.declared.waits.Wait.{Wait}
use Rattle.stm_exploring.specs.declared.reading.ExploreFault.{ExploreFault}
use Rattle.stm_exploring.specs.declared.reading.ExploreFault.TheVariants.{OutOfMemory, BadScenario, BadProgram, BadWait, Device}

-- ---- how they are spelled

abbrev pub commit_text : Bool → List ℕ
commit_text true = codes ":committed"
commit_text false = []

-- RUNNER:FIRST or RUNNER:FIRST:committed
abbrev pub wait_text : Wait → List ℕ
wait_text wait = decimal wait.runner ++ codes ":" ++ decimal wait.first ++ commit_text wait.committed

-- one with a comma before it
abbrev pub next_wait_text : Wait → List ℕ
next_wait_text wait = codes "," ++ wait_text wait

abbrev pub more_waits_text : List Wait → List ℕ
more_waits_text waits = concat (map next_wait_text waits)

abbrev pub waits_text : List Wait → List ℕ
waits_text [] = []
waits_text (wait ∷ waits) = wait_text wait ++ more_waits_text waits

-- ---- which runners a scenario has

-- as many as starts that get a number
abbrev pub runner_count : Scenario → ℕ
runner_count s = length (programs_started (up_to_last_start s.events))

-- none of so many runners has this number
abbrev pub is_no_runner : ℕ → ℕ → Bool
is_no_runner count runner = nat_eq runner 0 || nat_lt count runner

-- the runner that waits is none of so many, or the one that it waits for
abbrev pub is_stranger : ℕ → Wait → Bool
is_stranger count wait = is_no_runner count wait.runner || is_no_runner count wait.first

-- the first wait that a scenario has no runners for
abbrev pub first_stranger : Scenario → List Wait → Option Wait
first_stranger s waits = find (is_stranger (runner_count s)) waits

-- a fault of waits beside a scenario: an allocation failed, or this is said of the first wait that the scenario has no runners for
abbrev pub IsWaitFault : Scenario → List Wait → ExploreFault → Type 0
IsWaitFault s waits OutOfMemory = Unit {0}
IsWaitFault s waits (BadWait bad) = (wait : Wait) × (first_stranger s waits ≡ Some wait) × (bad ≡ record { place = wait_text wait; cause = Range })
IsWaitFault s waits (BadScenario bad) = ⊥
IsWaitFault s waits (BadProgram bad) = ⊥
IsWaitFault s waits Device = ⊥
