-- How a scenario is printed.
use Rattle.std.specs.Prelude.{ℕ, List, [], ◌++◌, Option, None, Some, nat_eq, if◌then◌else◌, codes}
use Rattle.stm_outcome.specs.Terms.{most_operations}
use Rattle.stm_txn.specs.Standing.{Setup}
use Rattle.stm_texts.specs.declared.scenario.Scenario.{Scenario}
use Rattle.stm_show.specs.Events.{numbered, shown_events}

-- the limit is left out where it is the highest
abbrev pub shown_limit : ℕ → List ℕ
shown_limit operations = if nat_eq operations most_operations then [] else numbered (codes " limit") operations

abbrev pub shown_opening : Option Setup → List ℕ
shown_opening None = []
shown_opening (Some o) = numbered (codes "begin") o.revision ++ shown_limit o.limit ++ codes "\n"

-- the source of a scenario
abbrev pub shown_scenario : Scenario → List ℕ
shown_scenario s = shown_opening s.opening ++ shown_events 0 s.events
