use Rattle.std.proofs.Common.{ℕ, List, length}
use Rattle.std.specs.List.{AllByRecursion}
use Rattle.stm_keys.specs.declared.event.Event.{Event}
use Rattle.stm_keys.specs.Runs.{SumsUp}
use Rattle.stm_keys.proofs.runs.Runs.forget_up_to.Given as goal

-- what holds of all runs holds of those that are left
abbrev pub invariant-runs : goal.invariant-runs
invariant-runs l = (below : ℕ) (recorded : List (List Event)) → AllByRecursion (SumsUp below recorded) l.fn.self → AllByRecursion (SumsUp below recorded) l.self

abbrev pub decreases-runs : goal.decreases-runs
decreases-runs l = length l.self
