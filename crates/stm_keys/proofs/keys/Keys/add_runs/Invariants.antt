use Rattle.std.proofs.Common.{◌≡◌, ◌-◌}
use Rattle.stm_history.specs.History.{now}
use Rattle.stm_keys.proofs.keys.Keys.add_runs.Given as goal

-- the keys are as they were
abbrev pub invariant-revisions : goal.invariant-revisions
invariant-revisions l = l.self ≡ l.fn.self

abbrev pub decreases-revisions : goal.decreases-revisions
decreases-revisions l = now l.self.history - l.number
