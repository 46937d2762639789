use Rattle.std.proofs.Common.{◌≡◌, ◌≤◌, ◌-◌}
use Rattle.stm_history.specs.History.{now}
use Rattle.stm_keys.specs.NextChange.{next_change_between}
use Rattle.stm_keys.proofs.keys.Keys.next_change_between.Given as goal

-- the revisions that were passed change no key of the range
abbrev pub invariant-revisions : goal.invariant-revisions
invariant-revisions l = record {
  opened : l.self.history.opening.number ≤ l.passed;
  reported : next_change_between l.self.history l.first l.end l.above ≡ next_change_between l.self.history l.first l.end l.passed;
}

abbrev pub decreases-revisions : goal.decreases-revisions
decreases-revisions l = now l.self.history - l.passed
