use Rattle.std.proofs.Common.{◌≡◌, ◌-◌, ◌≤◌}
use Rattle.stm_history.specs.History.{now}
use Rattle.stm_keys.specs.Keys.{without_up_to}
use Rattle.stm_keys.proofs.keys.Keys.forget_up_to.Given as goal

-- dropping the rest comes to dropping all
abbrev pub invariant-revisions : goal.invariant-revisions
invariant-revisions l = record {
  reached : l.number ≤ now l.self.history;
  reported : without_up_to l.number l.self ≡ without_up_to l.number l.fn.self;
}

abbrev pub decreases-revisions : goal.decreases-revisions
decreases-revisions l = l.number - l.self.history.opening.number
