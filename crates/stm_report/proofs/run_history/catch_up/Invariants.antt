use Rattle.std.proofs.Common.{◌≡◌, ◌-◌}
use Rattle.stm_history.specs.History.{now}
use Rattle.stm_report.specs.RunHistory.{IsBehind}
use Rattle.stm_report.proofs.run_history.catch_up.Given as goal

abbrev pub invariant-revisions : goal.invariant-revisions
invariant-revisions l = record {
  behind : IsBehind l.whole.history l.world;
  last : l.last ≡ now l.world.standing.history;
}

abbrev pub decreases-revisions : goal.decreases-revisions
decreases-revisions l = l.last - now l.whole.history
