use Rattle.std.proofs.Common.{◌≤◌, ◌+◌}
use Rattle.stm_closures.proofs.attempts.atomically.Given as goal

-- nothing was committed, and no more commits were sent than there were attempts
abbrev pub invariant-loop-sent : goal.invariant-loop-sent
invariant-loop-sent g l =
    g.D.Commit.is_left l.initial.store l.store × (g.D.Commit.sent l.store ≤ g.D.Commit.sent l.initial.store + l.sent)
