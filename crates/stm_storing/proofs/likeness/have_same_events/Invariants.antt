use Rattle.std.proofs.Common.{◌≡◌, ◌<◌, ◌≤◌, ℕ}
use Rattle.stm_keys.specs.Events.{events_of}
use Rattle.stm_storing.proofs.likeness.have_same_events.Given as goal

-- the events are the same up to the revision that was looked at
abbrev pub invariant-loop-revision : goal.invariant-loop-revision
invariant-loop-revision l = (r : ℕ) → l.since < r → r ≤ l.revision → events_of l.left.history r ≡ events_of l.right.history r
