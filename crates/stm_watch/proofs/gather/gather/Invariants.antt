use Rattle.std.proofs.Common.{◌≡◌, ◌≤◌, ◌-◌, ◌++◌, List, length}
use Rattle.stm_watch.specs.declared.pending_revision.PendingRevision.{PendingRevision}
use Rattle.stm_watch.specs.Pending.{pending, pending_above, number_of_first, pending_events, last_number}
use Rattle.stm_watch.specs.Slots.{followed}
use Rattle.stm_watch.proofs.gather.gather.Given as goal

-- `count` of the revisions that are pending are given, the others are above the last of them, and the first of those is next
abbrev pub invariant-loop-count : goal.invariant-loop-count
invariant-loop-count l = record {
  within : l.count ≤ l.most;
  next_is : l.next ≡ number_of_first (pending_above l.keys.history.opening l.upto l.watcher.watched l.keys.history.revisions);
  given : (given : List PendingRevision) × (length given ≡ l.count) × (l.events.items ≡ pending_events given) × (l.upto ≡ last_number l.watcher.seen given)
      × (pending l.keys.history (followed l.watcher)
      ≡ given ++ pending_above l.keys.history.opening l.upto l.watcher.watched l.keys.history.revisions);
}

abbrev pub decreases-loop-count : goal.decreases-loop-count
decreases-loop-count l = l.most - l.count
