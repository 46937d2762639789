use Rattle.std.proofs.Common.{◌≡◌, ◌++◌, map}
use Rattle.std.specs.Prelude.{string_bytes}
use Rattle.std.specs.Vec.Iter.{into_iter_items}
use Rattle.stm_history.specs.declared.change.Change.TheVariants.{Del}
use Rattle.stm_txn.proofs.lease_calls.deletions.Given as goal

-- the deletions so far, followed by those of the keys that are left
abbrev pub invariant-loop-key : goal.invariant-loop-key
invariant-loop-key l = record {
  can_next : (goal.iterator-loop-key).can_next l.key-iterator;
  ends : (goal.iterator-loop-key).is_finite l.key-iterator;
  reported : l.changes.items ++ map Del (map string_bytes (into_iter_items l.key-iterator)) ≡ map Del (map string_bytes l.fn.keys.items);
}
