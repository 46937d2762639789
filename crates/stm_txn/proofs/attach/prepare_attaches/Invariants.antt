use Rattle.std.proofs.Common.{◌≡◌, ◌++◌, drop}
use Rattle.stm_txn.specs.Leasing.{attached_of}
use Rattle.stm_txn.proofs.attach.prepare_attaches.Given as goal

-- the keys so far, followed by those of the changes that are left
abbrev pub invariant-loop-change : goal.invariant-loop-change
invariant-loop-change l = l.attaches.items ++ attached_of (drop l.change-index l.changes) ≡ attached_of l.changes
