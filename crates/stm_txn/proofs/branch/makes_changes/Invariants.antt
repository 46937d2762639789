use Rattle.std.proofs.Common.{◌≡◌, [], drop}
use Rattle.stm_outcome.specs.LookUps.{changes_copied}
use Rattle.stm_txn.proofs.branch.makes_changes.Given as goal

-- the operations so far changed nothing
abbrev pub invariant-loop-op : goal.invariant-loop-op
invariant-loop-op l = changes_copied l.keys.history [] (drop l.op-index l.ops) ≡ changes_copied l.keys.history [] l.ops
