use Rattle.std.proofs.Common.{◌≡◌, ◌++◌, drop}
use Rattle.std.specs.Prelude.{IsTrue}
use Rattle.stm_history.specs.History.{now}
use Rattle.stm_outcome.specs.Branches.{are_readable}
use Rattle.stm_outcome.specs.LookUps.{changes_copied, answers_copied}
use Rattle.stm_txn.proofs.branch.run_ops.Given as goal

-- the operations that are left make the rest of the answers and of the changes
abbrev pub invariant-loop-op : goal.invariant-loop-op
invariant-loop-op l = record {
  readable : IsTrue (are_readable (now l.keys.history) (drop l.op-index l.ops));
  answered : l.branch.answers ++ answers_copied l.keys.history l.branch.changes.items (drop l.op-index l.ops)
      ≡ l.fn.branch.answers ++ answers_copied l.keys.history l.fn.branch.changes.items l.ops;
  changed : changes_copied l.keys.history l.branch.changes.items (drop l.op-index l.ops)
      ≡ changes_copied l.keys.history l.fn.branch.changes.items l.ops;
}
