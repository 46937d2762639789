use Rattle.std.proofs.Common.{◌≡◌, drop}
use Rattle.stm_outcome.specs.Branches.{branch_refusal}
use Rattle.stm_outcome.specs.Terms.{terms_above}
use Rattle.stm_txn.proofs.refuse.find_refusal.Given as goal

-- the first refusal is looked for in the rest
abbrev pub invariant-loop-op : goal.invariant-loop-op
invariant-loop-op l =
    branch_refusal (terms_above l.keys.floor l.keys.history l.leases.live) (drop l.op-index l.ops)
    ≡ branch_refusal (terms_above l.keys.floor l.keys.history l.leases.live) l.ops
