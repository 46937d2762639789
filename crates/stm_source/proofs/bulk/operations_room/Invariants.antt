use Rattle.std.proofs.Common.{◌≡◌, drop}
use Rattle.stm_source.specs.Bulk.{ops_left}
use Rattle.stm_source.proofs.bulk.operations_room.Given as goal

-- those that are left lead to all
abbrev pub invariant-loop-operation : goal.invariant-loop-operation
invariant-loop-operation l = ops_left l.left (drop l.operation-index l.fn.operations) ≡ ops_left l.fn.room l.fn.operations
