use Rattle.std.proofs.Common.{arith}
use Rattle.stm_alike.proofs.LeaseLog.{all_seen, same_leases}
use Rattle.stm_alike.proofs.leases.leave_same_leases.Goals as goal

pub returns : goal.returns
returns c = λ is r.
    same_leases c.args.left.now c.args.right.now r
    (all_seen c.args.left.now c.args.right.now c.loop-entry.entry-index c.loop-entry.next (omega arith) c.loop-entry.invariant.so_far (c.has_no_lease.ensures is))
