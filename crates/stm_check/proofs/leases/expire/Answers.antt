use Rattle.std.proofs.Common.{List, take, subst}
use Rattle.stm_outcome.specs.declared.advance.Expired.{Expired}
use Rattle.stm_entries.specs.Replay.{replay}
use Rattle.stm_entries.specs.LiveLeases.{HasLeases}
use Rattle.stm_entries.specs.Entered.{expiries}
use Rattle.stm_check.proofs.LeaseLemmas.{expired_more}
use Rattle.stm_check.proofs.leases.expire.Goals as goal

pub loop-lease-preserved : goal.loop-lease-preserved
loop-lease-preserved c = λ r has.
    let es : List Expired = c.args.expired.now in
    let i = c.loop-lease.lease-index in
    subst (HasLeases c.end_lease.new.leases) (expired_more es i (record { id = 0; revision = 0 }) r c.loop-lease-test.true)
    (c.end_lease.ensures (replay (expiries (take i es)) r).live (c.loop-lease.invariant r has))
