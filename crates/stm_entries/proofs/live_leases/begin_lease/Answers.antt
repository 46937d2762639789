use Rattle.stm_entries.proofs.LeaseLemmas.{begun}
use Rattle.stm_entries.proofs.live_leases.begin_lease.Goals as goal

pub returns : goal.returns
returns c = begun c.args.leases.now c.insert.new.self c.args.id c.args.lease c.in_ok-insert.ensures.updates
