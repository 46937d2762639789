use Rattle.stm_entries.proofs.LeaseLemmas.{ended}
use Rattle.stm_entries.proofs.live_leases.end_lease.Goals as goal

pub returns : goal.returns
returns c = ended c.args.leases.now c.remove.new.self c.args.id c.remove.ensures.updates
