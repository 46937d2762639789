use Rattle.std.proofs.Common.{sym}
use Rattle.stm_entries.proofs.LeaseLemmas.{renewed}
use Rattle.stm_entries.proofs.live_leases.renew_lease.Goals as goal

pub returns : goal.returns
returns c = renewed c.args.leases.now c.insert.new.self c.args.id c.args.moment c.in-Some.lease.now (sym c.in-Some.ensures.value) c.in_ok-insert.ensures.updates
