use Rattle.stm_entries.proofs.LeaseLemmas.{no_leases}
use Rattle.stm_entries.proofs.live_leases.no_leases.Goals as goal

pub returns : goal.returns
returns c = no_leases c.new.result c.new.ensures.empty
