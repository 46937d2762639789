use Rattle.stm_leases.proofs.Copied.{same_bytes}
use Rattle.stm_leases.proofs.copies.copy_attached.Goals as goal

pub returns : goal.returns
returns c = same_bytes c.args.attached.now.entries c.in_ok-copy.copy.entries c.in_ok-copy.ensures.cases
