use Rattle.stm_workers.proofs.LockedLemmas.{begins}
use Rattle.stm_workers.proofs.locked.Locked.new.Goals as goal

pub invariant_of-result : goal.invariant_of-result
invariant_of-result g c =
    let b = begins _ _ c.args.hall c.args.commits.total c.requires.0 c.requires.1 in record { gone_on = b.0; kept = b.1; takes = b.2; counted = b.3 }
