use Rattle.stm_watch.proofs.Copied.{groups_copied}
use Rattle.stm_watch.proofs.copies.copy_groups.Goals as goal

pub returns : goal.returns
returns c = groups_copied c.args.groups.now.items c.in_ok-copy.copy.items c.in_ok-copy.ensures.cases.0
