use Rattle.stm_watch.proofs.Copied.{shelves_copied}
use Rattle.stm_watch.proofs.ranges.Ranges.copy.Goals as goal

pub returns : goal.returns
returns c ws e had = shelves_copied c.args.self.now.shelves.items c.in_ok-shelves.shelves.items c.in_ok-shelves.ensures.cases.0 ws e had
