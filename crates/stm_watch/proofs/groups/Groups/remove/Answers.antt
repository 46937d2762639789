use Rattle.stm_watch.specs.Pages.{IsIn}
use Rattle.stm_watch.proofs.Entered.{at-set}
use Rattle.stm_watch.proofs.groups.Groups.remove.Goals as goal

pub returns-then-group-len-clause-kept : goal.returns-then-group-len-clause-kept
returns-then-group-len-clause-kept c ws g e differs =
    at-set (IsIn ws e) c.args.self.now.groups.items c.in-Some.group g c.index_mut.result.now c.remove.new.self c.index_mut.ensures.value
    (c.remove.ensures ws e differs)
