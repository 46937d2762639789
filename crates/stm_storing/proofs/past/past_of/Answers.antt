use Rattle.stm_storing.proofs.PastKeys.{all_past}
use Rattle.stm_storing.proofs.past.past_of.Goals as goal

pub returns : goal.returns
returns c =
    all_past c.args.keys.now.history c.args.revision c.new-past.result.entries c.add_present.new.past.entries c.add_changed_since.new.past.entries c.new-past.ensures.empty
    c.in_ok-add_present.ensures c.in_ok-add_changed_since.ensures
