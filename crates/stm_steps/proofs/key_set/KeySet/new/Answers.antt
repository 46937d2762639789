use Rattle.stm_steps.specs.declared.searched.TheConstants.{MOST_SEARCHED}
use Rattle.stm_steps.proofs.SearchedLemmas.{none_behind_none}
use Rattle.stm_steps.proofs.key_set.KeySet.new.Goals as goal

pub invariant_of-result : goal.invariant_of-result
invariant_of-result c = none_behind_none MOST_SEARCHED c.new.result.items c.new-2.result.keys c.new.ensures.items c.new-2.ensures.empty
