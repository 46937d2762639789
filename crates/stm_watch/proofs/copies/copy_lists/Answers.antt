use Rattle.stm_lists.proofs.Cloned.{same_lists}
use Rattle.stm_watch.proofs.copies.copy_lists.Goals as goal

pub returns : goal.returns
returns c = same_lists _ (λ x y p. p) c.args.lists.now c.in_ok-copy.copy c.in_ok-copy.ensures.cases
