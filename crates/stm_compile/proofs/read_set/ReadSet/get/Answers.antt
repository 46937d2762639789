use Rattle.std.proofs.Common.{Option, IfSome, List, All, sym, subst}
use Rattle.stm_history.specs.declared.key_state.ReadAnswer.{ReadAnswer}
use Rattle.stm_outcome.specs.Numbers.{ReadFits}
use Rattle.stm_compile.proofs.AnswerLemmas.{answer_fits}
use Rattle.stm_compile.proofs.read_set.ReadSet.get.Goals as goal

pub returns-then-len-le-MOST_SEARCHED-clause-in_range : goal.returns-then-len-le-MOST_SEARCHED-clause-in_range
returns-then-len-le-MOST_SEARCHED-clause-in_range c =
    subst (λ (o : Option ReadAnswer). IfSome o ReadFits) (sym c.get_of_few.ensures)
    (answer_fits c.args.key.now c.args.self.now (subst (λ (l : List ReadAnswer). All ReadFits l) c.self.view_is c.self.invariant.0))

pub returns-else-len-le-MOST_SEARCHED-clause-in_range : goal.returns-else-len-le-MOST_SEARCHED-clause-in_range
returns-else-len-le-MOST_SEARCHED-clause-in_range c =
    subst (λ (o : Option ReadAnswer). IfSome o ReadFits) (sym c.get_of_many.ensures)
    (answer_fits c.args.key.now c.args.self.now (subst (λ (l : List ReadAnswer). All ReadFits l) c.self.view_is c.self.invariant.0))
