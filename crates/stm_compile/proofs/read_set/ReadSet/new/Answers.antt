use Rattle.indexmap.specs.IndexMap.{get_by_text}
use Rattle.stm_compile.specs.declared.read_set.TheConstants.{MOST_SEARCHED}
use Rattle.stm_compile.proofs.AnswerLemmas.{nothing_found, none_kept}
use Rattle.stm_compile.proofs.read_set.ReadSet.new.Goals as goal

-- nothing was read, and nothing has a place
pub invariant_of-result : goal.invariant_of-result
invariant_of-result c =
    none_kept MOST_SEARCHED c.new-answers.result.items (get_by_text c.new-places.result) c.new-answers.ensures.items
    (λ key. nothing_found c.new-places.result.entries key c.new-places.ensures.empty)
