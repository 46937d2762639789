use Rattle.std.proofs.Common.{List, sym, ◌∙◌, subst, All}
use Rattle.indexmap.specs.IndexMap.{get_by_text}
use Rattle.stm_history.specs.declared.key_state.ReadAnswer.{ReadAnswer}
use Rattle.stm_outcome.specs.Numbers.{ReadFits}
use Rattle.stm_compile.specs.declared.read_set.TheConstants.{MOST_SEARCHED}
use Rattle.stm_compile.specs.Places.{AreRead}
use Rattle.stm_compile.proofs.AnswerLemmas.{places_copied}
use Rattle.stm_compile.proofs.read_set.ReadSetClone.clone.Goals as goal

pub invariant_of-result : goal.invariant_of-result
invariant_of-result c = (
  subst (λ (l : List ReadAnswer). All ReadFits l) (sym c.in_ok-answers.ensures) c.self.invariant.0,
  subst (λ (l : List ReadAnswer). AreRead MOST_SEARCHED l (get_by_text c.in_ok-places.places)) (sym c.in_ok-answers.ensures)
      (places_copied MOST_SEARCHED c.self.inside.answers.items (get_by_text c.self.inside.places) (get_by_text c.in_ok-places.places) c.self.invariant.1
      c.in_ok-places.ensures),
)

pub returns : goal.returns
returns c = record { cases = c.in_ok-answers.ensures ∙ c.self.view_is }
