use Rattle.std.proofs.Common.{◌≡◌, ◌<◌, List, [], ◌∷◌, ◌++◌, length, None, sym, ap, ◌∙◌, subst, arith, All}
use Rattle.std.proofs.lemmas.List.Elements.{All-push}
use Rattle.indexmap.specs.IndexMap.{get_by_text}
use Rattle.stm_history.specs.declared.key_state.ReadAnswer.{ReadAnswer}
use Rattle.stm_outcome.specs.Numbers.{ReadFits}
use Rattle.stm_compile.specs.Answers.{answer_in}
use Rattle.stm_compile.specs.declared.read_set.TheConstants.{MOST_SEARCHED}
use Rattle.stm_compile.specs.Places.{AreRead}
use Rattle.stm_compile.proofs.AnswerLemmas.{read_searched}
use Rattle.stm_compile.proofs.read_set.ReadSet.add_searched.Goals as goal

-- no answer stands after those that are searched, before and after
pub invariant_of-self-2 : goal.invariant_of-self-2
invariant_of-self-2 c =
    let answers : List ReadAnswer = c.self.inside.answers.items in
    let few : length answers < MOST_SEARCHED = omega (arith, c.requires.place, ap (λ (l : List ReadAnswer). length l) c.self.view_is) in
    let items : c.push.new.self.items ≡ answers ++ c.args.answer ∷ [] =
    c.in_ok-push.ensures.items in
    let new : answer_in c.args.answer.key answers ≡ None = ap (answer_in c.args.answer.key) c.self.view_is ∙ c.requires.new_key in (
      subst (λ l. All ReadFits l) (sym items) (All-push ReadFits answers c.args.answer c.self.invariant.0 c.requires.in_range),
      subst (λ l. AreRead MOST_SEARCHED l (get_by_text c.self.inside.places)) (sym items)
          (read_searched MOST_SEARCHED answers c.args.answer (get_by_text c.self.inside.places) c.self.invariant.1 few new),
    )
