use Rattle.std.proofs.Common.{◌≡◌, length, List, None, Some, sym, ap, ◌∙◌, arith, take}
use Rattle.stm_history.specs.declared.key_state.ReadAnswer.{ReadAnswer}
use Rattle.stm_compile.specs.declared.read_set.TheConstants.{MOST_SEARCHED}
use Rattle.stm_compile.specs.Answers.{answer_in}
use Rattle.stm_compile.proofs.AnswerLemmas.{answer_of_both, first_is_answer}
use Rattle.stm_compile.proofs.read_set.ReadSet.get_of_many.Goals as goal

pub split_at-requires : goal.split_at-requires
split_at-requires c =
    omega (arith, c.requires, ap (λ (l : List ReadAnswer). length l) c.self.view_is, ap (λ (l : List ReadAnswer). length l) c.as_slice.ensures.value)

pub returns-in-Some : goal.returns-in-Some
returns-in-Some c =
    let cut : c.split_at.result.0.now ≡ take MOST_SEARCHED c.args.self.now =
    c.split_at.ensures.front ∙ ap (λ (l : List ReadAnswer). take MOST_SEARCHED l) (c.as_slice.ensures.value ∙ c.self.view_is) in
    let found : answer_in c.args.key.now (take MOST_SEARCHED c.args.self.now) ≡ Some c.in-Some.answer.now =
    ap (answer_in c.args.key.now) (sym cut) ∙ sym (first_is_answer c.args.key.now c.split_at.result.0.now) ∙ sym c.in-Some.ensures in
    sym (answer_of_both c.args.key.now MOST_SEARCHED c.args.self.now (Some c.in-Some.answer.now) found)

pub returns-in-None : goal.returns-in-None
returns-in-None c =
    let cut : c.split_at.result.0.now ≡ take MOST_SEARCHED c.args.self.now =
    c.split_at.ensures.front ∙ ap (λ (l : List ReadAnswer). take MOST_SEARCHED l) (c.as_slice.ensures.value ∙ c.self.view_is) in
    let none : answer_in c.args.key.now (take MOST_SEARCHED c.args.self.now) ≡ None =
    ap (answer_in c.args.key.now) (sym cut) ∙ sym (first_is_answer c.args.key.now c.split_at.result.0.now) ∙ sym c.in-None.ensures in
    c.get_indexed.ensures ∙ sym (answer_of_both c.args.key.now MOST_SEARCHED c.args.self.now None none)
