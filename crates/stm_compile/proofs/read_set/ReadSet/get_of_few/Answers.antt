use Rattle.std.proofs.Common.{◌∙◌, List, ap}
use Rattle.stm_history.specs.declared.key_state.ReadAnswer.{ReadAnswer}
use Rattle.stm_compile.specs.Answers.{answer_in}
use Rattle.stm_compile.proofs.AnswerLemmas.{first_is_answer}
use Rattle.stm_compile.proofs.read_set.ReadSet.get_of_few.Goals as goal

pub returns : goal.returns
returns c =
    c.find_answer.ensures ∙ first_is_answer c.args.key.now c.as_slice.result.now
    ∙ ap (λ (l : List ReadAnswer). answer_in c.args.key.now l) (c.as_slice.ensures.value ∙ c.self.view_is)
