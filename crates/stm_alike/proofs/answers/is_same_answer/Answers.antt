use Rattle.stm_alike.proofs.Comparing.{same_answer}
use Rattle.stm_alike.proofs.answers.is_same_answer.Goals as goal

pub returns : goal.returns
returns c = λ is. same_answer c.args.left.now c.args.right.now c.if-left-right.false (c.shows_the_same.ensures is)
