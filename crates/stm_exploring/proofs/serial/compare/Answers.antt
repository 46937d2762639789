use Rattle.std.proofs.lemmas.Result.{IfOk-weaker}
use Rattle.stm_exploring.proofs.serial.compare.Goals as goal

pub returns : goal.returns
returns g c = IfOk-weaker c.print.result _ _ (λ p is. (c.in_ok-answer.answer, c.in_ok-answer.ensures, is)) c.print.ensures
