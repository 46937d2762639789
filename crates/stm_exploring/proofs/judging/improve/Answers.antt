use Rattle.std.proofs.Common.{sym, ◌∙◌, subst}
use Rattle.stm_serial_search.specs.Replaying.{IsJudged}
use Rattle.stm_exploring.proofs.judging.improve.Goals as goal

pub returns-in-Always-clause-answer : goal.returns-in-Always-clause-answer
returns-in-Always-clause-answer c = λ rule p answer judged. subst (IsJudged rule p) (sym c.replace.ensures.value ∙ c.in-Always.is) judged

pub returns-in-Broken-clause-answer : goal.returns-in-Broken-clause-answer
returns-in-Broken-clause-answer c = λ rule p answer judged. subst (IsJudged rule p) (sym c.replace.ensures.value ∙ c.in-Broken.is) judged
