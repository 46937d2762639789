use Rattle.std.proofs.Common.{sym, subst}
use Rattle.stm_exploring.specs.Beginnings.{place_at}
use Rattle.stm_exploring.specs.Judging.{AreAnswers}
use Rattle.stm_exploring.proofs.AnswerLemmas.{are_answers}
use Rattle.stm_exploring.proofs.judging.judge_part.Goals as goal

pub returns : goal.returns
returns g c =
    subst (AreAnswers c.args.rules.now (place_at c.args.at.now)) (sym c.in_ok-answers.ensures)
    (are_answers c.args.rules.now (place_at c.args.at.now) c.in_ok-all.all.items c.in_ok-all.ensures.explored c.in_ok-all.ensures.merges)
