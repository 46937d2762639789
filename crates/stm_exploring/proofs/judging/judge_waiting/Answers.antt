use Rattle.std.proofs.Common.{List, sym, subst}
use Rattle.stm_exploring.specs.declared.judging.Answer.{Answer}
use Rattle.stm_exploring.specs.declared.judging.Searched.{Searched}
use Rattle.stm_exploring.specs.Beginnings.{place_at}
use Rattle.stm_exploring.specs.Judging.{AreFoundPatiently}
use Rattle.stm_exploring.proofs.AnswerLemmas.{are_patient}
use Rattle.stm_exploring.proofs.judging.judge_waiting.Goals as goal

pub returns : goal.returns
returns g c =
    let at : Searched = c.args.at.now in
    subst (λ (answers : List Answer). AreFoundPatiently at.waits.now c.args.when c.args.rules.now (place_at at) at.ends.now answers) (sym c.in_ok-answers.ensures)
    (are_patient at.waits.now c.args.when c.args.rules.now (place_at at) at.ends.now c.in_ok-all.all.items c.in_ok-all.ensures.explored)
