use Rattle.std.proofs.Common.{List, subst}
use Rattle.stm_program.specs.Syntax.{ProgramTree}
use Rattle.stm_exploring.specs.Beginnings.{place_at}
use Rattle.stm_exploring.specs.Judging.{AreAnswers}
use Rattle.stm_exploring.proofs.judging.search_again.Goals as goal

pub returns-in-Some : goal.returns-in-Some
returns-in-Some g c = λ before.
    c.in-Some.ensures c.args.rule.now (place_at c.args.at.now)
    (subst (λ (rules : List ProgramTree). AreAnswers rules (place_at c.args.at.now) c.in_ok-answers.answers.items)
    c.from_ref-rules.ensures.value c.in_ok-answers.ensures)
