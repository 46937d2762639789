use Rattle.std.proofs.Common.{◌∙◌, sym, subst}
use Rattle.stm_machine.proofs.StepLemmas.{starts}
use Rattle.stm_attempt.specs.declared.progress.Progress.{Progress}
use Rattle.stm_attempt.specs.Progress.{HasCome}
use Rattle.stm_attempt.proofs.progress.begin.Goals as goal

pub returns-clause-come : goal.returns-clause-come
returns-clause-come c =
    λ reads come.
    subst (λ (p : Progress). HasCome c.args.program.now reads p) (sym (c.put.ensures ∙ c.in_ok-start.ensures))
    (λ whole agree. starts whole c.args.program.now.statements)
