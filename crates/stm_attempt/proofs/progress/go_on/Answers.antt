use Rattle.std.proofs.Common.{◌∙◌, sym, subst}
use Rattle.stm_attempt.specs.declared.progress.Progress.{Progress}
use Rattle.stm_attempt.specs.Progress.{HasCome}
use Rattle.stm_attempt.proofs.ProgressLemmas.{end_is}
use Rattle.stm_attempt.proofs.progress.go_on.Goals as goal

pub report_end-requires-clause-ended : goal.report_end-requires-clause-ended
report_end-requires-clause-ended c = c.in_ok-wanted.ensures.ended c.in-None.is

pub returns-in_err-next-in-None-clause-come : goal.returns-in_err-next-in-None-clause-come
returns-in_err-next-in-None-clause-come c =
    subst (λ (p : Progress). HasCome c.args.program.now c.come_on.new.reads p) (sym c.in_err-next-in-None.ensures.err) c.come_on.ensures.come

pub returns-in_ok-next-in-None-clause-next : goal.returns-in_ok-next-in-None-clause-next
returns-in_ok-next-in-None-clause-next c =
    end_is c.args.program.now c.args.level c.come_on.new.reads c.come_on.new.progress c.in_ok-next-in-None.next
    (c.in_ok-wanted.ensures.ended c.in-None.is) c.come_on.ensures.come c.in_ok-next-in-None.ensures.next
    ∙ sym (c.in_ok-wanted.ensures.at_end c.in-None.is)
