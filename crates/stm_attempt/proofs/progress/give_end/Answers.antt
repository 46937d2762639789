use Rattle.std.proofs.Common.{sym, ◌∙◌, ◌≡◌}
use Rattle.stm_steps.specs.declared.run.End.TheVariants.{Done, Aborted, Faulted}
use Rattle.stm_attempt.proofs.ProgressLemmas.{left_untold}
use Rattle.stm_attempt.proofs.progress.give_end.Goals as goal

pub returns-in-Aborted-clause-left : goal.returns-in-Aborted-clause-left
returns-in-Aborted-clause-left c =
    left_untold c.args.program.now c.args.level c.args.reads.now c.in-Ended.run' c.args.kept.now c.args.progress.now c.report_end.new.progress c.report_end.result
    c.in-Ended.is
    (λ done.
    let both : Aborted c.in-Aborted.field-0 ≡ Done = sym c.in-Aborted.is ∙ done in
    absurd (cc both))
    c.report_end.ensures.next c.report_end.ensures.left

pub returns-in-Faulted-clause-left : goal.returns-in-Faulted-clause-left
returns-in-Faulted-clause-left c =
    left_untold c.args.program.now c.args.level c.args.reads.now c.in-Ended.run' c.args.kept.now c.args.progress.now c.report_end-in-Faulted.new.progress c.report_end-in-Faulted.result
    c.in-Ended.is
    (λ done.
    let both : Faulted c.in-Faulted.field-0 ≡ Done = sym c.in-Faulted.is ∙ done in
    absurd (cc both))
    c.report_end-in-Faulted.ensures.next c.report_end-in-Faulted.ensures.left
