use Rattle.std.proofs.Common.{◌∙◌}
use Rattle.std.proofs.lemmas.Result.{IfOk-weaker}
use Rattle.stm_report.specs.Report.{report_of}
use Rattle.stm_report.proofs.LineLoops.{array_text}
use Rattle.stm_report.proofs.report_text.report.Goals as goal

pub returns : goal.returns
returns c =
    IfOk-weaker c.written.result _ _ (λ text is. is ∙ array_text (report_of c.args.world.now c.args.replies.now).lines) c.written.ensures
