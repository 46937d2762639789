use Rattle.std.proofs.Common.{Ok, Err, ap, ◌∙◌}
use Rattle.std.proofs.lemmas.Result.{IfOk-weaker}
use Rattle.serde_json.specs.Written.{has_float}
use Rattle.stm_events.specs.declared.line.ReportLine.TheVariants.{Event}
use Rattle.stm_report_lines.proofs.Shallow.{line_data-no_float}
use Rattle.stm_report_lines.proofs.written_lines.event_json.Goals as goal

pub returns-in-Ok-clause-no_float : goal.returns-in-Ok-clause-no_float
returns-in-Ok-clause-no_float c =
    IfOk-weaker c.reply_json.result _ _ (λ v e. ap has_float e ∙ line_data-no_float (Event c.args.number (Ok c.in-Ok.reply))) c.reply_json.ensures

pub returns-in-Err-clause-no_float : goal.returns-in-Err-clause-no_float
returns-in-Err-clause-no_float c =
    IfOk-weaker c.refused_json.result _ _ (λ v e. ap has_float e ∙ line_data-no_float (Event c.args.number (Err c.in-Err.denied))) c.refused_json.ensures
