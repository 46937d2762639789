use Rattle.std.proofs.Common.{◌≡◌, List, ℕ, IsUtf8, sym, ap, subst, string_bytes}
use Rattle.std.proofs.lemmas.Str.{IsUtf8-string_bytes}
use Rattle.stm_report.specs.declared.format.Format.{Format}
use Rattle.stm_report.specs.FormatScript.{IsTextOver}
use Rattle.stm_report.specs.Report.{IsReport}
use Rattle.stm_report.proofs.format_script.render_over.Goals as goal

pub returns-in_ok-report-in-Lines : goal.returns-in_ok-report-in-Lines
returns-in_ok-report-in-Lines c =
    let bytes : c.into_bytes.result.items ≡ string_bytes c.in_ok-report-in-Lines.field-0 = ap (λ v. v.items) c.into_bytes.ensures.value in
    subst (λ (format : Format). IsTextOver c.args.keys.now.history c.args.since format c.args.labels.now c.args.world.now c.args.events.now c.args.replies.now c.into_bytes.result.items) (sym c.in-Lines.is)
    (subst (λ (text : List ℕ). IsReport c.args.world.now c.args.replies.now text × IsUtf8 text) (sym bytes)
    (c.in_ok-report-in-Lines.ensures, IsUtf8-string_bytes c.in_ok-report-in-Lines.field-0))
