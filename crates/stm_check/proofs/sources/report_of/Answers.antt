use Rattle.std.proofs.Common.{◌∙◌, Ok, Err, sym, ap, subst}
use Rattle.stm_json.specs.declared.read_error.ReadError.{ReadError}
use Rattle.stm_json.specs.Returns.{ReturnsFault}
use Rattle.stm_report_lines.specs.Reading.{report_in}
use Rattle.stm_check.proofs.SourceLemmas.{report_reported}
use Rattle.stm_check.proofs.sources.report_of.Goals as goal

pub returns-in-Ok-clause-report : goal.returns-in-Ok-clause-report
returns-in-Ok-clause-report g c = (
  c.in_ok-bytes.ensures.bytes.0,
  report_reported c.in_ok-bytes.bytes.items (g.S.Source.left c.args.source.now) (Ok c.in-Ok.report) c.in_ok-bytes.ensures.bytes.1
      (ap report_in (sym c.as_slice.ensures.value) ∙ c.in-Ok.ensures.exact),
)

pub returns-clause-report : goal.returns-clause-report
returns-clause-report g c =
    let is = subst (λ (e : ReadError). ReturnsFault e (report_in c.as_slice.result.now)) c.in-Err-Bad.field-0-is c.in-Err-Bad.ensures.exact in (
      c.in_ok-bytes.ensures.bytes.0,
      report_reported c.in_ok-bytes.bytes.items (g.S.Source.left c.args.source.now) (Err c.in-Err-Bad.fault) c.in_ok-bytes.ensures.bytes.1
          (ap report_in (sym c.as_slice.ensures.value) ∙ is),
    )
