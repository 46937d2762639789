use Rattle.std.proofs.Common.{◌∙◌, Ok, Err, sym, ap, subst}
use Rattle.stm_json.specs.declared.read_error.ReadError.{ReadError}
use Rattle.stm_json.specs.Returns.{ReturnsFault}
use Rattle.stm_program_texts.specs.Reading.{program_in}
use Rattle.stm_exploring.proofs.ReadingLemmas.{program_reported}
use Rattle.stm_exploring.proofs.reading.program_of.Goals as goal

pub returns-in-Ok-clause-program : goal.returns-in-Ok-clause-program
returns-in-Ok-clause-program g c = (
  c.in_ok-bytes.ensures.bytes.0,
  program_reported c.in_ok-bytes.bytes.items (g.S.Source.left c.args.source.now) (Ok c.in-Ok.program) c.in_ok-bytes.ensures.bytes.1
      (ap program_in (sym c.as_slice.ensures.value) ∙ c.in-Ok.ensures),
)

pub returns-clause-program : goal.returns-clause-program
returns-clause-program g c =
    let is = subst (λ (e : ReadError). ReturnsFault e (program_in c.as_slice.result.now)) c.in-Err-Bad.field-0-is c.in-Err-Bad.ensures in (
      c.in_ok-bytes.ensures.bytes.0,
      program_reported c.in_ok-bytes.bytes.items (g.S.Source.left c.args.source.now) (Err c.in-Err-Bad.fault) c.in_ok-bytes.ensures.bytes.1
          (ap program_in (sym c.as_slice.ensures.value) ∙ is),
    )
