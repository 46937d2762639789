use Rattle.std.proofs.Common.{◌∙◌, Ok, Err, sym, ap, subst}
use Rattle.stm_json.specs.declared.read_error.ReadError.{ReadError}
use Rattle.stm_json.specs.Returns.{ReturnsFault}
use Rattle.stm_exploring.specs.Exploring.{asked_in}
use Rattle.stm_exploring.proofs.ReadingLemmas.{scenario_reported}
use Rattle.stm_exploring.proofs.reading.scenario_of.Goals as goal

pub returns-in-Ok-clause-scenario : goal.returns-in-Ok-clause-scenario
returns-in-Ok-clause-scenario g c = (
  c.in_ok-bytes.ensures.bytes.0,
  scenario_reported c.args.level c.in_ok-bytes.bytes.items (g.S.Source.left c.args.source.now) (Ok c.in-Ok.scenario) c.in_ok-bytes.ensures.bytes.1
      (ap (asked_in c.args.level) (sym c.as_slice.ensures.value) ∙ c.in-Ok.ensures.scenario),
)

pub returns-clause-scenario : goal.returns-clause-scenario
returns-clause-scenario g c =
    let reads = asked_in c.args.level in
    let is = subst (λ (e : ReadError). ReturnsFault e (reads c.as_slice.result.now)) c.in-Err-Bad.field-0-is c.in-Err-Bad.ensures.scenario in (
      c.in_ok-bytes.ensures.bytes.0,
      scenario_reported c.args.level c.in_ok-bytes.bytes.items (g.S.Source.left c.args.source.now) (Err c.in-Err-Bad.fault)
          c.in_ok-bytes.ensures.bytes.1 (ap reads (sym c.as_slice.ensures.value) ∙ is),
    )
