use Rattle.std.proofs.Common.{sym, subst}
use Rattle.stm_exploring.specs.Explaining.{KeptInput, Explained, ExplainsScenario}
use Rattle.stm_exploring.proofs.explaining.report_search_fault.Goals as goal

pub returns : goal.returns
returns g c =
    let scenario : KeptInput = record { name = c.args.scenario.now.name.now; text = c.args.scenario.now.bytes.items } in (
      c.as_str.result.now,
      subst (Explained c.args.explain (ExplainsScenario scenario c.args.fault.now)) (sym c.as_str.ensures.value) c.search_explanation-more.ensures,
      c.report_with.ensures,
    )
