use Rattle.std.proofs.Common.{sym, subst}
use Rattle.stm_exploring.specs.Explaining.{KeptInput, Explained, ExplainsFault}
use Rattle.stm_exploring.proofs.explaining.report_rule_fault.Goals as goal

pub returns : goal.returns
returns g c =
    let scenario : KeptInput = record { name = c.args.scenario.now.name.now; text = c.args.scenario.now.bytes.items } in
    let keeps : KeptInput = record { name = c.args.keeps.now.name.now; text = c.args.keeps.now.bytes.items } in (
      c.as_str.result.now,
      subst (Explained c.args.explain (ExplainsFault scenario keeps c.args.fault.now)) (sym c.as_str.ensures.value) c.rule_explanation-more.ensures,
      c.report_with.ensures,
    )
