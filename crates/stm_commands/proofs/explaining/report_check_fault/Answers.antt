use Rattle.std.proofs.Common.{sym, subst}
use Rattle.stm_commands.specs.Explaining.{Explained, Inputs, CheckExplains}
use Rattle.stm_commands.proofs.explaining.report_check_fault.Goals as goal

pub returns : goal.returns
returns g c =
    let inputs : Inputs = record {
      scenario_name = c.args.scenario.now.name.now;
      scenario_text = c.args.scenario.now.bytes.items;
      report_name = c.args.report.now.name.now;
      report_text = c.args.report.now.bytes.items;
    } in (
      c.as_str.result.now,
      subst (Explained c.args.explain (CheckExplains inputs c.args.fault.now)) (sym c.as_str.ensures.value) c.check_explanation-more.ensures,
      c.report_explained.ensures,
    )
