use Rattle.std.proofs.Common.{sym, subst}
use Rattle.stm_commands.specs.Explaining.{Explained, ScriptExplains}
use Rattle.stm_commands.proofs.explaining.report_script_fault.Goals as goal

pub returns : goal.returns
returns g c =
    let input = c.args.input.now in (
      c.as_str.result.now,
      subst (Explained c.args.explain (ScriptExplains input.name.now input.bytes.items c.args.fault.now)) (sym c.as_str.ensures.value) c.script_explanation-more.ensures,
      c.report_explained.ensures,
    )
