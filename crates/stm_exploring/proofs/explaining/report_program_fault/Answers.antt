use Rattle.std.proofs.Common.{sym, subst}
use Rattle.stm_exploring.specs.Explaining.{KeptInput, Explained, ExplainsProgram}
use Rattle.stm_exploring.proofs.explaining.report_program_fault.Goals as goal

pub returns : goal.returns
returns g c =
    let rule : KeptInput = record { name = c.args.rule.now.name.now; text = c.args.rule.now.bytes.items } in (
      c.as_str.result.now,
      subst (Explained c.args.explain (ExplainsProgram rule c.args.fault.now)) (sym c.as_str.ensures.value) c.program_explanation-more.ensures,
      c.report_with.ensures,
    )
