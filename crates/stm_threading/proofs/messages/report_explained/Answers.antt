use Rattle.std.proofs.Common.{sym, subst}
use Rattle.stm_threading.specs.Threading.{Explains}
use Rattle.stm_threading.proofs.messages.report_explained.Goals as goal

pub returns : goal.returns
returns g c =
    let input = c.args.input.now in (
      c.as_str.result.now,
      subst (Explains input.name.now input.bytes.items c.args.fault.now) (sym c.as_str.ensures.value) c.explanation-more.ensures,
      c.report_with.ensures,
    )
