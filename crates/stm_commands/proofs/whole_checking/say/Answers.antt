use Rattle.std.proofs.Common.{ℕ, List, sym, subst}
use Rattle.stm_report.specs.declared.whole_comparing.WholeChecked.{WholeChecked}
use Rattle.stm_commands.specs.WholeChecking.{SaysExpected, SaysOfAnswer}
use Rattle.stm_commands.proofs.whole_checking.say.Goals as goal

pub returns-in-No : goal.returns-in-No
returns-in-No g c =
    let before = g.E.Sink.held c.args.err.now in
    let after = g.E.Sink.held c.say_expected.new.err in
    let failed = g.E.Sink.failed c.say_expected.new.err in
    subst (λ (k : WholeChecked). SaysOfAnswer before after failed k c.say_expected.result) (sym c.in-No.is)
    (subst (λ (line : List ℕ). SaysExpected before after failed line c.say_expected.result) c.as_slice.ensures c.say_expected.ensures)
