use Rattle.stm_audit.proofs.PrintLemmas.{Gives-from_Answers}
use Rattle.stm_audit.proofs.command.printed_from.Goals as goal

pub returns-in-Ok-clause-given : goal.returns-in-Ok-clause-given
returns-in-Ok-clause-given g c =
    let answers = rw c.as_slice.ensures.value at c.printed_of.ensures in
    Gives-from_Answers (g.S.Source.left c.args.input.now) (g.S.Source.failed c.read_all.new.source)
    c.in-Ok.bytes.items c.printed_of.result c.in-Ok.ensures.bytes.0 c.in-Ok.ensures.bytes.1 answers
