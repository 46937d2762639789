use Rattle.std.proofs.Common.{option_map}
use Rattle.stm_compiling.specs.Parts.{printed_by, text_by}
use Rattle.stm_compiling.proofs.Fronts.{printed_by-long}
use Rattle.stm_compiling.proofs.Inputs.{Gives-from_Answers, Gives-from_unread}
use Rattle.stm_compiling.proofs.command.printed_from.Goals as goal

pub returns-in-Ok-clause-given : goal.returns-in-Ok-clause-given
returns-in-Ok-clause-given g c =
    let answers = rw c.as_slice.ensures.value at c.printed_of.ensures in
    Gives-from_Answers (printed_by c.args.part) (text_by c.args.part) (printed_by-long c.args.part) (option_map (λ n. n.now) c.args.name) (g.S.Source.left c.args.input.now)
    (g.S.Source.failed c.bytes_from.new.input) c.in-Ok.source.items c.printed_of.result c.in-Ok.ensures.has.0 c.in-Ok.ensures.has.1 answers

pub returns-in-Err-clause-given : goal.returns-in-Err-clause-given
returns-in-Err-clause-given g c =
    Gives-from_unread (printed_by c.args.part) (text_by c.args.part) (printed_by-long c.args.part) (option_map (λ n. n.now) c.args.name) (g.S.Source.left c.args.input.now)
    (g.S.Source.failed c.bytes_from.new.input) c.in-Err.fault c.in-Err.ensures.has
