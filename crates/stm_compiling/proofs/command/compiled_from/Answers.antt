use Rattle.std.proofs.Common.{option_map}
use Rattle.stm_compiling.specs.Wholes.{compiled_in}
use Rattle.stm_compiling.proofs.Fronts.{compiled_in-long}
use Rattle.stm_compiling.proofs.Inputs.{Gives-from_Answers, Gives-from_unread}
use Rattle.stm_compiling.proofs.command.compiled_from.Goals as goal

pub returns-in-Ok-clause-given : goal.returns-in-Ok-clause-given
returns-in-Ok-clause-given g c =
    let answers = rw c.as_slice.ensures.value at c.compiled_of.ensures in
    Gives-from_Answers compiled_in (λ source. source) compiled_in-long (option_map (λ n. n.now) c.args.name) (g.S.Source.left c.args.input.now)
    (g.S.Source.failed c.bytes_from.new.input) c.in-Ok.source.items c.compiled_of.result c.in-Ok.ensures.has.0 c.in-Ok.ensures.has.1 answers

pub returns-in-Err-clause-given : goal.returns-in-Err-clause-given
returns-in-Err-clause-given g c =
    Gives-from_unread compiled_in (λ source. source) compiled_in-long (option_map (λ n. n.now) c.args.name) (g.S.Source.left c.args.input.now)
    (g.S.Source.failed c.bytes_from.new.input) c.in-Err.fault c.in-Err.ensures.has
