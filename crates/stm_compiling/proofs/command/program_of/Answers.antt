use Rattle.std.proofs.Common.{map, option_map, string_bytes}
use Rattle.stm_compiling.specs.Programs.{line_named, start_at, started}
use Rattle.stm_compiling.specs.Wholes.{rules_in}
use Rattle.stm_compiling.proofs.Answering.{when_bad}
use Rattle.stm_compiling.proofs.command.program_of.Goals as goal

pub returns-in-Err : goal.returns-in-Err
returns-in-Err c =
    let source = c.args.source.now in
    let program = c.args.program.now in
    let words = map string_bytes c.args.words.now in
    let longer = started source program words in
    when_bad (option_map (λ n. n.now) c.args.name) source longer (rules_in source) c.in-Err.error
    (λ rules. line_named (start_at source) rules program words longer) c.told.result c.in-Err.ensures c.told.ensures
