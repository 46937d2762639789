use Rattle.std.proofs.Common.{map, option_map, string_bytes, Ok}
use Rattle.stm_compiling.specs.Parts.{line_alone}
use Rattle.stm_compiling.specs.Programs.{program_line_in, started, text_read}
use Rattle.stm_compiling.specs.Wholes.{rules_in}
use Rattle.stm_compiling.proofs.Answering.{none}
use Rattle.stm_compiling.proofs.command.printed_program.Goals as goal

pub returns-in-Err : goal.returns-in-Err
returns-in-Err c =
    let source = c.args.source.now in
    let program = c.args.program.now in
    let words = map string_bytes c.args.words.now in
    none (option_map (λ n. n.now) c.args.name) (text_read (rules_in source) source (started source program words)) (program_line_in source program words)
    (λ line. Ok (line_alone line)) c.in-Err.fault c.in-Err.ensures
