use Rattle.std.proofs.Common.{option_map, Ok}
use Rattle.stm_compiling.specs.Parts.{scenario_alone}
use Rattle.stm_compiling.specs.Wholes.{compiled_in}
use Rattle.stm_compiling.proofs.Answering.{alone, none}
use Rattle.stm_compiling.proofs.command.printed_scenario.Goals as goal

pub returns-in-Ok : goal.returns-in-Ok
returns-in-Ok c =
    alone (option_map (λ n. n.now) c.args.name) c.args.source.now (compiled_in c.args.source.now) c.in-Ok.compiled c.printed_alone.result c.in-Ok.ensures
    c.printed_alone.ensures

pub returns-in-Err : goal.returns-in-Err
returns-in-Err c =
    none (option_map (λ n. n.now) c.args.name) c.args.source.now (compiled_in c.args.source.now) (λ x. Ok (scenario_alone x)) c.in-Err.fault c.in-Err.ensures
