use Rattle.std.proofs.Common.{map, rules}
use Rattle.std.specs.Prelude.{string_bytes}
use Rattle.stm_program.specs.BlockView.{block_of}
use Rattle.stm_program.specs.Limits.{BlockFits}
use Rattle.stm_program.specs.declared.limits.TheConstants.{MAX_DEPTH, MAX_NODES}
use Rattle.stm_program.proofs.ListLemmas.{fits_behind}
use Rattle.stm_source.proofs.programs.program_in_room.Goals as goal

pub with_list-requires : goal.with_list-requires
with_list-requires c =
    fits_behind (map string_bytes c.args.keys.items) (BlockFits MAX_DEPTH MAX_NODES (block_of c.args.statements.items)) (search rules) (search rules)
