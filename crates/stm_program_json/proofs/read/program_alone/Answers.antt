use Rattle.stm_program_json.proofs.StatementSound.{program_statements}
use Rattle.stm_program_json.proofs.read.program_alone.Goals as goal

pub of-requires : goal.of-requires
of-requires c = (program_statements 0 _ _ c.in_ok-statements.ensures).fits
