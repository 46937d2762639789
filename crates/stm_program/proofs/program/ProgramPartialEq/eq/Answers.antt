use Rattle.stm_program.proofs.SameLemmas.{same_program-is}
use Rattle.stm_program.proofs.program.ProgramPartialEq.eq.Goals as goal

pub returns : goal.returns
returns c = same_program-is c.is_same.result c.args.self.now c.args.other.now c.is_same.ensures
