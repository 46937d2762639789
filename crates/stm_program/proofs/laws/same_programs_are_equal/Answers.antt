use Rattle.stm_program.specs.SameProgramLaws.{same_program-equal}
use Rattle.stm_program.proofs.laws.same_programs_are_equal.Goals as goal

pub returns : goal.returns
returns c = same_program-equal
