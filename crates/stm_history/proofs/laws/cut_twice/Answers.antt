use Rattle.stm_history.proofs.CutLaws as cut
use Rattle.stm_history.proofs.laws.cut_twice.Goals as goal

pub returns-clause-opening : goal.returns-clause-opening
returns-clause-opening c = cut.cut_at_the_opening

pub returns-clause-twice : goal.returns-clause-twice
returns-clause-twice c = cut.cut_twice
