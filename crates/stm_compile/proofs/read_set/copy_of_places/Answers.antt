use Rattle.stm_compile.proofs.AnswerLemmas.{copy_finds}
use Rattle.stm_compile.proofs.read_set.copy_of_places.Goals as goal

pub returns : goal.returns
returns c = λ key. copy_finds c.args.places.now.entries c.in_ok-copy.copy.entries key c.in_ok-copy.ensures.cases
