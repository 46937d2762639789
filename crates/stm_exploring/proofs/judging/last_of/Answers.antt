use Rattle.stm_exploring.proofs.AnswerLemmas.{last_is}
use Rattle.stm_exploring.proofs.judging.last_of.Goals as goal

pub returns : goal.returns
returns c = last_is c.args.answers.items c.pop.new.self.items c.pop.result c.pop.ensures.items
