use Rattle.stm_exploring.specs.Beginnings.{place_at}
use Rattle.stm_exploring.specs.Judging.{AreAnswers}
use Rattle.stm_exploring.proofs.judging.search_each.Given as goal

abbrev pub invariant-loop-index : goal.invariant-loop-index
invariant-loop-index g l = AreAnswers l.rules (place_at l.at) l.answers.items
