use Rattle.stm_serial_search.specs.Replaying.{AreJudged}
use Rattle.stm_serial_search.proofs.judging.decide_each.Given as goal

abbrev pub invariant-loop-index : goal.invariant-loop-index
invariant-loop-index g l = AreJudged l.rules (record { world = l.world; others = l.others }) l.judged.items
