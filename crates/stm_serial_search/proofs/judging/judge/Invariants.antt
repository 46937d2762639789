use Rattle.stm_serial_search.specs.Replaying.{AreJudged}
use Rattle.stm_serial_search.proofs.judging.judge.Given as goal

abbrev pub invariant-loop-walk : goal.invariant-loop-walk
invariant-loop-walk g l = AreJudged l.rules (record { world = l.world; others = l.others }) l.judged.items
