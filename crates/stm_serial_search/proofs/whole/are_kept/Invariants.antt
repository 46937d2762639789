use Rattle.stm_serial_search.proofs.KeptRules.{KeptSoFar}
use Rattle.stm_serial_search.proofs.whole.are_kept.Given as goal

-- the rules so far are kept
abbrev pub invariant-loop-rule : goal.invariant-loop-rule
invariant-loop-rule l = KeptSoFar l.rules l.rule-index l.world.standing
