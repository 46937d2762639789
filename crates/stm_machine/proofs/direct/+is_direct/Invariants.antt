use Rattle.stm_machine.proofs.direct.+is_direct.Given as goal

abbrev pub decreases-is_direct : goal.decreases-is_direct
decreases-is_direct l = l.depth
