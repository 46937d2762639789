use Rattle.stm_explain.proofs.faults.Faults.+look.Given as goal

-- so many levels are left
abbrev pub decreases-look : goal.decreases-look
decreases-look l = l.levels
