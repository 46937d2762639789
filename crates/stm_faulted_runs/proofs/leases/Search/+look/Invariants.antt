use Rattle.stm_faulted_runs.proofs.leases.Search.+look.Given as goal

-- so many levels are left
abbrev pub decreases-look : goal.decreases-look
decreases-look l = l.levels
