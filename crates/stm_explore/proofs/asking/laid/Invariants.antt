use Rattle.std.proofs.Common.{◌≡◌, ◌++◌, suc, drop}
use Rattle.stm_explore.specs.Asked.{laid, laid_from}
use Rattle.stm_explore.proofs.asking.laid.Given as goal

-- the keys so far, and those of the runners that are left
abbrev pub invariant-loop-index : goal.invariant-loop-index
invariant-loop-index l = l.keys.items ++ laid_from (suc l.index) (drop l.index l.ends) ≡ laid l.ends
