use Rattle.std.proofs.Common.{◌≡◌, drop}
use Rattle.stm_history.specs.History.{change_of}
use Rattle.stm_history.proofs.change.find_change.Given as goal

-- the change is looked for in the rest
abbrev pub invariant-loop-change : goal.invariant-loop-change
invariant-loop-change l = change_of l.key (drop l.change-index l.changes) ≡ change_of l.key l.changes
