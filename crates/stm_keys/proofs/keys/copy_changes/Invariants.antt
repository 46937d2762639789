use Rattle.std.proofs.Common.{◌≡◌, take}
use Rattle.stm_keys.proofs.keys.copy_changes.Given as goal

-- the changes so far
abbrev pub invariant-loop-change : goal.invariant-loop-change
invariant-loop-change l = l.copy.items ≡ take l.change-index l.changes
