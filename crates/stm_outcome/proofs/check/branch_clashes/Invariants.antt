use Rattle.std.proofs.Common.{◌≡◌, drop}
use Rattle.stm_outcome.specs.Checks.{has_clash}
use Rattle.stm_outcome.proofs.check.branch_clashes.Given as goal

-- a clash is looked for in the rest
abbrev pub invariant-loop-index : goal.invariant-loop-index
invariant-loop-index l = has_clash (drop l.index l.ops) ≡ has_clash l.ops
