use Rattle.std.proofs.Common.{◌≡◌, ◌++◌, drop}
use Rattle.stm_explore.specs.Asked.{outputs_from}
use Rattle.stm_explore.proofs.asking.push_outputs.Given as goal

-- the outputs so far, and those that are left
abbrev pub invariant-loop-place : goal.invariant-loop-place
invariant-loop-place l =
    l.laid.items ++ outputs_from l.fn.number l.place (drop l.place l.outputs) ≡ l.fn.laid.items ++ outputs_from l.fn.number 0 l.outputs
