use Rattle.std.proofs.Common.{◌≡◌, ◌+◌, drop}
use Rattle.stm_tokens.specs.Runs.{run}
use Rattle.stm_tokens.proofs.runs.run_length.Given as goal

-- all so far are of the kind
abbrev pub invariant-loop-index : goal.invariant-loop-index
invariant-loop-index l = run l.kind l.bytes ≡ l.index + run l.kind (drop l.index l.bytes)
