use Rattle.std.proofs.Common.{◌≡◌, map, take}
use Rattle.stm_outcome.specs.Effect.{op_of}
use Rattle.stm_compile.proofs.commit.operations.Given as goal

-- an operation for each write so far
abbrev pub invariant-loop-write : goal.invariant-loop-write
invariant-loop-write l = l.ops.items ≡ map op_of (take l.write-index l.writes)
