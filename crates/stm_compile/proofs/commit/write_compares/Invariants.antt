use Rattle.std.proofs.Common.{◌≡◌, map, take}
use Rattle.stm_compile.specs.CommitTxn.{is_unmodified}
use Rattle.stm_compile.proofs.commit.write_compares.Given as goal

-- a compare for each write so far
abbrev pub invariant-loop-write : goal.invariant-loop-write
invariant-loop-write l = l.compares.items ≡ map (is_unmodified l.first) (take l.write-index l.writes)
