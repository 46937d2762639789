use Rattle.std.proofs.Common.{take}
use Rattle.stm_program.proofs.TableLemmas.{HasLatest}
use Rattle.stm_program.proofs.latest.latest_writes.Given as goal

-- the latest of the writes so far
abbrev pub invariant-loop-write : goal.invariant-loop-write
invariant-loop-write l = HasLatest l.latest.entries (take l.write-index l.writes)
