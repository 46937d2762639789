use Rattle.std.proofs.Common.{◌≡◌, take}
use Rattle.stm_program.specs.Writes.{latest_writes}
use Rattle.stm_compile.proofs.write_buffer.search_latest.Given as goal

-- the latest of the writes so far
abbrev pub invariant-loop-write : goal.invariant-loop-write
invariant-loop-write l = l.buffer ≡ latest_writes (take l.write-index l.writes)
