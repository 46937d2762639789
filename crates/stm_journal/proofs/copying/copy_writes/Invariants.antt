use Rattle.std.proofs.Common.{◌≡◌, take}
use Rattle.stm_program.specs.Writes.{latest_writes}
use Rattle.stm_journal.proofs.copying.copy_writes.Given as goal

-- the latest of the writes so far
abbrev pub invariant-loop-place : goal.invariant-loop-place
invariant-loop-place l = l.copy ≡ latest_writes (take l.place l.writes)
