use Rattle.std.proofs.Common.{◌≡◌, ◌+◌, drop}
use Rattle.stm_leaving.specs.Closed.{first_abort}
use Rattle.stm_leaving.proofs.closing.first_abort.Given as goal

-- none stands before
abbrev pub invariant-loop-place : goal.invariant-loop-place
invariant-loop-place l = l.place + first_abort (drop l.place l.parts) ≡ first_abort l.parts
