use Rattle.std.proofs.Common.{ℕ, ◌<◌}
use Rattle.stm_workers.specs.Ends.{BorneOutAt}
use Rattle.stm_workers.proofs.auditing.find_unborne.Given as goal

-- those before are borne out
abbrev pub invariant-loop-place : goal.invariant-loop-place
invariant-loop-place l = (p : ℕ) → p < l.place → BorneOutAt l.begun l.hall l.jobs l.ends p
