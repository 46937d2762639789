use Rattle.std.proofs.Common.{ℕ, ◌<◌}
use Rattle.stm_workers.proofs.AuditLemmas.{ShownThere}
use Rattle.stm_workers.proofs.auditing.are_shown_at.Given as goal

-- those before are shown
abbrev pub invariant-loop-place : goal.invariant-loop-place
invariant-loop-place l = (p : ℕ) → p < l.place → ShownThere l.hall.standing.history l.revision l.reads p
