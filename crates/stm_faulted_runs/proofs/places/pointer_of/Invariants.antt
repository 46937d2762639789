use Rattle.std.proofs.Common.{◌≡◌, ◌++◌, drop}
use Rattle.std.specs.Prelude.{string_bytes}
use Rattle.stm_faulted_runs.specs.Places.{pointer}
use Rattle.stm_faulted_runs.proofs.places.pointer_of.Given as goal

-- the pointer so far, and then that of the indices that are left
abbrev pub invariant-loop-step : goal.invariant-loop-step
invariant-loop-step l = string_bytes l.text ++ pointer (drop l.step-index l.steps) ≡ pointer l.steps
