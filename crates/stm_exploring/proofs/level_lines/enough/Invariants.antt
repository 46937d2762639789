use Rattle.std.proofs.Common.{◌≡◌, drop}
use Rattle.stm_exploring.specs.Levels.{enough}
use Rattle.stm_exploring.proofs.level_lines.enough.Given as goal

-- none so far is it
abbrev pub invariant-loop-i : goal.invariant-loop-i
invariant-loop-i l = enough (drop l.i l.at) ≡ enough l.at
