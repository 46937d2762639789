use Rattle.std.proofs.Common.{◌≡◌, drop}
use Rattle.stm_exploring.specs.SerialLevels.{enough_serial}
use Rattle.stm_exploring.proofs.serial_levels.enough_serial.Given as goal

-- none so far is it
abbrev pub invariant-loop-i : goal.invariant-loop-i
invariant-loop-i l = enough_serial (drop l.i l.at) ≡ enough_serial l.at
