use Rattle.std.proofs.Common.{◌≡◌, ◌++◌, map, take, string_bytes}
use Rattle.std.specs.List.{concat}
use Rattle.stm_exploring.specs.SerialLevels.{serial_level_text}
use Rattle.stm_exploring.proofs.serial_levels.push_serial_levels.Given as goal

-- the lines so far
abbrev pub invariant-loop-a : goal.invariant-loop-a
invariant-loop-a l = string_bytes l.text ≡ string_bytes l.fn.text ++ concat (map serial_level_text (take l.a-index l.at))
