use Rattle.std.proofs.Common.{ap, ◌∙◌}
use Rattle.serde_json.specs.Written.{has_float}
use Rattle.stm_exploring.proofs.NoFloats.{serial_level_line-no_float}
use Rattle.stm_exploring.proofs.serial_levels.push_serial_level.Goals as goal

pub push_line-requires : goal.push_line-requires
push_line-requires c = ap has_float c.in_ok-line.ensures ∙ serial_level_line-no_float c.args.a.now
