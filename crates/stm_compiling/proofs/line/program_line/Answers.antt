use Rattle.std.proofs.Common.{◌∙◌, ap}
use Rattle.serde_json.specs.Written.{has_float}
use Rattle.stm_program_json.proofs.NoFloats.{program-no_float}
use Rattle.stm_compiling.proofs.line.program_line.Goals as goal

pub push_line-requires : goal.push_line-requires
push_line-requires c = ap has_float c.in_ok-value.ensures.exact ∙ program-no_float c.args.program.now
