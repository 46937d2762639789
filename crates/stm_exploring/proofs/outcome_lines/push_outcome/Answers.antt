use Rattle.std.proofs.Common.{ap, ◌∙◌}
use Rattle.serde_json.specs.Written.{has_float}
use Rattle.stm_exploring.proofs.NoFloats.{outcome_line-no_float}
use Rattle.stm_exploring.proofs.outcome_lines.push_outcome.Goals as goal

pub push_line-requires : goal.push_line-requires
push_line-requires c = ap has_float c.in_ok-line.ensures ∙ outcome_line-no_float c.args.outcome.now
