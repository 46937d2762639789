use Rattle.std.proofs.Common.{ap, ◌∙◌}
use Rattle.serde_json.specs.Written.{has_float}
use Rattle.stm_texts.proofs.NoFloats.{scenario-no_float}
use Rattle.stm_compiling.proofs.line.scenario_line.Goals as goal

pub push_line-requires : goal.push_line-requires
push_line-requires c = ap has_float c.in_ok-value.ensures ∙ scenario-no_float c.args.scenario.now
