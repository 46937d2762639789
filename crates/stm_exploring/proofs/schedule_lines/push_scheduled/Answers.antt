use Rattle.std.proofs.Common.{ap, ◌∙◌}
use Rattle.serde_json.specs.Written.{has_float}
use Rattle.stm_texts.proofs.NoFloats.{scenario-no_float}
use Rattle.stm_exploring.specs.Asking.{scheduled}
use Rattle.stm_exploring.proofs.schedule_lines.push_scheduled.Goals as goal

pub push_line-requires : goal.push_line-requires
push_line-requires c = ap has_float c.in_ok-line.ensures ∙ scenario-no_float (scheduled c.args.scenario.now c.args.moves.now)
