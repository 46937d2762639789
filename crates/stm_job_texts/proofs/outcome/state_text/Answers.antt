use Rattle.std.proofs.Common.{ap, ◌∙◌}
use Rattle.serde_json.specs.Written.{has_float}
use Rattle.stm_job_texts.proofs.NoFloats.{pairs-no_float}
use Rattle.stm_job_texts.proofs.outcome.state_text.Goals as goal

pub compact-requires : goal.compact-requires
compact-requires c = ap has_float c.in_ok-keys.ensures.data ∙ pairs-no_float c.args.state.now
