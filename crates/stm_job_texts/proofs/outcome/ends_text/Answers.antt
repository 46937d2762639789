use Rattle.std.proofs.Common.{ap, ◌∙◌}
use Rattle.serde_json.specs.Written.{has_float}
use Rattle.stm_job_texts.proofs.NoFloats.{ends-no_float}
use Rattle.stm_job_texts.proofs.outcome.ends_text.Goals as goal

pub compact-requires : goal.compact-requires
compact-requires c = ap has_float c.in_ok-reported.ensures ∙ ends-no_float c.args.entries.now c.args.ends.now
