use Rattle.std.proofs.Common.{ap, ◌∙◌}
use Rattle.std.proofs.lemmas.Result.{IfOk-weaker}
use Rattle.serde_json.specs.View.{view}
use Rattle.serde_json.specs.Written.{has_float}
use Rattle.stm_texts.proofs.NoFloats.{event-no_float}
use Rattle.stm_texts.proofs.WrittenSpells.{spells_as}
use Rattle.stm_texts.proofs.written_events.event_json.Goals as goal

pub returns-clause-spells : goal.returns-clause-spells
returns-clause-spells c = IfOk-weaker c.event_value.result _ _ (λ v is d s. spells_as (view v) d c.args.event.now is s) c.event_value.ensures

pub returns-clause-no_float : goal.returns-clause-no_float
returns-clause-no_float c = IfOk-weaker c.event_value.result _ _ (λ v is. ap has_float is ∙ event-no_float c.args.event.now) c.event_value.ensures
