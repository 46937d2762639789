use Rattle.std.proofs.Common.{rules, not}
use Rattle.std.proofs.lemmas.Fn.{filter_same}
use Rattle.stm_events.specs.declared.event.WorldEvent.{WorldEvent}
use Rattle.stm_serial_search.specs.Started.{is_step}
use Rattle.stm_exploring.proofs.asking.without_steps.Goals as goal

-- the closure keeps what is no step
pub returns : goal.returns
returns c = filter_same _ (λ (e : WorldEvent). not (is_step e)) _ (λ x b f called. search rules) _ _ c.retain.ensures.filtered
