use Rattle.std.proofs.Common.{◌∙◌, sym, ap, subst, is_some, [], List}
use Rattle.indexmap.specs.IndexMap.{get_by_text}
use Rattle.stm_keys.specs.declared.event.Event.{Event}
use Rattle.stm_keys.specs.Events.{key_of_event, event_about, AreApart}
use Rattle.stm_keys.specs.Chains.{versions_in, forgotten}
use Rattle.stm_keys.proofs.Steps.{found_first}
use Rattle.stm_keys.proofs.chains.forget_events.Goals as goal

pub forget_event-requires : goal.forget_event-requires
forget_event-requires c =
    c.requires.oldest (key_of_event c.in-One.event)
    (ap (λ (es : List Event). is_some (event_about (key_of_event c.in-One.event) es)) (sym c.in-One.ensures) ∙ found_first c.in-One.event [])

pub returns-in-One-clause-versions : goal.returns-in-One-clause-versions
returns-in-One-clause-versions c = λ k.
    c.forget_event.ensures.versions k
    ∙ ap (λ (es : List Event). forgotten (event_about k es) (versions_in (get_by_text c.args.chains.now k))) c.in-One.ensures

pub forget_each-requires-clause-apart : goal.forget_each-requires-clause-apart
forget_each-requires-clause-apart c = subst AreApart (sym c.in-More.ensures) c.requires.apart

pub forget_each-requires-clause-oldest : goal.forget_each-requires-clause-oldest
forget_each-requires-clause-oldest c = λ k some.
    c.requires.oldest k (ap (λ (es : List Event). is_some (event_about k es)) (sym c.in-More.ensures) ∙ some)

pub returns-in-More-clause-versions : goal.returns-in-More-clause-versions
returns-in-More-clause-versions c = λ k.
    c.forget_each.ensures.versions k
    ∙ ap (λ (es : List Event). forgotten (event_about k es) (versions_in (get_by_text c.args.chains.now k))) c.in-More.ensures
