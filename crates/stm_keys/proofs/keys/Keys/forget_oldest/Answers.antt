use Rattle.std.proofs.Common.{◌≡◌, ◌+◌, ◌∷◌, [], ◌∙◌, ap, arith, get_or, length, subst, List}
use Rattle.stm_keys.specs.declared.event.Event.{Event}
use Rattle.stm_keys.specs.Events.{AreApart}
use Rattle.stm_keys.specs.Keys.{Contents, without_up_to}
use Rattle.stm_keys.proofs.Apart.{apart_there}
use Rattle.stm_keys.proofs.Dropping.{have_versions, forgotten_fields, forgotten_view}
use Rattle.stm_keys.proofs.Ranges.{summed_without}
use Rattle.stm_keys.proofs.keys.Keys.forget_oldest.Goals as goal

pub forget_events-requires-clause-apart : goal.forget_events-requires-clause-apart
forget_events-requires-clause-apart c =
    let xs : List (List Event) = c.self.inside.revisions.items in
    let long : length xs ≡ length (c.in-Some.events ∷ c.pop_front.new.self.items) = ap (λ (l : List (List Event)). length l) c.in-Some.ensures.items in
    subst AreApart (ap (λ (l : List (List Event)). get_or l 0 []) c.in-Some.ensures.items)
    (apart_there xs 0 c.self.invariant.0.shaped (omega (arith, long)))

pub forget_events-requires-clause-oldest : goal.forget_events-requires-clause-oldest
forget_events-requires-clause-oldest c =
    have_versions c.self.inside.chains c.self.inside.below c.self.inside.revisions.items c.pop_front.new.self.items c.in-Some.events
    c.in-Some.ensures.items c.self.invariant.0

pub invariant_of-self : goal.invariant_of-self
invariant_of-self c =
    let left = forgotten_fields c.self.inside.chains c.forget_events.new.chains c.self.inside.below c.self.inside.opened c.self.inside.floor c.self.inside.present
    c.self.inside.revisions.items c.pop_front.new.self.items c.in-Some.events c.in-Some.ensures.items c.self.invariant.0 c.forget_events.ensures.versions
    c.self.invariant.1 c.forget_events.ensures.present c.self.invariant.2 in (
      left.0,
      left.1,
      left.2,
      summed_without c.self.inside.below c.self.inside.revisions.items c.pop_front.new.self.items c.in-Some.events c.self.inside.runs c.in-Some.ensures.items
          c.self.invariant.3,
    )

pub returns : goal.returns
returns c =
    forgotten_view c.self.inside.chains c.forget_events.new.chains c.self.inside.below c.self.inside.opened c.self.inside.floor c.self.inside.present
    c.self.inside.revisions.items c.pop_front.new.self.items c.in-Some.events c.in-Some.ensures.items c.self.invariant.0 c.forget_events.ensures.versions
    c.self.invariant.1 c.forget_events.ensures.present c.self.invariant.2
    ∙ ap (λ (v : Contents). without_up_to (v.history.opening.number + 1) v) c.self.view_is
