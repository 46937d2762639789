use Rattle.std.proofs.Common.{◌≡◌, ◌<◌, ◌∷◌, ◌++◌, [], ◌∙◌, sym, ap, subst, refl, arith, is_some, length, true, List, ℕ}
use Rattle.std.proofs.lemmas.List.{nil_from_length}
use Rattle.indexmap.specs.IndexMap.{get_by_text}
use Rattle.stm_keys.specs.declared.event.Event.{Event}
use Rattle.stm_keys.specs.Events.{key_of_event, event_about, AreApart}
use Rattle.stm_keys.specs.Chains.{Versions, versions_in, forgotten, names_of}
use Rattle.stm_keys.proofs.Forgetting.{front_apart, last_some, reported_on, oldest_on, gone_on, drops_none, drops_same, drops_then}
use Rattle.stm_keys.proofs.chains.forget_each.Goals as goal

pub loop-event-init : goal.loop-event-init
loop-event-init c = record {
  apart = c.requires.apart;
  oldest = c.requires.oldest;
  reported = λ k. refl;
  present =
      drops_none (λ k. forgotten (event_about k c.args.events.items) (versions_in (get_by_text c.args.chains.now k))) (names_of c.args.chains.now)
      (names_of c.args.chains.now) refl;
}

pub forget_event-requires : goal.forget_event-requires
forget_event-requires c =
    let e : Event = c.in-Some.event in
    let es : List Event = c.pop.new.self.items in
    c.loop-event.invariant.oldest (key_of_event e)
    (ap (λ (l : List Event). is_some (event_about (key_of_event e) l)) c.in-Some.ensures.items
    ∙ last_some es e (subst AreApart c.in-Some.ensures.items c.loop-event.invariant.apart))

pub loop-event-preserved : goal.loop-event-preserved
loop-event-preserved c =
    let e : Event = c.in-Some.event in
    let es : List Event = c.pop.new.self.items in
    let between : List ℕ → Versions = λ k. versions_in (get_by_text c.loop-event.chains k) in
    let new : List ℕ → Versions = λ k. versions_in (get_by_text c.forget_event.new.chains k) in
    let at_last : List ℕ → Versions = λ k. forgotten (event_about k c.args.events.items) (versions_in (get_by_text c.args.chains.now k)) in
    let apart = front_apart es e (subst AreApart c.in-Some.ensures.items c.loop-event.invariant.apart) in
    let reported : (k : List ℕ) → forgotten (event_about k (es ++ e ∷ [])) (between k) ≡ at_last k =
    λ k. ap (λ (l : List Event). forgotten (event_about k l) (between k)) (sym c.in-Some.ensures.items) ∙ c.loop-event.invariant.reported k in
    let oldest : (k : List ℕ) → is_some (event_about k (es ++ e ∷ [])) ≡ true → 0 < length (between k).numbers =
    λ k some. c.loop-event.invariant.oldest k (ap (λ (l : List Event). is_some (event_about k l)) c.in-Some.ensures.items ∙ some) in
    record {
      apart = apart.0;
      oldest = oldest_on es e between new at_last apart.1 reported c.forget_event.ensures.versions oldest;
      reported = reported_on es e between new at_last apart.1 reported c.forget_event.ensures.versions oldest;
      present =
          drops_then new at_last (names_of c.args.chains.now) (names_of c.loop-event.chains) (names_of c.forget_event.new.chains)
          (gone_on es e between new at_last apart.1 reported c.forget_event.ensures.versions oldest) c.loop-event.invariant.present
          c.forget_event.ensures.present;
    }

pub returns-clause-present : goal.returns-clause-present
returns-clause-present c =
    let nil : c.loop-event.left.items ≡ [] =
    nil_from_length c.loop-event.left.items (omega (arith, c.in_default.ensures.cases, c.loop-event.left.ok.0)) in
    drops_same (λ k. forgotten (event_about k c.args.events.items) (versions_in (get_by_text c.args.chains.now k)))
    (λ k. versions_in (get_by_text c.loop-event.chains k)) (names_of c.args.chains.now) (names_of c.loop-event.chains)
    (λ k. ap (λ (l : List Event). forgotten (event_about k l) (versions_in (get_by_text c.loop-event.chains k))) (sym nil) ∙ c.loop-event.invariant.reported k)
    c.loop-event.invariant.present
