use Rattle.std.proofs.Common.{◌≡◌, ◌<◌, ◌+◌, ◌∙◌, ◌∷◌, ◌++◌, [], refl, sym, ap, subst, is_some, List, ℕ, take}
use Rattle.std.proofs.lemmas.List.{take_more}
use Rattle.indexmap.specs.IndexMap.{get_by_text}
use Rattle.stm_keys.specs.declared.event.Event.{Event}
use Rattle.stm_keys.specs.Events.{event_about}
use Rattle.stm_keys.specs.Chains.{versions_in, room_in, names_of}
use Rattle.stm_keys.proofs.Order.{keeps_same, keeps_more}
use Rattle.stm_keys.proofs.Steps.{room_made}
use Rattle.stm_keys.proofs.chains.make_room.Goals as goal

pub loop-event-preserved : goal.loop-event-preserved
loop-event-preserved c =
    let cs : List Event = c.args.events.now in
    let i : ℕ = c.loop-event.event-index in
    let x : Event = c.event-item.result in
    let more : take (i + 1) cs ≡ take i cs ++ x ∷ [] = take_more cs i x c.loop-event-test.true ∙ ap (λ y. take i cs ++ y ∷ []) (sym c.event-item.is) in
    let room : 0 < room_in (get_by_text c.make_room_of.new.chains c.key.result.now) = c.in_ok-make_room_of.ensures.room in
    record {
      versions = λ k. c.make_room_of.ensures.versions k ∙ c.loop-event.invariant.versions k;
      room = λ k some.
          room_made (take i cs) x (λ l. room_in (get_by_text c.loop-event.chains l)) (λ l. room_in (get_by_text c.make_room_of.new.chains l))
          c.loop-event.invariant.room c.make_room_of.ensures.more
          (subst (λ (l : List ℕ). 0 < room_in (get_by_text c.make_room_of.new.chains l)) c.key.ensures room)
          k (sym (ap (λ (l : List Event). is_some (event_about k l)) more) ∙ some);
      present =
          keeps_more (λ k. versions_in (get_by_text c.args.chains.now k)) (λ k. versions_in (get_by_text c.loop-event.chains k)) (names_of c.args.chains.now)
          (names_of c.loop-event.chains) (names_of c.make_room_of.new.chains) c.loop-event.invariant.versions c.loop-event.invariant.present
          c.make_room_of.ensures.present;
    }

pub loop-event-init : goal.loop-event-init
loop-event-init c = record {
  versions = λ k. refl;
  room = λ k some. absurd (cc);
  present = keeps_same (λ k. versions_in (get_by_text c.args.chains.now k)) (names_of c.args.chains.now) (names_of c.args.chains.now) refl;
}

pub returns-in_err-make_room_of-clause-present : goal.returns-in_err-make_room_of-clause-present
returns-in_err-make_room_of-clause-present c =
    keeps_more (λ k. versions_in (get_by_text c.args.chains.now k)) (λ k. versions_in (get_by_text c.loop-event.chains k)) (names_of c.args.chains.now)
    (names_of c.loop-event.chains) (names_of c.make_room_of.new.chains) c.loop-event.invariant.versions c.loop-event.invariant.present
    c.make_room_of.ensures.present
