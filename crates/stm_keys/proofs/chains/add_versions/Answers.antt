use Rattle.std.proofs.Common.{◌≡◌, ◌+◌, ◌∙◌, ◌∷◌, [], refl, sym, ap, subst, cond, is_some, List, ℕ, drop}
use Rattle.std.specs.Prelude.{bytes_eq}
use Rattle.std.proofs.lemmas.List.{drop_more, drop_all}
use Rattle.indexmap.specs.IndexMap.{get_by_text}
use Rattle.stm_keys.specs.declared.event.Event.{Event}
use Rattle.stm_keys.specs.Events.{key_of_event, event_about, is_put, AreApart}
use Rattle.stm_keys.specs.Chains.{versions_in, room_in, with_version, is_left, names_of}
use Rattle.stm_keys.proofs.Order.{left_after, same_presence}
use Rattle.stm_keys.proofs.Steps.{found_first, room_left, versions_left}
use Rattle.stm_keys.proofs.chains.add_versions.Goals as goal

pub add_version-requires-clause-room : goal.add_version-requires-clause-room
add_version-requires-clause-room c =
    let cs : List Event = c.args.events.now in
    let i : ℕ = c.loop-event.event-index in
    let x : Event = c.event-item.result in
    let rest : drop i cs ≡ x ∷ drop (i + 1) cs =
    drop_more cs i x c.loop-event-test.true ∙ ap (λ y. y ∷ drop (i + 1) cs) (sym c.event-item.is) in
    c.loop-event.invariant.room (key_of_event x) (ap (λ (l : List Event). is_some (event_about (key_of_event x) l)) rest ∙ found_first x (drop (i + 1) cs))

pub loop-event-preserved : goal.loop-event-preserved
loop-event-preserved c =
    let cs : List Event = c.args.events.now in
    let i : ℕ = c.loop-event.event-index in
    let x : Event = c.event-item.result in
    let left : List Event = drop (i + 1) cs in
    let rest : drop i cs ≡ x ∷ left = drop_more cs i x c.loop-event-test.true ∙ ap (λ y. y ∷ left) (sym c.event-item.is) in
    let apart : AreApart (x ∷ left) = subst AreApart rest c.loop-event.invariant.apart in
    record {
      room =
          room_left x left (λ l. room_in (get_by_text c.loop-event.chains l)) (λ l. room_in (get_by_text c.add_version.new.chains l)) apart.0
          (λ k some. c.loop-event.invariant.room k (ap (λ (l : List Event). is_some (event_about k l)) rest ∙ some))
          c.add_version.ensures.room;
      apart = apart.1;
      reported =
          versions_left x left c.args.number (λ l. versions_in (get_by_text c.loop-event.chains l)) (λ l. versions_in (get_by_text c.add_version.new.chains l))
          (λ k. with_version (is_some (event_about k cs)) c.args.number (versions_in (get_by_text c.args.chains.now k))) apart.0
          (λ k. sym (ap (λ (l : List Event). with_version (is_some (event_about k l)) c.args.number (versions_in (get_by_text c.loop-event.chains k))) rest)
          ∙ c.loop-event.invariant.reported k)
          c.add_version.ensures.versions;
      bound = c.add_version.ensures.bound;
      first = λ is_present first.
          let so_far = c.loop-event.invariant.first is_present first in (
            (λ k. cond (bytes_eq (key_of_event x) k) (is_put x) (so_far.0 k)),
            c.add_version.ensures.first so_far.0 so_far.1,
            left_after x left so_far.0 (λ k. is_left (event_about k cs) (is_present k)) apart.0
                (λ k. sym (ap (λ (l : List Event). is_left (event_about k l) (so_far.0 k)) rest) ∙ so_far.2 k),
          );
    }

pub returns-clause-first : goal.returns-clause-first
returns-clause-first c = λ is_present first.
    let so_far = c.loop-event.invariant.first is_present first in
    let done : drop c.loop-event.event-index c.args.events.now ≡ [] =
    drop_all c.loop-event.event-index c.args.events.now c.loop-event-test.false in
    same_presence so_far.0 (λ k. is_left (event_about k c.args.events.now) (is_present k)) c.loop-event.present (names_of c.loop-event.chains)
    (λ k. sym (so_far.2 k) ∙ ap (λ (l : List Event). is_left (event_about k l) (so_far.0 k)) done) so_far.1

pub loop-event-init : goal.loop-event-init
loop-event-init c = record {
  room = c.requires.room;
  apart = c.requires.apart;
  bound = c.requires.bound;
  reported = λ k. refl;
  first = λ is_present first. (is_present, first, λ k. refl);
}
