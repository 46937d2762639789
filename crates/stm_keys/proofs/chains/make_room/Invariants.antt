use Rattle.std.proofs.Common.{◌≡◌, ◌<◌, true, List, ℕ, take, is_some}
use Rattle.indexmap.specs.IndexMap.{get_by_text}
use Rattle.stm_keys.specs.Events.{event_about}
use Rattle.stm_keys.specs.Chains.{versions_in, room_in, KeepsPresent, names_of}
use Rattle.stm_keys.proofs.chains.make_room.Given as goal

-- the chains of the events so far have room, and every version is as it was
abbrev pub invariant-loop-event : goal.invariant-loop-event
invariant-loop-event l = record {
  versions : (k : List ℕ) → versions_in (get_by_text l.chains k) ≡ versions_in (get_by_text l.fn.chains k);
  room : (k : List ℕ) → is_some (event_about k (take l.event-index l.events)) ≡ true → 0 < room_in (get_by_text l.chains k);
  present : KeepsPresent (λ k. versions_in (get_by_text l.fn.chains k)) (names_of l.fn.chains) (names_of l.chains);
}
