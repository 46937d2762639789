use Rattle.std.proofs.Common.{◌≡◌, ◌<◌, ◌≤◌, true, List, ℕ, Bool, length, drop, is_some}
use Rattle.indexmap.specs.IndexMap.{get_by_text}
use Rattle.stm_keys.specs.Events.{event_about, AreApart}
use Rattle.stm_keys.specs.Chains.{versions_in, room_in, with_version, StandFirst, is_left, names_of}
use Rattle.stm_keys.proofs.chains.add_versions.Given as goal

-- the rest of the events has room, and adds what is left to add
abbrev pub invariant-loop-event : goal.invariant-loop-event
invariant-loop-event l = record {
  room : (k : List ℕ) → is_some (event_about k (drop l.event-index l.events)) ≡ true → 0 < room_in (get_by_text l.chains k);
  apart : AreApart (drop l.event-index l.events);
  bound : l.present ≤ length l.chains.entries;
  reported : (k : List ℕ) → with_version (is_some (event_about k (drop l.event-index l.events))) l.number (versions_in (get_by_text l.chains k)) ≡ with_version
      (is_some (event_about k l.events)) l.number (versions_in (get_by_text l.fn.chains k));
  first : (is_present : List ℕ → Bool) → StandFirst is_present l.fn.present (names_of l.fn.chains) →
      (now : List ℕ → Bool) × StandFirst now l.present (names_of l.chains)
      × ((k : List ℕ) → is_left (event_about k (drop l.event-index l.events)) (now k) ≡ is_left (event_about k l.events) (is_present k));
}
