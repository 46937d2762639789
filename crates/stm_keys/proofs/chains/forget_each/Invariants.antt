use Rattle.std.proofs.Common.{◌≡◌, ◌<◌, true, List, ℕ, length, is_some, vec_len}
use Rattle.indexmap.specs.IndexMap.{get_by_text}
use Rattle.stm_keys.specs.Events.{event_about, AreApart}
use Rattle.stm_keys.specs.Chains.{versions_in, forgotten, DropsAbsent, names_of}
use Rattle.stm_keys.proofs.chains.forget_each.Given as goal

-- the events that are left are the oldest of their keys, and once they are forgotten too all are
abbrev pub invariant-loop-event : goal.invariant-loop-event
invariant-loop-event l = record {
  apart : AreApart l.left.items;
  oldest : (k : List ℕ) → is_some (event_about k l.left.items) ≡ true → 0 < length (versions_in (get_by_text l.chains k)).numbers;
  reported : (k : List ℕ) → forgotten (event_about k l.left.items) (versions_in (get_by_text l.chains k))
      ≡ forgotten (event_about k l.fn.events.items) (versions_in (get_by_text l.fn.chains k));
  present : DropsAbsent (λ k. forgotten (event_about k l.fn.events.items) (versions_in (get_by_text l.fn.chains k))) (names_of l.fn.chains) (names_of l.chains);
}

abbrev pub decreases-loop-event : goal.decreases-loop-event
decreases-loop-event l = vec_len l.left
