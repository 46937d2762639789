-- The events of a revision that are about keys between two.
use Rattle.std.specs.Prelude.{ℕ, Bool, ◌&&◌, List}
use Rattle.std.specs.List.{filter}
use Rattle.std.specs.List.Sorted.{IsSortedByKey}
use Rattle.std.specs.Ordering.{nat_cmp, is_le}
use Rattle.std.specs.Cmp.Lexicographic.{slice_cmp}
use Rattle.stm_keys.specs.declared.event.Event.{Event}
use Rattle.stm_keys.specs.Events.{key_of_event}

-- first ≤ key ≤ last, by bytes
abbrev pub is_within : List ℕ → List ℕ → List ℕ → Bool
is_within first last key = is_le (slice_cmp nat_cmp first key) && is_le (slice_cmp nat_cmp key last)

-- those of these events that are about such a key
abbrev pub those_within : List ℕ → List ℕ → List Event → List Event
those_within first last events = filter (λ e. is_within first last (key_of_event e)) events

-- the keys of these events ascend
abbrev pub Ascend : List Event → Type 0
Ascend events = IsSortedByKey key_of_event (slice_cmp nat_cmp) events
