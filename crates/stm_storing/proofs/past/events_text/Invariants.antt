use Rattle.std.proofs.Common.{◌≡◌, ◌≤◌, ◌+◌, ◌-◌, string_bytes}
use Rattle.std.specs.List.{flat_map, range_with_len}
use Rattle.stm_history.specs.History.{now}
use Rattle.stm_storing.specs.Past.{revision_text}
use Rattle.stm_storing.proofs.past.events_text.Given as goal

-- the lines of the revisions so far, of which there are no more than there are
abbrev pub invariant-loop-revision : goal.invariant-loop-revision
invariant-loop-revision l =
    (l.from ≤ l.revision) × (l.revision - l.from ≤ (now l.keys.history + 1) - l.from)
    × (string_bytes l.text ≡ flat_map (revision_text l.wanted l.keys.history) (range_with_len l.from (l.revision - l.from)))
