-- Keys from which nothing is dropped, beside a world.
use Rattle.std.specs.Prelude.{◌≡◌, ◌≤◌, ◌+◌, ℕ, Bool, true, false}
use Rattle.stm_history.specs.History.{History, now, revisions_up_to}
use Rattle.stm_events.specs.declared.event.WorldEvent.{WorldEvent}
use Rattle.stm_events.specs.declared.event.WorldEvent.TheVariants.{Compact}
use Rattle.stm_world.specs.World.{World}
use Rattle.stm_world.specs.Sound.{IsSound}

abbrev pub is_compaction : WorldEvent → Bool
is_compaction (Compact revision) = true
is_compaction other = false

-- the history up to a revision
abbrev pub history_up_to : ℕ → History → History
history_up_to number h = record { opening = h.opening; revisions = revisions_up_to h.opening number h.revisions }

-- keys of this history lack only revisions that the store of a sound world has not dropped
pub record IsBehind (h : History) (w : World) : Type 0 where
  pub sound : IsSound w
  pub reached : now h ≤ now w.standing.history
  pub part : h ≡ history_up_to (now h) w.standing.history
  pub kept : w.standing.floor ≤ now h + 1

-- the whole history of a sound world
pub record IsWhole (h : History) (w : World) : Type 0 where
  pub sound : IsSound w
  pub whole : h ≡ w.standing.history

-- a sound world whose store was never compacted
pub record IsNew (w : World) : Type 0 where
  pub sound : IsSound w
  pub floor : w.standing.floor ≡ 0
