-- Lists of events in which runners' steps stand among the others' events, and the schedules that they are.
use Rattle.std.specs.Prelude.{◌≡◌, ◌⊎◌, ◌≤◌, ℕ, Bool, true, List, [], ◌∷◌, length, None}
use Rattle.stm_events.specs.declared.event.WorldEvent.{WorldEvent}
use Rattle.stm_events.specs.declared.event.WorldEvent.TheVariants.{Step}
use Rattle.stm_world.specs.World.{World, runner_at, step, world_after}
use Rattle.stm_schedules.specs.declared.moves.Move.{Move}
use Rattle.stm_schedules.specs.Places.{Place}
use Rattle.stm_schedules.specs.Schedules.{place_after, IsSchedule, events_along}
use Rattle.stm_schedules.specs.Keeping.{AllKeep, AllKeepUpTo}

-- a step of a runner of any number, also of one that has ended or was never started
abbrev pub IsStep : WorldEvent → Type 0
IsStep e = (id : ℕ) × (e ≡ Step id)

-- these events are steps of runners among a prefix of the others' events, which stand in their order
abbrev pub IsMerge : List WorldEvent → List WorldEvent → Type 0
IsMerge [] others = Unit {0}
IsMerge (e ∷ es) others = (IsStep e × IsMerge es others) ⊎ ((rest : List WorldEvent) × (others ≡ e ∷ rest) × IsMerge es rest)

-- ---- laws

-- a schedule that comes to the same world as these events, and is no longer
pub record Matched (events : List WorldEvent) (p : Place) : Type 0 where
  pub schedule : List Move
  pub is_schedule : IsSchedule schedule p
  pub no_longer : length schedule ≤ length events
  pub same : (place_after schedule p).world ≡ world_after events p.world

-- Steps of runners, in any order, among a prefix of the others' events come to the world of a schedule; so what all schedules keep is kept
-- by all such lists of events.
pub record MergesKeep : Type 0 where
  -- a step of a runner that has ended, or was never started, changes nothing
  pub ended : (id : ℕ) (w : World) → runner_at id w.runners ≡ None → (step (Step id) w).next ≡ w
  pub schedules : (events : List WorldEvent) (p : Place) → IsMerge events p.others → Matched events p
  -- the events of moves are such a list
  pub merges : (moves : List Move) (p : Place) → IsMerge (events_along moves p.others) p.others
  pub kept : (keep : World → Bool) (n : ℕ) (p : Place) (events : List WorldEvent) → AllKeepUpTo keep n p → IsMerge events p.others
      → length events ≤ n → keep (world_after events p.world) ≡ true
  pub always : (keep : World → Bool) (p : Place) (events : List WorldEvent) → AllKeep keep p → IsMerge events p.others
      → keep (world_after events p.world) ≡ true
