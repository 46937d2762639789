-- Where runners begin in a small world as in a whole one.
use Rattle.std.specs.Prelude.{◌≡◌, ◌≤◌, ℕ, Bool, true, false, ◌||◌, nat_eq, if◌then◌else◌, List, [], ◌∷◌, ◌++◌, filter, Some}
use Rattle.stm_history.specs.History.{now, key_now}
use Rattle.stm_leases.specs.Live.{is_live_in}
use Rattle.stm_events.specs.declared.event.WorldEvent.{WorldEvent}
use Rattle.stm_events.specs.declared.event.WorldEvent.TheVariants.{Start, Step}
use Rattle.stm_world.specs.World.{World, Runner, Slot, Live, runner_at, begin, world_after}
use Rattle.stm_schedules.specs.Scenarios.{is_start}
use Rattle.stm_narrow.specs.Touching.{IsTouched, KeepsTo}
use Rattle.stm_narrow.specs.Agree.{Agree}

-- ---- the runners of events without steps

abbrev pub is_step : WorldEvent → Bool
is_step (Step runner) = true
is_step other = false

abbrev pub has_step : List WorldEvent → Bool
has_step [] = false
has_step (e ∷ es) = is_step e || has_step es

-- the runner of a start, unless it may send no commit
abbrev pub started_by : WorldEvent → List Slot
started_by (Start program level limit) =
    if nat_eq limit 0 then [] else Live (begin (record { program = program; level = level; limit = limit })) ∷ []
started_by other = []

abbrev pub started : List WorldEvent → List Slot
started [] = []
started (e ∷ es) = started_by e ++ started es

-- ---- worlds in which runners begin

-- two stores with the same counter whose touched keys are the same now, neither of them compacted above it; and no runner has made a step
pub record BeginAlike (touched : List ℕ → Bool) (leased : ℕ → Bool) (v w : World) : Type 0 where
  pub floors : (v.standing.floor ≤ now v.standing.history) × (w.standing.floor ≤ now w.standing.history)
  pub now : now v.standing.history ≡ now w.standing.history
  pub keys : (key : List ℕ) → IsTouched touched key → key_now v.standing.history key ≡ key_now w.standing.history key
  pub live : (id : ℕ) → leased id ≡ true → is_live_in v.standing.live id ≡ is_live_in w.standing.live id
  pub limit : v.standing.limit ≡ w.standing.limit
  pub runners : v.runners ≡ w.runners
  pub begun : (id : ℕ) (r : Runner) → runner_at id w.runners ≡ Some r → r ≡ begin r.task
  pub keeps : (id : ℕ) (r : Runner) → runner_at id w.runners ≡ Some r → KeepsTo touched leased r.task.program

-- ---- laws

pub record BeginningsAgree : Type 0 where
  -- such worlds agree from now on
  pub agree : (touched : List ℕ → Bool) (leased : ℕ → Bool) (v w : World) → BeginAlike touched leased v w → Agree touched leased (now w.standing.history) v w
  -- events without steps add the runners of their starts, none of which has made a step
  pub runners : (events : List WorldEvent) (w : World) → has_step events ≡ false → (world_after events w).runners ≡ w.runners ++ started events
  pub starts : (events : List WorldEvent) → started (filter is_start events) ≡ started events
  pub no_step : (events : List WorldEvent) → has_step (filter is_start events) ≡ false
  pub begun : (events : List WorldEvent) (id : ℕ) (r : Runner) → runner_at id (started events) ≡ Some r → r ≡ begin r.task
