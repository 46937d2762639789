-- Worlds in which runners begin.
use Rattle.std.proofs.Common.{◌≡◌, ◌≤◌, ℕ, suc, zero, ◌-◌, Bool, false, cond, List, [], ◌∷◌, ◌++◌, filter, Some, None, refl, sym, ◌∙◌, ap, subst, arith}
use Rattle.std.proofs.Common.{append_assoc}
use Rattle.std.specs.Prelude.{◌||◌, nat_eq, slice_get}
use Rattle.std.specs.List.{AllByRecursion}
use Rattle.std.proofs.lemmas.List.{append-nil}
use Rattle.std.proofs.lemmas.Bool.Decides.{nat_tests}
use Rattle.stm_history.specs.History.{now}
use Rattle.stm_history.proofs.HistoryLaws.{last_revision_is_now}
use Rattle.stm_events.specs.declared.event.WorldEvent.{WorldEvent}
use Rattle.stm_events.specs.declared.event.WorldEvent.TheVariants.{Start}
use Rattle.stm_world.specs.Task.{Task}
use Rattle.stm_world.specs.World.{World, Runner, Slot, Over, Live, live_in, runner_at, begin, start_runner, step, world_after}
use Rattle.stm_schedules.specs.Scenarios.{is_start}
use Rattle.stm_narrow.specs.Agree.{SameSince, RunsWithin, Agree}
use Rattle.stm_narrow.specs.Beginning.{is_step, has_step, started_by, started, BeginAlike, BeginningsAgree}

-- ---- from now on

keys_since : (touched : List ℕ → Bool) (leased : ℕ → Bool) (v w : World) → BeginAlike touched leased v w → SameSince touched (now w.standing.history) v.standing.history w.standing.history
keys_since touched leased v w alike = grind (arith, nat_tests, last_revision_is_now)

begun_within : (touched : List ℕ → Bool) (leased : ℕ → Bool) (v w : World) → BeginAlike touched leased v w → (id : ℕ) (r : Runner) → runner_at id v.runners ≡ Some r →
    RunsWithin touched leased (now w.standing.history) r
begun_within touched leased v w alike id r is = grind (arith, nat_tests)

begin_agree : (touched : List ℕ → Bool) (leased : ℕ → Bool) (v w : World) → BeginAlike touched leased v w → Agree touched leased (now w.standing.history) v w
begin_agree touched leased v w alike =
    let floor : v.standing.floor ≤ now v.standing.history = alike.floors.0 in
    let same : now v.standing.history ≡ now w.standing.history = alike.now in
    record {
      store = record {
        history = keys_since touched leased v w alike;
        limit = alike.limit;
        floors = (omega arith, alike.floors.1);
        live = alike.live;
      };
      runners = alike.runners;
      within = begun_within touched leased v w alike;
    }

-- ---- runners that are started

neither : (b c : Bool) → (b || c) ≡ false → (b ≡ false) × (c ≡ false)
neither b c is = grind (arith, nat_tests)

start_adds : (task : Task) (w : World) → (start_runner task w).next.runners ≡ w.runners ++ cond (nat_eq task.limit 0) [] (Live (begin task) ∷ [])
unfolding start_runner
start_adds task w = grind (arith, nat_tests, append-nil)

event_adds : (e : WorldEvent) (w : World) → is_step e ≡ false → (step e w).next.runners ≡ w.runners ++ started_by e
event_adds e w is = grind (arith, nat_tests, start_adds, append-nil)

events_add : (events : List WorldEvent) (w : World) → has_step events ≡ false → (world_after events w).runners ≡ w.runners ++ started events
events_add [] w none = sym (append-nil w.runners)
events_add (e ∷ es) w none =
    let parts = neither (is_step e) (has_step es) none in
    events_add es (step e w).next parts.1 ∙ ap (λ (slots : List Slot). slots ++ started es) (event_adds e w parts.0)
    ∙ append_assoc w.runners (started_by e) (started es)

starts_alone : (events : List WorldEvent) → started (filter is_start events) ≡ started events
starts_alone [] = refl
starts_alone (Start program level limit ∷ es) = ap (λ (slots : List Slot). started_by (Start program level limit) ++ slots) (starts_alone es)
starts_alone (_ ∷ es) = starts_alone es

starts_step_not : (events : List WorldEvent) → has_step (filter is_start events) ≡ false
starts_step_not [] = refl
starts_step_not (Start program level limit ∷ es) = starts_step_not es
starts_step_not (_ ∷ es) = starts_step_not es

-- ---- none has made a step

abbrev HasBegun : Slot → Type 0
HasBegun Over = Unit {0}
HasBegun (Live r) = r ≡ begin r.task

one_begun : (e : WorldEvent) (slots : List Slot) → AllByRecursion HasBegun slots → AllByRecursion HasBegun (started_by e ++ slots)
one_begun e slots all = grind (arith, nat_tests)

all_begun : (events : List WorldEvent) → AllByRecursion HasBegun (started events)
all_begun [] = tt
all_begun (e ∷ es) = one_begun e (started es) (all_begun es)

begun_at : (slots : List Slot) (i : ℕ) (r : Runner) → AllByRecursion HasBegun slots → live_in (slice_get slots i) ≡ Some r → r ≡ begin r.task
begun_at [] i r all is = absurd (cc)
begun_at (Over ∷ slots) zero r all is = absurd (cc)
begun_at (Live x ∷ slots) zero r all is = let same : x ≡ r = cc in subst (λ (y : Runner). y ≡ begin y.task) same all.0
begun_at (s ∷ slots) (suc i) r all is = begun_at slots i r all.1 is

begun_by : (b : Bool) (slots : List Slot) (i : ℕ) (r : Runner) → AllByRecursion HasBegun slots → cond b None (live_in (slice_get slots i)) ≡ Some r → r ≡ begin r.task
begun_by b slots i r all is = grind (arith, nat_tests, begun_at)

pub beginnings_agree : BeginningsAgree
beginnings_agree = record {
  agree = begin_agree;
  runners = events_add;
  starts = starts_alone;
  no_step = starts_step_not;
  begun = λ events id r. begun_by (nat_eq id 0) (started events) (id - 1) r (all_begun events);
}
