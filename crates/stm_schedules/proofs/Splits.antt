-- A scenario in two parts: up to the last start, and after it.
use Rattle.std.proofs.Common.{◌≡◌, Bool, true, false, cond, List, [], ◌∷◌, ◌++◌, map, refl, sym, ◌∙◌, ap, arith}
use Rattle.std.proofs.lemmas.Bool.Decides.{nat_tests}
use Rattle.stm_program.specs.declared.level.Level.{Level}
use Rattle.stm_events.specs.declared.event.WorldEvent.{WorldEvent}
use Rattle.stm_world.specs.World.{opened, world_after}
use Rattle.stm_world.proofs.Joined.{runs_go_on}
use Rattle.stm_schedules.specs.declared.moves.Move.{Move}
use Rattle.stm_schedules.specs.Schedules.{place_after, events_along}
use Rattle.stm_schedules.specs.Scenarios.{is_start, has_start, up_to_last_start, after_last_start, begun, with_schedule, at_level, ScenariosAreSplit}
use Rattle.stm_schedules.proofs.Members.{both_false}
use Rattle.stm_schedules.proofs.Runs.{world_along}
use Rattle.stm_txn.specs.Standing.{Setup}

both_by : (b : Bool) (e : WorldEvent) (es first second : List WorldEvent) → first ++ second ≡ es → cond b (e ∷ first) [] ++ cond b second (e ∷ es) ≡ e ∷ es
both_by b e es first second is = grind (arith, nat_tests)

both : (events : List WorldEvent) → up_to_last_start events ++ after_last_start events ≡ events
both [] = refl
both (e ∷ es) = both_by (has_start (e ∷ es)) e es (up_to_last_start es) (after_last_start es) (both es)

none_by : (b : Bool) (e : WorldEvent) (es second : List WorldEvent) → has_start (e ∷ es) ≡ b → has_start second ≡ false → has_start (cond b second (e ∷ es)) ≡ false
none_by b e es second is none = grind (arith, nat_tests)

no_start_after : (events : List WorldEvent) → has_start (after_last_start events) ≡ false
no_start_after [] = refl
no_start_after (e ∷ es) = none_by (has_start (e ∷ es)) e es (after_last_start es) refl (no_start_after es)

replayed : (start : Setup) (events : List WorldEvent) (schedule : List Move) →
    world_after (with_schedule events schedule) (opened start) ≡ (place_after schedule (begun start events)).world
replayed start events schedule =
    runs_go_on.worlds (up_to_last_start events) (events_along schedule (after_last_start events)) (opened start)
    ∙ sym (world_along schedule (begun start events))

-- ---- at another level

same_start : (level : Level) (e : WorldEvent) → is_start (at_level level e) ≡ is_start e
same_start level event = grind (arith, nat_tests)

same_starts : (level : Level) (events : List WorldEvent) → has_start (map (at_level level) events) ≡ has_start events
same_starts level [] = refl
same_starts level (e ∷ es) = grind (arith, nat_tests, same_start, same_starts level es)

levels_by : (level : Level) (b : Bool) (e : WorldEvent) (first second : List WorldEvent) → first ≡ map (at_level level) second →
    cond b (at_level level e ∷ first) [] ≡ map (at_level level) (cond b (e ∷ second) [])
levels_by level b e first second is = grind (arith, nat_tests)

levels : (level : Level) (events : List WorldEvent) → up_to_last_start (map (at_level level) events) ≡ map (at_level level) (up_to_last_start events)
levels level [] = refl
levels level (e ∷ es) =
    ap (λ b. cond b (at_level level e ∷ up_to_last_start (map (at_level level) es)) []) (same_starts level (e ∷ es))
    ∙ levels_by level (has_start (e ∷ es)) e (up_to_last_start (map (at_level level) es)) (up_to_last_start es) (levels level es)

no_start_stays : (level : Level) (e : WorldEvent) → is_start e ≡ false → at_level level e ≡ e
no_start_stays level event none = grind (arith, nat_tests)

no_starts_stay : (level : Level) (events : List WorldEvent) → has_start events ≡ false → map (at_level level) events ≡ events
no_starts_stay level [] none = refl
no_starts_stay level (e ∷ es) none =
    let each = both_false (is_start e) (has_start es) none in
    ap (λ (first : WorldEvent). first ∷ map (at_level level) es) (no_start_stays level e each.0)
    ∙ ap (λ (rest : List WorldEvent). e ∷ rest) (no_starts_stay level es each.1)

after_by : (level : Level) (b : Bool) (e : WorldEvent) (es first second : List WorldEvent) → has_start (e ∷ es) ≡ b → first ≡ second →
    cond b first (map (at_level level) (e ∷ es)) ≡ cond b second (e ∷ es)
after_by level true e es first second is same = same
after_by level false e es first second is same = no_starts_stay level (e ∷ es) is

levels_after : (level : Level) (events : List WorldEvent) → after_last_start (map (at_level level) events) ≡ after_last_start events
levels_after level [] = refl
levels_after level (e ∷ es) =
    ap (λ b. cond b (after_last_start (map (at_level level) es)) (map (at_level level) (e ∷ es))) (same_starts level (e ∷ es))
    ∙ after_by level (has_start (e ∷ es)) e es (after_last_start (map (at_level level) es)) (after_last_start es) refl (levels_after level es)

pub scenarios_are_split : ScenariosAreSplit
scenarios_are_split = record { both = both; no_start_after = no_start_after; replayed = replayed; levels = levels; levels_after = levels_after }
