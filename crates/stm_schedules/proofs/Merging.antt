-- Runners' steps among the others' events, as schedules.
use Rattle.std.proofs.Common.{◌≡◌, ℕ, ◌≤◌, List, [], ◌∷◌, length, Option, Some, None, inl, inr, refl, sym, ap, subst, arith}
use Rattle.std.proofs.lemmas.Bool.Decides.{nat_tests}
use Rattle.stm_events.specs.declared.event.WorldEvent.{WorldEvent}
use Rattle.stm_events.specs.declared.event.WorldEvent.TheVariants.{Step}
use Rattle.stm_world.specs.World.{World, Runner, runner_at, step_runner, step}
use Rattle.stm_schedules.specs.declared.moves.Move.{Move}
use Rattle.stm_schedules.specs.declared.moves.Move.TheVariants.{Step as StepOf, Other}
use Rattle.stm_schedules.specs.Places.{Place, moves}
use Rattle.stm_schedules.specs.Schedules.{events_along}
use Rattle.stm_schedules.specs.Merges.{IsMerge, Matched, MergesKeep}
use Rattle.stm_schedules.proofs.Members.{contained}
use Rattle.stm_schedules.proofs.MoveLemmas.{step_is_move, other_is_move}

abbrev place : World → List WorldEvent → Place
place w others = record { world = w; others = others }

ended_stays : (id : ℕ) (w : World) → runner_at id w.runners ≡ None → (step (Step id) w).next ≡ w
ended_stays id w none = ap (λ (o : Option Runner). (step_runner id o w).next) none

nothing : (w : World) (others : List WorldEvent) → Matched [] (place w others)
nothing w others = record { schedule = []; is_schedule = tt; no_longer = omega arith; same = refl }

-- a step that is no move
with_ended : (id : ℕ) (es : List WorldEvent) (w : World) (others : List WorldEvent) → runner_at id w.runners ≡ None → Matched es (place w others) →
    Matched (Step id ∷ es) (place w others)
with_ended id es w others none rest = grind (arith, nat_tests, ended_stays)

-- a step that is a move
with_step : (id : ℕ) (es : List WorldEvent) (w : World) (others : List WorldEvent) (r : Runner) → runner_at id w.runners ≡ Some r →
    Matched es (place (step (Step id) w).next others) → Matched (Step id ∷ es) (place w others)
with_step id es w others r runs rest =
    let short : length rest.schedule ≤ length es = rest.no_longer in
    record {
      schedule = StepOf id ∷ rest.schedule;
      is_schedule = (contained (StepOf id) (moves (place w others)) (step_is_move (place w others) id r runs), rest.is_schedule);
      no_longer = omega arith;
      same = rest.same;
    }

-- the others' next event
with_other : (e : WorldEvent) (es : List WorldEvent) (w : World) (others : List WorldEvent) → Matched es (place (step e w).next others) →
    Matched (e ∷ es) (place w (e ∷ others))
with_other e es w others rest =
    let short : length rest.schedule ≤ length es = rest.no_longer in
    record {
      schedule = Other ∷ rest.schedule;
      is_schedule = (contained Other (moves (place w (e ∷ others))) (other_is_move (place w (e ∷ others)) e others refl), rest.is_schedule);
      no_longer = omega arith;
      same = rest.same;
    }

step_by : (id : ℕ) (es : List WorldEvent) (w : World) (others : List WorldEvent) (o : Option Runner) → runner_at id w.runners ≡ o →
    ((v : World) → Matched es (place v others)) → Matched (Step id ∷ es) (place w others)
step_by id es w others o is rest = grind (arith, nat_tests, with_ended, with_step)

matched : (events : List WorldEvent) (w : World) (others : List WorldEvent) → IsMerge events others → Matched events (place w others)
matched [] w others merge = nothing w others
matched (e ∷ es) w others merge = elim merge [
  | inl own ↦ subst (λ (first : WorldEvent). Matched (first ∷ es) (place w others)) (sym own.0.1)
      (step_by own.0.0 es w others (runner_at own.0.0 w.runners) refl (λ v. matched es v others own.1))
  | inr next ↦ subst (λ (left : List WorldEvent). Matched (e ∷ es) (place w left)) (sym next.1)
      (with_other e es w next.0 (matched es (step e w).next next.0 next.2))
]

pub schedule_of : (events : List WorldEvent) (p : Place) → IsMerge events p.others → Matched events p
schedule_of events p merge = matched events p.world p.others merge

merge_of : (ms : List Move) (others : List WorldEvent) → IsMerge (events_along ms others) others
merge_of [] others = tt
merge_of (StepOf id ∷ ms) others = inl ((id, refl), merge_of ms others)
merge_of (Other ∷ ms) [] = merge_of ms []
merge_of (Other ∷ ms) (e ∷ es) = inr (es, refl, merge_of ms es)

pub merges_keep : MergesKeep
merges_keep = grind (arith, nat_tests, ended_stays, schedule_of, merge_of)
