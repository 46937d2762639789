-- A step that can be made first: the fetch of a key at the base of an attempt, where the others have nothing left to bring.
use Rattle.std.proofs.Common.{◌≡◌, ◌≢◌, ◌∙◌, ◌⊎◌, inl, inr, ℕ, Bool, true, false, List, [], ◌∷◌, drop, Contains, Some, refl, sym, ap}
use Rattle.std.specs.Prelude.{nat_eq, Result}
use Rattle.stm_events.specs.declared.event.WorldEvent.{WorldEvent}
use Rattle.stm_events.specs.declared.event.WorldEvent.TheVariants.{Step}
use Rattle.stm_events.specs.declared.reply.Reply.{Reply}
use Rattle.stm_events.specs.declared.refusal.Denied.{Denied}
use Rattle.stm_world.specs.World.{World, Runner, Stepped, runner_at, step}
use Rattle.stm_world.proofs.Slots.{equal_numbers, differ}
use Rattle.stm_retry.specs.AtBase.{NextIsAtBase}
use Rattle.stm_retry.proofs.StepDoes.{after_step}
use Rattle.stm_retry.proofs.FetchExchange.{fetch_is, others_stay, same_reply, still_at_base, fetch_exchanged}
use Rattle.stm_schedules.specs.declared.moves.Move.{Move}
use Rattle.stm_schedules.specs.declared.moves.Move.TheVariants.{Step as StepOf, Other}
use Rattle.stm_schedules.specs.declared.outcome.Outcome.{Outcome}
use Rattle.stm_schedules.specs.Places.{Place, moves}
use Rattle.stm_schedules.specs.Outcomes.{Ends, after_reported}
use Rattle.stm_schedules.proofs.Members.{contained}
use Rattle.stm_schedules.proofs.MoveLemmas.{step_is_move, moves_are_those}
use Rattle.stm_visited.specs.Layers.{AreEnough}
use Rattle.stm_visited.specs.First.{CanBeExchanged, CanBeFirst}
use Rattle.stm_visited.proofs.FirstMoves.{first_is_enough}
use Rattle.stm_explore.specs.declared.places.ReportedPlace.{ReportedPlace}
use Rattle.stm_explore.specs.Spots.{place_of, outcome_steps, ShowTheSame}
use Rattle.stm_explore.specs.AlikeSpots.{outcomes_respected}

abbrev IsFirst : List WorldEvent → Move → ReportedPlace → Type 0
IsFirst others (StepOf id) p = NextIsAtBase id p.at.world × (drop p.at.taken others ≡ [])
IsFirst others Other p = ⊥

abbrev Exchanges : List WorldEvent → Move → Move → ReportedPlace → Type 0
Exchanges others m o p = CanBeExchanged ReportedPlace Move Outcome (outcome_steps others) (ShowTheSame others) (IsFirst others) m o p

is_move : (others : List WorldEvent) (m : Move) (p : ReportedPlace) → IsFirst others m p → Contains (moves (place_of others p.at)) m
is_move others (StepOf id) p x = contained (StepOf id) (moves (place_of others p.at)) (step_is_move (place_of others p.at) id x.0.runner x.0.there)
is_move others Other p x = absurd x

-- what is known of the ends
no_end : (id : ℕ) (w : World) (ends : Ends) → NextIsAtBase id w → after_reported (step (Step id) w).reply ends ≡ ends
no_end id w ends x = ap (λ (s : Stepped). after_reported s.reply ends) (fetch_is id w x)

same_ends : (i j : ℕ) (w : World) (r : Runner) (ends : Ends) → i ≢ j → runner_at j w.runners ≡ Some r → NextIsAtBase i w →
    after_reported (step (Step j) (after_step i w)).reply (after_reported (step (Step i) w).reply ends)
    ≡ after_reported (step (Step i) (after_step j w)).reply (after_reported (step (Step j) w).reply ends)
same_ends i j w r ends ne there x =
    ap (after_reported (step (Step j) (after_step i w)).reply) (no_end i w ends x)
    ∙ ap (λ (reply : Result Reply Denied). after_reported reply ends) (same_reply i j w r ne there x)
    ∙ sym (no_end i (after_step j w) (after_reported (step (Step j) w).reply ends) (still_at_base i j w r ne there x))

of_two : (others : List WorldEvent) (i j : ℕ) (p : ReportedPlace) (r : Runner) → i ≢ j → runner_at j p.at.world.runners ≡ Some r → NextIsAtBase i p.at.world →
    drop p.at.taken others ≡ [] → Exchanges others (StepOf i) (StepOf j) p
of_two others i j p r ne there x none =
    let w : World = p.at.world in
    record {
      stays = (still_at_base i j w r ne there x, none);
      still = contained (StepOf j) _ (step_is_move (record { world = after_step i w; others = drop p.at.taken others }) j r
          (others_stay i j w ne x ∙ there));
      alike = (
        ap (λ (v : World). (let q : Place = record { world = v; others = drop p.at.taken others } in q)) (fetch_exchanged i j w r ne there x),
        same_ends i j w r p.ends ne there x,
      );
    }

exchange : (others : List WorldEvent) (m o : Move) (p : ReportedPlace) → IsFirst others m p → Contains (moves (place_of others p.at)) o → (m ≡ o) ⊎ Exchanges others m o p
exchange others (StepOf i) (StepOf j) p x c = by_number (nat_eq i j) refl
  where
    by_number : (b : Bool) → nat_eq i j ≡ b → (StepOf i ≡ StepOf j) ⊎ Exchanges others (StepOf i) (StepOf j) p
    by_number true e = inl (ap (λ id. StepOf id) (equal_numbers i j e))
    by_number false e =
        let there = (moves_are_those.steps (place_of others p.at) j).0 c in
        inr (of_two others i j p there.0 (differ i j e) there.1 x.0 x.1)
exchange others (StepOf i) Other p x c =
    let some = (moves_are_those.others (place_of others p.at)).0 c in
    absurd (let e : [] ≡ some.0 ∷ some.1 = sym x.1 ∙ some.2 in cc)
exchange others Other o p x c = absurd x

can_be_first : (others : List WorldEvent) → CanBeFirst ReportedPlace Move Outcome (outcome_steps others) (ShowTheSame others) (IsFirst others)
can_be_first others = record { is_move = is_move others; exchange = exchange others }

-- it is enough to make that step
pub fetch_is_enough : (others : List WorldEvent) (id : ℕ) (p : ReportedPlace) → NextIsAtBase id p.at.world → drop p.at.taken others ≡ [] →
    AreEnough ReportedPlace Move Outcome (outcome_steps others) p (StepOf id ∷ [])
fetch_is_enough others id p x none =
    first_is_enough (outcome_steps others) (ShowTheSame others) (IsFirst others) (outcomes_respected others) (can_be_first others) (λ q. refl) (StepOf id) p (x, none)
