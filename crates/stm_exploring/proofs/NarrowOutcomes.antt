-- What is found of outcomes from one of two places that agree is so from the other, once its schedules are made there.
use Rattle.std.proofs.Common.{◌≡◌, ◌≢◌, ◌<◌, ℕ, zero, suc, Bool, List, [], ◌∷◌, length, filter, get_or, All, Option, None, refl, sym, ap, ◌∙◌, subst, arith}
use Rattle.std.specs.Prelude.{Contains}
use Rattle.std.specs.List.{AllByRecursion}
use Rattle.std.proofs.lemmas.List.{length-map}
use Rattle.stm_schedules.specs.declared.moves.Move.{Move}
use Rattle.stm_schedules.specs.declared.outcome.KeyValue.{KeyValue}
use Rattle.stm_schedules.specs.declared.outcome.Outcome.{Outcome}
use Rattle.stm_schedules.specs.declared.outcome.RunnerEnd.{RunnerEnd}
use Rattle.stm_schedules.specs.Outcomes.{Comes, Ends, IsOutcome, ends_after, ends_moved, known_ends, outcome_after, state_shown}
use Rattle.stm_schedules.specs.Places.{Place, moved, moves}
use Rattle.stm_schedules.specs.Schedules.{IsWhole, place_after}
use Rattle.stm_explore.specs.declared.finding.Outcomes.{Outcomes}
use Rattle.stm_explore.specs.declared.finding.Outcomes.TheVariants.{Found, Open as OpenAt}
use Rattle.stm_explore.specs.declared.orders.SerialAnswer.{SerialAnswer}
use Rattle.stm_explore.specs.declared.orders.SerialAnswer.TheVariants as serial
use Rattle.stm_explore.specs.Explored.{AreAllOutcomes, AreOutcomesUpTo}
use Rattle.stm_explore.specs.Gathering.{AreDistinct}
use Rattle.stm_explore.specs.Orders.{IsSerialAnswer, NoneIsSooner}
use Rattle.stm_explore.specs.Turns.{AreInTurn, IsOrderFor, IsSerial, counts, is_in_turn, last_turn, moves_in_turn, turn_of}
use Rattle.stm_explore.specs.Witnesses.{AreWitnesses, IsWitness}
use Rattle.stm_narrow.specs.AgreeingPlaces.{AreSearchedAlike, PlacesAgree}
use Rattle.stm_narrow.proofs.Searching.{agreeing_places_are_same}
use Rattle.stm_narrow.proofs.Showing.{schedules_show_alike}
use Rattle.stm_exploring.specs.Questions.{AreGathered}
use Rattle.stm_exploring.specs.Replaying.{answer_there, outcomes_after, outcomes_there}

-- each of these schedules comes to its outcome
abbrev ComeTo : Place → Ends → List Outcome → List (List Move) → Type 0
ComeTo p ends [] [] = Unit {0}
ComeTo p ends [] (s ∷ schedules) = ⊥
ComeTo p ends (it ∷ outcomes) [] = ⊥
ComeTo p ends (it ∷ outcomes) (s ∷ schedules) = Comes s p ends it × ComeTo p ends outcomes schedules

witnesses_come : (p : Place) (ends : Ends) (outcomes : List Outcome) (schedules : List (List Move)) → AreWitnesses p ends outcomes schedules → ComeTo p ends outcomes schedules
witnesses_come p ends [] [] are = tt
witnesses_come p ends [] (s ∷ schedules) are = absurd are
witnesses_come p ends (it ∷ outcomes) [] are = absurd are
witnesses_come p ends (it ∷ outcomes) (s ∷ schedules) are = (are.0.comes, witnesses_come p ends outcomes schedules are.1)

first_of : (it : Outcome) (outcomes : List Outcome) → Contains (it ∷ outcomes) it
first_of it outcomes = (zero, omega arith, refl)

one_of_rest : (o it : Outcome) (outcomes : List Outcome) → Contains outcomes it → Contains (o ∷ outcomes) it
one_of_rest o it outcomes has = (suc has.0, omega (arith, has.1), has.2)

-- each outcome of a list has a schedule that comes to it
some_schedules : (p : Place) (ends : Ends) (outcomes : List Outcome) → ((it : Outcome) → Contains outcomes it → IsOutcome p ends it) →
    (schedules : List (List Move)) × ComeTo p ends outcomes schedules
some_schedules p ends [] each = ([], tt)
some_schedules p ends (o ∷ outcomes) each =
    let first = each o (first_of o outcomes) in
    let rest = some_schedules p ends outcomes (λ it has. each it (one_of_rest o it outcomes has)) in
    (first.0 ∷ rest.0, (first.1, rest.1))

as_many : (p : Place) (ends : Ends) (outcomes : List Outcome) (schedules : List (List Move)) → ComeTo p ends outcomes schedules → length schedules ≡ length outcomes
as_many p ends [] [] come = refl
as_many p ends [] (s ∷ schedules) come = absurd come
as_many p ends (it ∷ outcomes) [] come = absurd come
as_many p ends (it ∷ outcomes) (s ∷ schedules) come = ap suc (as_many p ends outcomes schedules come.1)

module _ (touched : List ℕ → Bool) (leased : ℕ → Bool) (since : ℕ) (ends : Ends) where
  abbrev Agreed : Place → Place → Type 0
  Agreed p q = PlacesAgree touched leased since p q

  alike : (p q : Place) → Agreed p q → AreSearchedAlike touched leased since p q
  alike p q agree = agreeing_places_are_same touched leased since p q agree

  abbrev state_after : List Move → Place → List KeyValue
  state_after ms p = state_shown (place_after ms p).world.standing.history

  same_state : (p q : Place) → Agreed p q → (s t : List Move) → state_after s p ≡ state_after t p → state_after s q ≡ state_after t q
  same_state p q agree s t same = schedules_show_alike touched leased since p q agree s t same

  same_ends : (p q : Place) → Agreed p q → (s : List Move) → known_ends (ends_after s p ends) ≡ known_ends (ends_after s q ends)
  same_ends p q agree s = ap known_ends ((alike p q agree).ends_after s ends)

  -- two schedules that come to the same from the one place do so from the other
  same_there : (p q : Place) → Agreed p q → (s t : List Move) → outcome_after s p ends ≡ outcome_after t p ends → outcome_after s q ends ≡ outcome_after t q ends
  same_there p q agree s t same =
      let state : state_after s q ≡ state_after t q = same_state p q agree s t (ap (λ (it : Outcome). it.state) same) in
      let known : known_ends (ends_after s q ends) ≡ known_ends (ends_after t q ends) =
      sym (same_ends p q agree s) ∙ ap (λ (it : Outcome). it.ends) same ∙ same_ends p q agree t in
      λ i. record { state = state i; ends = known i }

  whole_there : (p q : Place) → Agreed p q → (s : List Move) → IsWhole s p → IsWhole s q
  whole_there p q agree s whole =
      ((alike p q agree).schedules s whole.0, sym (alike (place_after s p) (place_after s q) ((alike p q agree).after s)).moves ∙ whole.1)

  comes_there : (p q : Place) → Agreed p q → (s : List Move) (it : Outcome) → Comes s p ends it → Comes s q ends (outcome_after s q ends)
  comes_there p q agree s it comes = record { is_whole = whole_there p q agree s comes.is_whole; to = refl }

  -- what comes there to the same as a schedule comes here to what that does
  comes_as : (p q : Place) → Agreed p q → (s t : List Move) (it : Outcome) → Comes s p ends it → Comes t q ends (outcome_after s q ends) → Comes t p ends it
  comes_as p q agree s t it comes other = record {
    is_whole = whole_there q p (alike p q agree).turned t other.is_whole;
    to = same_there q p (alike p q agree).turned t s other.to ∙ comes.to;
  }

  also_there : (p q : Place) → Agreed p q → (s t : List Move) (it : Outcome) → Comes s p ends it → Comes t p ends it → Comes t q ends (outcome_after s q ends)
  also_there p q agree s t it comes other =
      record { is_whole = whole_there p q agree t other.is_whole; to = same_there p q agree t s (other.to ∙ sym comes.to) }

  -- ---- the list of outcomes

  module _ (p q : Place) (agree : Agreed p q) where
    -- an outcome there is that of a schedule of the list
    from_list : (outcomes : List Outcome) (schedules : List (List Move)) (o : Outcome) (i : ℕ) → ComeTo p ends outcomes schedules →
        i < length (outcomes_after q ends schedules) → get_or (outcomes_after q ends schedules) i o ≡ o →
        (it : Outcome) × Contains outcomes it × ((t : List Move) → Comes t p ends it → Comes t q ends o)
    from_list [] [] o i come within at = absurd (omega (arith, within))
    from_list [] (s ∷ schedules) o i come within at = absurd come
    from_list (it ∷ outcomes) [] o i come within at = absurd come
    from_list (it ∷ outcomes) (s ∷ schedules) o zero come within at =
        (it, first_of it outcomes, λ t comes. subst (Comes t q ends) at (also_there p q agree s t it come.0 comes))
    from_list (it ∷ outcomes) (s ∷ schedules) o (suc i) come within at =
        let rest = from_list outcomes schedules o i come.1 (omega (arith, within)) at in (rest.0, one_of_rest it rest.0 outcomes rest.1, rest.2)

    -- the outcome there of a schedule that comes here to one of the list
    into_list : (outcomes : List Outcome) (schedules : List (List Move)) (t : List Move) (i : ℕ) → ComeTo p ends outcomes schedules → i < length outcomes →
        get_or outcomes i (outcome_after t p ends) ≡ outcome_after t p ends → Contains (outcomes_after q ends schedules) (outcome_after t q ends)
    into_list [] [] t i come within at = absurd (omega (arith, within))
    into_list [] (s ∷ schedules) t i come within at = absurd come
    into_list (it ∷ outcomes) [] t i come within at = absurd come
    into_list (it ∷ outcomes) (s ∷ schedules) t zero come within at =
        subst (Contains (outcomes_after q ends (s ∷ schedules))) (same_there p q agree s t (come.0.to ∙ at)) (first_of (outcome_after s q ends) (outcomes_after q ends schedules))
    into_list (it ∷ outcomes) (s ∷ schedules) t (suc i) come within at =
        one_of_rest (outcome_after s q ends) (outcome_after t q ends) (outcomes_after q ends schedules) (into_list outcomes schedules t i come.1 (omega (arith, within)) at)

    apart : (it : Outcome) (s : List Move) (outcomes : List Outcome) (schedules : List (List Move)) → Comes s p ends it → ComeTo p ends outcomes schedules →
        AllByRecursion (λ y. it ≢ y) outcomes → AllByRecursion (λ y. outcome_after s q ends ≢ y) (outcomes_after q ends schedules)
    apart it s [] [] comes come all = tt
    apart it s [] (t ∷ schedules) comes come all = absurd come
    apart it s (o ∷ outcomes) [] comes come all = absurd come
    apart it s (o ∷ outcomes) (t ∷ schedules) comes come all = (
      λ same. all.0 (sym comes.to ∙ same_there q p (alike p q agree).turned s t same ∙ come.0.to),
      apart it s outcomes schedules comes come.1 all.1,
    )

    distinct : (outcomes : List Outcome) (schedules : List (List Move)) → ComeTo p ends outcomes schedules → AreDistinct outcomes →
        AreDistinct (outcomes_after q ends schedules)
    distinct [] [] come are = tt
    distinct [] (s ∷ schedules) come are = absurd come
    distinct (it ∷ outcomes) [] come are = absurd come
    distinct (it ∷ outcomes) (s ∷ schedules) come are = (apart it s outcomes schedules come.0 come.1 are.0, distinct outcomes schedules come.1 are.1)

    -- a schedule there comes to something here
    back : (t : List Move) (o : Outcome) → Comes t q ends o → Comes t p ends (outcome_after t p ends)
    back t o comes = comes_there q p (alike p q agree).turned t o comes

    reached : (outcomes : List Outcome) (schedules : List (List Move)) (t : List Move) (o : Outcome) → ComeTo p ends outcomes schedules → Comes t q ends o →
        Contains outcomes (outcome_after t p ends) → Contains (outcomes_after q ends schedules) o
    reached outcomes schedules t o come comes has = subst (Contains (outcomes_after q ends schedules)) comes.to (into_list outcomes schedules t has.0 come has.1 has.2)

    all_outcomes : (outcomes : List Outcome) (schedules : List (List Move)) → ComeTo p ends outcomes schedules → AreAllOutcomes p ends outcomes →
        AreAllOutcomes q ends (outcomes_after q ends schedules)
    all_outcomes outcomes schedules come all = (
      λ o. (
        λ has. let from = from_list outcomes schedules o has.0 come has.1 has.2 in let one = (all.0 from.0).0 from.1 in (one.0, from.2 one.0 one.1),
        λ one. reached outcomes schedules one.0 o come one.1 ((all.0 (outcome_after one.0 p ends)).1 (one.0, back one.0 o one.1)),
      ),
      distinct outcomes schedules come all.1,
    )

    outcomes_up_to : (n : ℕ) (outcomes : List Outcome) (schedules : List (List Move)) → ComeTo p ends outcomes schedules → AreOutcomesUpTo n p ends outcomes →
        AreOutcomesUpTo n q ends (outcomes_after q ends schedules)
    outcomes_up_to n outcomes schedules come all = (
      λ o. (
        λ has. let from = from_list outcomes schedules o has.0 come has.1 has.2 in let one = (all.0 from.0).0 from.1 in (one.0, from.2 one.0 one.1, one.2),
        λ one. reached outcomes schedules one.0 o come one.1 ((all.0 (outcome_after one.0 p ends)).1 (one.0, back one.0 o one.1, one.2)),
      ),
      distinct outcomes schedules come all.1,
      sym ((alike p q agree).goes_on (suc n)) ∙ all.2,
    )

    -- ---- witnesses

    witness : (it : Outcome) (s : List Move) → IsWitness p ends it s → IsWitness q ends (outcome_after s q ends) s
    witness it s is = record {
      comes = comes_there p q agree s it is.comes;
      shortest = λ other comes. is.shortest other (comes_as p q agree s other it is.comes comes);
    }

    witnesses : (outcomes : List Outcome) (schedules : List (List Move)) → AreWitnesses p ends outcomes schedules →
        AreWitnesses q ends (outcomes_after q ends schedules) schedules
    witnesses [] [] are = tt
    witnesses [] (s ∷ schedules) are = absurd are
    witnesses (it ∷ outcomes) [] are = absurd are
    witnesses (it ∷ outcomes) (s ∷ schedules) are = (witness it s are.0, witnesses outcomes schedules are.1)

    pub gathered_there : (found : Outcomes) → AreGathered p ends found → AreGathered q ends (outcomes_there q ends found)
    gathered_there (Found outcomes schedules) are =
        (all_outcomes outcomes schedules (witnesses_come p ends outcomes schedules are.1.0) are.0, (witnesses outcomes schedules are.1.0, are.1.1))
    gathered_there (OpenAt n outcomes schedules) are =
        (outcomes_up_to n outcomes schedules (witnesses_come p ends outcomes schedules are.1.0) are.0, (witnesses outcomes schedules are.1.0, are.1.1))

  -- ---- serial orders

  turns_there : (wanted : List RunnerEnd) (last : Option ℕ) (ms : List Move) (p q : Place) (known : Ends) → Agreed p q → AreInTurn wanted last ms p known →
      AreInTurn wanted last ms q known
  turns_there wanted last [] p q known agree are = tt
  turns_there wanted last (m ∷ ms) p q known agree are = (
    are.0,
    subst (AreInTurn wanted (turn_of m) ms (moved m q)) ((alike p q agree).ends m known)
        (turns_there wanted (turn_of m) ms (moved m p) (moved m q) (ends_moved m p known) ((alike p q agree).moved m) are.1),
  )

  order_there : (p q : Place) → Agreed p q → (s : List Move) (it : Outcome) (order : List Move) → Comes s p ends it → IsOrderFor it p ends order →
      IsOrderFor (outcome_after s q ends) q ends order
  order_there p q agree s it order comes is =
      let known : it.ends ≡ known_ends (ends_after s q ends) = sym (ap (λ (o : Outcome). o.ends) comes.to) ∙ same_ends p q agree s in
      let last : Option ℕ = last_turn None order in
      let far = alike (place_after order p) (place_after order q) ((alike p q agree).after order) in
      let state : state_after order q ≡ state_after s q =
      same_state p q agree order s (ap (λ (o : Outcome). o.state) is.to ∙ sym (ap (λ (o : Outcome). o.state) comes.to)) in
      let shown : known_ends (ends_after order q ends) ≡ filter counts (known_ends (ends_after s q ends)) =
      sym (same_ends p q agree order) ∙ ap (λ (o : Outcome). o.ends) is.to ∙ ap (filter counts) known in
      record {
        is_schedule = (alike p q agree).schedules order is.is_schedule;
        are_in_turn = subst (λ (wanted : List RunnerEnd). AreInTurn wanted None order q ends) known (turns_there it.ends None order p q ends agree is.are_in_turn);
        whole = sym (ap (λ (wanted : List RunnerEnd). moves_in_turn wanted last (place_after order p) (ends_after order p ends)) known
            ∙ ap (moves_in_turn (known_ends (ends_after s q ends)) last (place_after order p)) ((alike p q agree).ends_after order ends)
            ∙ ap (filter (is_in_turn (known_ends (ends_after s q ends)) last (ends_after order q ends))) far.moves) ∙ is.whole;
        to = λ i. record { state = state i; ends = shown i };
      }

  serial_there : (p q : Place) → Agreed p q → (s : List Move) (it : Outcome) → Comes s p ends it → IsSerial p ends it → IsSerial q ends (outcome_after s q ends)
  serial_there p q agree s it comes is = (is.0, order_there p q agree s it is.0 comes is.1)

  serial_back : (p q : Place) → Agreed p q → (s : List Move) (it : Outcome) → Comes s p ends it → IsSerial q ends (outcome_after s q ends) → IsSerial p ends it
  serial_back p q agree s it comes is =
      subst (IsSerial p ends) comes.to (serial_there q p (alike p q agree).turned s (outcome_after s q ends) (comes_there p q agree s it comes) is)

  all_serial : (p q : Place) → Agreed p q → (outcomes : List Outcome) (schedules : List (List Move)) → ComeTo p ends outcomes schedules → All (IsSerial p ends) outcomes →
      All (IsSerial q ends) (outcomes_after q ends schedules)
  all_serial p q agree [] [] come all i d within = absurd (omega (arith, within))
  all_serial p q agree [] (s ∷ schedules) come all i d within = absurd come
  all_serial p q agree (it ∷ outcomes) [] come all i d within = absurd come
  all_serial p q agree (it ∷ outcomes) (s ∷ schedules) come all zero d within = serial_there p q agree s it come.0 (all 0 d (omega arith))
  all_serial p q agree (it ∷ outcomes) (s ∷ schedules) come all (suc i) d within =
      all_serial p q agree outcomes schedules come.1 (λ j e there. all (suc j) e (omega (arith, there))) i d (omega (arith, within))

  none_sooner_there : (p q : Place) → Agreed p q → (s : List Move) → NoneIsSooner p ends s → NoneIsSooner q ends s
  none_sooner_there p q agree s none other o comes odd =
      let here : Comes other p ends (outcome_after other p ends) = comes_there q p (alike p q agree).turned other o comes in
      none other (outcome_after other p ends) here
      (λ ordered. odd (subst (IsSerial q ends) comes.to (serial_there p q agree other (outcome_after other p ends) here ordered)))

  pub answered_there : (p q : Place) → Agreed p q → (answer : SerialAnswer) → IsSerialAnswer p ends answer → IsSerialAnswer q ends (answer_there q ends answer)
  answered_there p q agree (serial.Serial count) is =
      let outcomes : List Outcome = is.0 in
      let schedules = some_schedules p ends outcomes (λ it has. (is.1.0 it).0 has) in
      let long = length-map schedules.0 (λ (s : List Move). outcome_after s q ends) in (
        outcomes_after q ends schedules.0,
        all_outcomes p q agree outcomes schedules.0 schedules.1 is.1,
        all_serial p q agree outcomes schedules.0 schedules.1 is.2,
        long ∙ as_many p ends outcomes schedules.0 schedules.1 ∙ is.3,
      )
  answered_there p q agree (serial.Anomaly it s) is = (
    witness p q agree it s is.0,
    λ ordered. is.1 (serial_back p q agree s it is.0.comes ordered),
    none_sooner_there p q agree s is.2,
  )
  answered_there p q agree (serial.Open gone_through) is = sym ((alike p q agree).goes_on (suc gone_through)) ∙ is
  answered_there p q agree (serial.Undecided it s) is = (witness p q agree it s is.0, none_sooner_there p q agree s is.1)
