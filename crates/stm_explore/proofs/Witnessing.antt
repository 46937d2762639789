-- The paths of a search are witnesses of what it finds.
use Rattle.std.proofs.Common.{◌≡◌, ◌∙◌, ◌⊎◌, inl, inr, ◌<◌, ◌≤◌, ℕ, zero, suc, ◌+◌, List, [], ◌∷◌, ◌++◌, length, get_or, drop, Contains, true, false, refl, sym, ap, subst, arith}
use Rattle.std.specs.List.{list_any}
use Rattle.stm_events.specs.declared.event.WorldEvent.{WorldEvent}
use Rattle.stm_world.specs.World.{World}
use Rattle.stm_schedules.specs.declared.moves.Move.{Move}
use Rattle.stm_schedules.specs.declared.outcome.Outcome.{Outcome}
use Rattle.stm_schedules.specs.Places.{Place, moves, moved}
use Rattle.stm_schedules.specs.Schedules.{place_after, IsSchedule}
use Rattle.stm_schedules.specs.Outcomes.{Ends, ends_moved, ends_after, shown, outcome_if_whole, outcomes_up_to, Comes}
use Rattle.stm_schedules.proofs.Gathered.{outcomes_are_those}
use Rattle.stm_visited.specs.Search.{Leads}
use Rattle.stm_visited.specs.Layers.{Reached, StandFor, moved_from_each}
use Rattle.stm_explore.specs.declared.places.ReportedPlace.{ReportedPlace}
use Rattle.stm_explore.specs.Gathering.{Gathers, HasAdded}
use Rattle.stm_explore.specs.Witnesses.{IsWitness, AreWitnesses, AreLed, HasShorter, HaveWitnesses}
use Rattle.stm_explore.specs.Spots.{place_of, after, reported_after, outcome_steps}
use Rattle.stm_explore.specs.AlikeSpots.{after_is_moved}
use Rattle.stm_explore.proofs.GatherLemmas.{whole_here}
use Rattle.stm_explore.proofs.Walking.{at_start}
use Rattle.stm_explore.proofs.LayerOutcomes.{HasGathered, opened, later}

-- ---- a path

record IsAlong (others : List WorldEvent) (path : List Move) (start there : ReportedPlace) : Type 0 where
  schedule : IsSchedule path (place_of others start.at)
  place : place_of others there.at ≡ place_after path (place_of others start.at)
  ends : there.ends ≡ ends_after path (place_of others start.at) start.ends

along : (others : List WorldEvent) (path : List Move) (start there : ReportedPlace) → Leads (outcome_steps others) path start there → IsAlong others path start there
along others [] start there is = record {
  schedule = tt;
  place = ap (λ (p : ReportedPlace). place_of others p.at) is;
  ends = ap (λ (p : ReportedPlace). p.ends) is;
}
along others (m ∷ path) start there led =
    let rest = along others path (reported_after others m start) there led.1 in
    let same : place_of others (after others m start.at) ≡ moved m (place_of others start.at) = after_is_moved others m start.at in
    record {
      schedule = (led.0, subst (IsSchedule path) same rest.schedule);
      place = rest.place ∙ ap (place_after path) same;
      ends = rest.ends ∙ ap (λ (p : Place). ends_after path p (ends_moved m (place_of others start.at) start.ends)) same
          ∙ sym (outcomes_are_those.ends m path (place_of others start.at) start.ends);
    }

comes_there : (others : List WorldEvent) (path : List Move) (start there : ReportedPlace) → Leads (outcome_steps others) path start there →
    moves (place_of others there.at) ≡ [] → Comes path (place_of others start.at) start.ends (shown there.at.world there.ends)
comes_there others path start there led none =
    let is = along others path start there led in
    record {
      is_whole = (is.schedule, ap moves (sym is.place) ∙ none);
      to = ap (λ (p : Place). shown p.world (ends_after path (place_of others start.at) start.ends)) (sym is.place) ∙ ap (shown there.at.world) (sym is.ends);
    }

less_or_not : (a b : ℕ) → (a < b) ⊎ (b ≤ a)
less_or_not a zero = inr (omega arith)
less_or_not zero (suc b) = inl (omega arith)
less_or_not (suc a) (suc b) = elim (less_or_not a b) [ inl less ↦ inl (omega (arith, less)) | inr not ↦ inr (omega (arith, not)) ]

-- ---- one witness more

more_witnesses : (p : Place) (ends : Ends) (outcomes : List Outcome) (schedules : List (List Move)) (it : Outcome) (schedule : List Move) → AreWitnesses p ends outcomes schedules →
    IsWitness p ends it schedule → AreWitnesses p ends (outcomes ++ it ∷ []) (schedules ++ schedule ∷ [])
more_witnesses p ends [] [] it schedule are is = (is, tt)
more_witnesses p ends [] (s ∷ schedules) it schedule are is = absurd are
more_witnesses p ends (o ∷ outcomes) [] it schedule are is = absurd are
more_witnesses p ends (o ∷ outcomes) (s ∷ schedules) it schedule are is = (are.0, more_witnesses p ends outcomes schedules it schedule are.1 is)

-- what was not found by shorter schedules has no shorter one
new_witness : (others : List WorldEvent) (start : ReportedPlace) (k : ℕ) (r : Reached ReportedPlace Move) (found : List Outcome) →
    Leads (outcome_steps others) r.path start r.place → length r.path ≡ k → HasShorter others start k found → moves (place_of others r.place.at) ≡ [] →
    (Contains found (shown r.place.at.world r.place.ends) → ⊥) →
    IsWitness (place_of others start.at) start.ends (shown r.place.at.world r.place.ends) r.path
new_witness others start k r found led long has none new = record {
  comes = comes_there others r.path start r.place led none;
  shortest = λ other comes. elim (less_or_not (length other) k) [
    | inl less ↦ absurd (new (has other (shown r.place.at.world r.place.ends) comes less))
    | inr not ↦ omega (arith, long, not)
  ];
}

-- what a place of a layer has added has its witness
pub witness_added : (others : List WorldEvent) (start : ReportedPlace) (k : ℕ) (layer : List (Reached ReportedPlace Move)) (r : Reached ReportedPlace Move) (i : ℕ)
    (old found new : List Outcome) (known more : List (List Move)) → i < length layer → r ≡ get_or layer i r → AreLed others start k layer → HasShorter others start k old →
    ((it : Outcome) → Contains old it → Contains found it) →
    HasAdded (moves (place_of others r.place.at)) (shown r.place.at.world r.place.ends) r.path found new known more →
    AreWitnesses (place_of others start.at) start.ends found known → AreWitnesses (place_of others start.at) start.ends new more
witness_added others start k layer r i old found new known more within at led has kept added are =
    let there = led r (i, within, sym at) in
    elim added [
      | inl same ↦ subst (λ (os : List Outcome). AreWitnesses (place_of others start.at) start.ends os more) (sym same.0)
          (subst (AreWitnesses (place_of others start.at) start.ends found) (sym same.1) are)
      | inr it ↦
          let is = new_witness others start k r found there.0 there.1 (λ schedule o comes less. kept o (has schedule o comes less)) it.0 it.1 in
          subst (λ (os : List Outcome). AreWitnesses (place_of others start.at) start.ends os more) (sym it.2)
          (subst (AreWitnesses (place_of others start.at) start.ends (found ++ shown r.place.at.world r.place.ends ∷ [])) (sym it.3)
          (more_witnesses (place_of others start.at) start.ends found known (shown r.place.at.world r.place.ends) r.path are is))
    ]

-- ---- the place itself

none_left : (ms : List Move) → list_any (λ (m : Move). true) ms ≡ false → ms ≡ []
none_left [] none = refl
none_left (m ∷ ms) none = absurd (cc)

moves_here : (others : List WorldEvent) (p q : ReportedPlace) (rest : List WorldEvent) → q ≡ p → rest ≡ drop q.at.taken others →
    moves (record { world = q.at.world; others = rest }) ≡ moves (place_of others p.at)
moves_here others p q rest place rest_is =
    ap (λ (es : List WorldEvent). moves (record { world = q.at.world; others = es })) rest_is ∙ ap (λ (x : ReportedPlace). moves (place_of others x.at)) place

shown_here : (p q : ReportedPlace) (ends : Ends) (it : Outcome) → q ≡ p → ends ≡ q.ends → it ≡ shown q.at.world ends → it ≡ shown p.at.world p.ends
shown_here p q ends it place ends_are is = is ∙ ap (shown q.at.world) ends_are ∙ ap (λ (x : ReportedPlace). shown x.at.world x.ends) place

pub gathers_here : (others : List WorldEvent) (p q : ReportedPlace) (rest : List WorldEvent) (ends : Ends) (it : Outcome) (old new : List Outcome) → q ≡ p →
    rest ≡ drop q.at.taken others → ends ≡ q.ends → list_any (λ (m : Move). true) (moves (record { world = q.at.world; others = rest })) ≡ false → it ≡ shown q.at.world ends →
    Gathers (it ∷ []) old new → Gathers (outcome_if_whole (moves (place_of others p.at)) p.at.world p.ends) old new
gathers_here others p q rest ends it old new place rest_is ends_are none is gathers =
    whole_here (moves (place_of others p.at)) p.at.world p.ends it old new
    (ap (λ (ms : List Move). list_any (λ (m : Move). true) ms) (sym (moves_here others p q rest place rest_is)) ∙ none) (shown_here p q ends it place ends_are is) gathers

pub added_here : (others : List WorldEvent) (p q : ReportedPlace) (rest : List WorldEvent) (ends : Ends) (it : Outcome) (path : List Move) (old new : List Outcome)
    (known more : List (List Move)) → q ≡ p → rest ≡ drop q.at.taken others → ends ≡ q.ends →
    list_any (λ (m : Move). true) (moves (record { world = q.at.world; others = rest })) ≡ false → it ≡ shown q.at.world ends →
    HasAdded [] it path old new known more → HasAdded (moves (place_of others p.at)) (shown p.at.world p.ends) path old new known more
added_here others p q rest ends it path old new known more place rest_is ends_are none is added = elim added [
  | inl same ↦ inl same
  | inr one ↦
      let shows : it ≡ shown p.at.world p.ends = shown_here p q ends it place ends_are is in
      inr (
        sym (moves_here others p q rest place rest_is) ∙ none_left (moves (record { world = q.at.world; others = rest })) none,
        λ there. one.1 (subst (λ (o : Outcome). Contains old o) (sym shows) there),
        one.2 ∙ ap (λ (o : Outcome). old ++ o ∷ []) shows,
        one.3,
      )
]

-- ---- layers

pub none_shorter : (others : List WorldEvent) (start : ReportedPlace) (found : List Outcome) → HasShorter others start 0 found
none_shorter others start found schedule it comes less = absurd (omega (arith, less))

-- all that schedules of up to k moves come to is found
pub has_shorter : (others : List WorldEvent) (start : ReportedPlace) (k : ℕ) (found : List Outcome) → Gathers (outcomes_up_to k (place_of others start.at) start.ends) [] found →
    HasShorter others start (suc k) found
has_shorter others start k found gathers schedule it comes less =
    (gathers.each it).1 (inr ((outcomes_are_those.up_to k (place_of others start.at) start.ends it).1 (schedule, comes, omega (arith, less))))

pub none_yet : (p : Place) (ends : Ends) (outcomes : List Outcome) (schedules : List (List Move)) → outcomes ≡ [] → schedules ≡ [] → AreWitnesses p ends outcomes schedules
none_yet p ends outcomes schedules none nothing =
    subst (λ (os : List Outcome). AreWitnesses p ends os schedules) (sym none) (subst (AreWitnesses p ends []) (sym nothing) tt)

-- the witnesses of a first layer
pub first_witnesses : (others : List WorldEvent) (start : ReportedPlace) (rs : List (Reached ReportedPlace Move)) (old found : List Outcome) (known more : List (List Move)) →
    rs ≡ record { place = start; path = [] } ∷ [] → old ≡ [] → known ≡ [] → HaveWitnesses others rs old found known more →
    AreWitnesses (place_of others start.at) start.ends found more
first_witnesses others start rs old found known more is none nothing have =
    have start 0 (opened others start rs is).led (none_shorter others start old) (none_yet (place_of others start.at) start.ends old known none nothing)

-- and of the next one
pub next_witnesses : (others : List WorldEvent) (start : ReportedPlace) (k : ℕ) (rs next : List (Reached ReportedPlace Move)) (found new : List Outcome) (known more : List (List Move)) →
    HasGathered others start k rs found → StandFor ReportedPlace Move Outcome (outcome_steps others) next (moved_from_each (outcome_steps others) rs) →
    HaveWitnesses others next found new known more → AreWitnesses (place_of others start.at) start.ends found known →
    AreWitnesses (place_of others start.at) start.ends new more
next_witnesses others start k rs next found new known more so_far stand have are =
    have start (suc k) (later others start k rs next so_far.layer stand).led (has_shorter others start k found so_far.gathers) are

pub witnessed_at : (others : List WorldEvent) (w v : World) (known ends : Ends) (found : List Outcome) (schedules : List (List Move)) → w ≡ v → known ≡ ends →
    AreWitnesses (place_of others (record { world = w; taken = 0 })) known found schedules → AreWitnesses (record { world = v; others = others }) ends found schedules
witnessed_at others w v known ends found schedules same is are =
    subst (λ (p : Place). AreWitnesses p ends found schedules) (ap (λ (x : World). place_of others (record { world = x; taken = 0 })) same ∙ at_start others v)
    (subst (λ (e : Ends). AreWitnesses (place_of others (record { world = w; taken = 0 })) e found schedules) is are)
