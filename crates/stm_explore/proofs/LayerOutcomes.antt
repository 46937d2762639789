-- The outcomes at the places of layers are those of whole schedules of as many moves.
use Rattle.std.specs.Prelude.{IfSome}
use Rattle.std.proofs.Common.{◌≡◌, ◌∙◌, ◌↔◌, ◌≤◌, ℕ, suc, ◌+◌, true, false, List, [], ◌∷◌, Option, Contains, refl, sym, ap, subst, arith}
use Rattle.stm_events.specs.declared.event.WorldEvent.{WorldEvent}
use Rattle.stm_world.specs.World.{World}
use Rattle.stm_schedules.specs.declared.moves.Move.{Move}
use Rattle.stm_schedules.specs.declared.outcome.Outcome.{Outcome}
use Rattle.stm_schedules.specs.Places.{Place}
use Rattle.stm_schedules.specs.Keeping.{goes_on}
use Rattle.stm_schedules.specs.Outcomes.{Ends, outcomes_at, outcomes_up_to}
use Rattle.stm_schedules.proofs.Gathered.{outcomes_are_those}
use Rattle.stm_schedules.proofs.Lengths.{longest_is_all}
use Rattle.stm_visited.specs.Search.{goes_on as found_on, shown_at, count_at as counted_at}
use Rattle.stm_visited.specs.Layers.{Reached, StandFor, IsLayer, moved_from_each, on_among, shown_among, count_among}
use Rattle.stm_visited.proofs.LayerLemmas.{layers_go_on}
use Rattle.stm_explore.specs.declared.places.ReportedPlace.{ReportedPlace}
use Rattle.stm_explore.specs.Gathering.{Gathers}
use Rattle.stm_explore.specs.Explored.{AreAllOutcomes, AreOutcomesUpTo, IsCollected, count_at, count_up_to}
use Rattle.stm_explore.specs.Spots.{place_of, outcome_steps, ShowTheSame}
use Rattle.stm_explore.specs.AlikeSpots.{outcomes_respected}
use Rattle.stm_explore.proofs.GatherLemmas.{gathers_same}
use Rattle.stm_explore.proofs.OutcomeLemmas.{found_all, found_next, found_so_far, all_found}
use Rattle.stm_explore.proofs.Walking.{at_start, same_shown, on_reported, count_reported}

abbrev Spots : Type 0
Spots = List (Reached ReportedPlace Move)

abbrev Stands : List WorldEvent → Spots → Spots → Type 0
Stands others rs them = StandFor ReportedPlace Move Outcome (outcome_steps others) rs them

abbrev Layer : List WorldEvent → ReportedPlace → ℕ → Spots → Type 0
Layer others start k rs = IsLayer ReportedPlace Move Outcome (outcome_steps others) start k rs

same_members : (xs ys : List Outcome) → xs ≡ ys → (it : Outcome) → Contains xs it ↔ Contains ys it
same_members xs ys same it = (λ c. subst (λ zs. Contains zs it) same c, λ c. subst (λ zs. Contains zs it) (sym same) c)

-- what a layer shows is what whole schedules of as many moves come to
gathers_here : (others : List WorldEvent) (start : ReportedPlace) (k : ℕ) (rs : Spots) (old new : List Outcome) → Layer others start k rs →
    Gathers (shown_among (outcome_steps others) 0 rs) old new → Gathers (outcomes_at k (place_of others start.at) start.ends) old new
gathers_here others start k rs old new layer gathers =
    let e : k + 0 ≡ k = omega arith in
    let is : shown_at (outcome_steps others) (k + 0) start ≡ outcomes_at k (place_of others start.at) start.ends =
    ap (λ j. shown_at (outcome_steps others) j start) e ∙ same_shown others k start in
    gathers_same (shown_at (outcome_steps others) (k + 0) start) (outcomes_at k (place_of others start.at) start.ends) old new (same_members _ _ is)
    (gathers_same (shown_among (outcome_steps others) 0 rs) (shown_at (outcome_steps others) (k + 0) start) old new (layer.shown 0) gathers)

-- whether a move can be made from a layer
on_here : (others : List WorldEvent) (start : ReportedPlace) (k : ℕ) (rs : Spots) → Layer others start k rs →
    on_among (outcome_steps others) 1 rs ≡ goes_on (suc k) (place_of others start.at)
on_here others start k rs layer =
    let e : k + 1 ≡ suc k = omega arith in
    layer.on 1 ∙ ap (λ j. found_on (outcome_steps others) j start) e ∙ on_reported others (suc k) start

-- A layer up to which all outcomes are found, and from which a move can be made.
pub record HasGathered (others : List WorldEvent) (start : ReportedPlace) (k : ℕ) (rs : Spots) (found : List Outcome) : Type 0 where
  pub layer : Layer others start k rs
  pub gathers : Gathers (outcomes_up_to k (place_of others start.at) start.ends) [] found
  pub more : goes_on (suc k) (place_of others start.at) ≡ true

pub opened : (others : List WorldEvent) (start : ReportedPlace) (rs : Spots) → rs ≡ record { place = start; path = [] } ∷ [] → Layer others start 0 rs
opened others start rs is =
    subst (λ (l : Spots). Layer others start 0 l) (sym is) ((layers_go_on (outcome_steps others) (ShowTheSame others) (outcomes_respected others)).opens start)

first_gathers : (others : List WorldEvent) (start : ReportedPlace) (rs : Spots) (old found : List Outcome) → rs ≡ record { place = start; path = [] } ∷ [] → old ≡ [] →
    Gathers (shown_among (outcome_steps others) 0 rs) old found → Gathers (outcomes_at 0 (place_of others start.at) start.ends) [] found
first_gathers others start rs old found is none gathers =
    gathers_here others start 0 rs [] found (opened others start rs is)
    (subst (λ (l : List Outcome). Gathers (shown_among (outcome_steps others) 0 rs) l found) none gathers)

pub first_layer : (others : List WorldEvent) (start : ReportedPlace) (rs : Spots) (old found : List Outcome) → rs ≡ record { place = start; path = [] } ∷ [] → old ≡ [] →
    Gathers (shown_among (outcome_steps others) 0 rs) old found → on_among (outcome_steps others) 1 rs ≡ true → HasGathered others start 0 rs found
first_layer others start rs old found is none gathers on = record {
  layer = opened others start rs is;
  gathers = first_gathers others start rs old found is none gathers;
  more = sym (on_here others start 0 rs (opened others start rs is)) ∙ on;
}

pub first_end : (others : List WorldEvent) (start : ReportedPlace) (rs : Spots) (old found : List Outcome) → rs ≡ record { place = start; path = [] } ∷ [] → old ≡ [] →
    Gathers (shown_among (outcome_steps others) 0 rs) old found → on_among (outcome_steps others) 1 rs ≡ false →
    AreAllOutcomes (place_of others start.at) start.ends found
first_end others start rs old found is none gathers end =
    found_all outcomes_are_those longest_is_all 0 (place_of others start.at) start.ends found (first_gathers others start rs old found is none gathers) refl
    (sym (on_here others start 0 rs (opened others start rs is)) ∙ end)

pub later : (others : List WorldEvent) (start : ReportedPlace) (k : ℕ) (rs next : Spots) → Layer others start k rs → Stands others next (moved_from_each (outcome_steps others) rs) →
    Layer others start (suc k) next
later others start k rs next layer stand =
    (layers_go_on (outcome_steps others) (ShowTheSame others) (outcomes_respected others)).next start k rs next layer stand

pub next_gathered : (others : List WorldEvent) (start : ReportedPlace) (k : ℕ) (rs next : Spots) (found more : List Outcome) → HasGathered others start k rs found →
    Stands others next (moved_from_each (outcome_steps others) rs) → Gathers (shown_among (outcome_steps others) 0 next) found more →
    on_among (outcome_steps others) 1 next ≡ true → HasGathered others start (k + 1) next more
next_gathered others start k rs next found more so_far stand gathers on =
    let e : suc k ≡ k + 1 = omega arith in
    let layer : Layer others start (suc k) next = later others start k rs next so_far.layer stand in
    subst (λ j. HasGathered others start j next more) e (record {
      layer = layer;
      gathers = found_next k (suc k) (place_of others start.at) start.ends [] found more refl so_far.gathers (gathers_here others start (suc k) next found more layer gathers);
      more = sym (on_here others start (suc k) next layer) ∙ on;
    })

pub next_end : (others : List WorldEvent) (start : ReportedPlace) (k : ℕ) (rs next : Spots) (found more : List Outcome) → HasGathered others start k rs found →
    Stands others next (moved_from_each (outcome_steps others) rs) → Gathers (shown_among (outcome_steps others) 0 next) found more →
    on_among (outcome_steps others) 1 next ≡ false → AreAllOutcomes (place_of others start.at) start.ends more
next_end others start k rs next found more so_far stand gathers end =
    let layer : Layer others start (suc k) next = later others start k rs next so_far.layer stand in
    all_found outcomes_are_those longest_is_all k (suc k) (place_of others start.at) start.ends found more refl so_far.gathers so_far.more
    (gathers_here others start (suc k) next found more layer gathers) (sym (on_here others start (suc k) next layer) ∙ end)

-- where the search ends at a layer that it has gathered, those found so far are all of up to as many moves
pub open_at : (others : List WorldEvent) (start : ReportedPlace) (k : ℕ) (rs : Spots) (found : List Outcome) → HasGathered others start k rs found →
    AreOutcomesUpTo k (place_of others start.at) start.ends found
open_at others start k rs found so_far =
    found_so_far outcomes_are_those k (place_of others start.at) start.ends found so_far.gathers so_far.more

-- where no place is left, no move can be made
pub none_on : (others : List WorldEvent) (rs : Spots) → rs ≡ [] → on_among (outcome_steps others) 1 rs ≡ false
none_on others rs is = ap (on_among (outcome_steps others) 1) is

-- ---- how many moves are made

-- the moves from a layer are no more than the schedules of one move more
far_next : (others : List WorldEvent) (start : ReportedPlace) (k : ℕ) (rs : Spots) (old left more : ℕ) → Layer others start k rs →
    old ≤ left + count_up_to k (place_of others start.at) → left ≤ more + count_among (outcome_steps others) 1 rs →
    old ≤ more + count_up_to (suc k) (place_of others start.at)
far_next others start k rs old left more layer before spent =
    let there : count_among (outcome_steps others) 1 rs ≤ counted_at (outcome_steps others) (k + 1) start = layer.fewer 1 in
    let one : k + 1 ≡ suc k = omega arith in
    let e : counted_at (outcome_steps others) (k + 1) start ≡ count_at (suc k) (place_of others start.at) =
    ap (λ j. counted_at (outcome_steps others) j start) one ∙ count_reported others (suc k) start in
    omega (arith, before, spent, there, e)

pub far_gathered : (others : List WorldEvent) (start : ReportedPlace) (k : ℕ) (rs : Spots) (found : List Outcome) (old left more : ℕ) → HasGathered others start k rs found →
    old ≤ left + count_up_to k (place_of others start.at) → left ≤ more + count_among (outcome_steps others) 1 rs →
    old ≤ more + count_up_to (k + 1) (place_of others start.at)
far_gathered others start k rs found old left more so_far before spent =
    let one : suc k ≡ k + 1 = omega arith in
    subst (λ j. old ≤ more + count_up_to j (place_of others start.at)) one (far_next others start k rs old left more so_far.layer before spent)

pub far_open : (others : List WorldEvent) (start : ReportedPlace) (k : ℕ) (rs : Spots) (found : List Outcome) (old left more : ℕ) → HasGathered others start k rs found →
    old ≤ left + count_up_to k (place_of others start.at) → left ≤ more + count_among (outcome_steps others) 1 rs → more ≡ 0 →
    old ≤ count_up_to (suc k) (place_of others start.at)
far_open others start k rs found old left more so_far before spent none =
    let far : old ≤ more + count_up_to (suc k) (place_of others start.at) = far_next others start k rs old left more so_far.layer before spent in
    omega (arith, far, none)

-- where no move is left
pub far_without : (p : Place) (k old left : ℕ) → old ≤ left + count_up_to k p → left ≡ 0 → old ≤ count_up_to (suc k) p
far_without p k old left far none = omega (arith, far, none)

-- ---- where the search starts

pub collected_at : (others : List WorldEvent) (w v : World) (known ends : Ends) (found : List Outcome) (stopped : Option ℕ) → w ≡ v → known ≡ ends →
    IsCollected (place_of others (record { world = w; taken = 0 })) known found stopped → IsCollected (record { world = v; others = others }) ends found stopped
collected_at others w v known ends found stopped same is collected =
    subst (λ (p : Place). IsCollected p ends found stopped) (ap (λ (x : World). place_of others (record { world = x; taken = 0 })) same ∙ at_start others v)
    (subst (λ (e : Ends). IsCollected (place_of others (record { world = w; taken = 0 })) e found stopped) is collected)

pub far_at : (others : List WorldEvent) (w v : World) (made : ℕ) (stopped : Option ℕ) → w ≡ v →
    IfSome stopped (λ n. made ≤ count_up_to (suc n) (place_of others (record { world = w; taken = 0 }))) →
    IfSome stopped (λ n. made ≤ count_up_to (suc n) (record { world = v; others = others }))
far_at others w v made stopped same far =
    subst (λ (p : Place). IfSome stopped (λ n. made ≤ count_up_to (suc n) p))
    (ap (λ (x : World). place_of others (record { world = x; taken = 0 })) same ∙ at_start others v) far
