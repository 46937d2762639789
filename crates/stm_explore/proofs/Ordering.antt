-- The schedules of outcomes stand in the order of their lengths.
use Rattle.std.proofs.Common.{◌≡◌, inl, inr, ◌<◌, ◌≤◌, ℕ, suc, ◌+◌, List, [], ◌∷◌, ◌++◌, length, get_or, Contains, sym, subst, arith}
use Rattle.std.specs.List.{AllByRecursion}
use Rattle.stm_events.specs.declared.event.WorldEvent.{WorldEvent}
use Rattle.stm_schedules.specs.declared.moves.Move.{Move}
use Rattle.stm_schedules.specs.declared.outcome.Outcome.{Outcome}
use Rattle.stm_visited.specs.Layers.{Reached, StandFor, moved_from_each}
use Rattle.stm_explore.specs.declared.places.ReportedPlace.{ReportedPlace}
use Rattle.stm_explore.specs.Gathering.{HasAdded}
use Rattle.stm_explore.specs.Spots.{outcome_steps}
use Rattle.stm_explore.specs.Witnesses.{AreOrdered, AreUpTo, KeepOrder}
use Rattle.stm_explore.proofs.LayerOutcomes.{HasGathered, later, opened}

abbrev AreSo : ℕ → List (List Move) → Type 0
AreSo k schedules = AreUpTo k schedules × AreOrdered schedules

-- ---- one schedule more

up_to_more : (k : ℕ) (known : List (List Move)) (path : List Move) → AreUpTo k known → length path ≤ k → AreUpTo k (known ++ path ∷ [])
up_to_more k [] path are within = (within, tt)
up_to_more k (s ∷ known) path are within = (are.0, up_to_more k known path are.1 within)

before_more : (s : List Move) (known : List (List Move)) (path : List Move) → AllByRecursion (λ (other : List Move). length s ≤ length other) known →
    length s ≤ length path → AllByRecursion (λ (other : List Move). length s ≤ length other) (known ++ path ∷ [])
before_more s [] path are within = (within, tt)
before_more s (other ∷ known) path are within = (are.0, before_more s known path are.1 within)

ordered_more : (k : ℕ) (known : List (List Move)) (path : List Move) → AreUpTo k known → length path ≡ k → AreOrdered known → AreOrdered (known ++ path ∷ [])
ordered_more k [] path up_to long are = (tt, tt)
ordered_more k (s ∷ known) path up_to long are =
    let first : length s ≤ k = up_to.0 in
    (before_more s known path are.0 (omega (arith, first, long)), ordered_more k known path up_to.1 long are.1)

-- what a place of a layer has added stands behind
pub order_added : (k : ℕ) (layer : List (Reached ReportedPlace Move)) (r : Reached ReportedPlace Move) (i : ℕ) (found new : List Outcome) (known more : List (List Move))
    {left : List Move} {it : Outcome} → i < length layer → r ≡ get_or layer i r → ((x : Reached ReportedPlace Move) → Contains layer x → length x.path ≡ k) →
    HasAdded left it r.path found new known more → AreUpTo k known × AreOrdered known → AreUpTo k more × AreOrdered more
order_added k layer r i found new known more within at long added are = elim added [
  | inl same ↦ subst (AreSo k) (sym same.1) are
  | inr one ↦
      let as_long : length r.path ≡ k = long r (i, within, sym at) in
      subst (AreSo k) (sym one.3) (up_to_more k known r.path are.0 (omega (arith, as_long)), ordered_more k known r.path are.0 as_long are.1)
]

-- ---- layers

further : (k : ℕ) (known : List (List Move)) → AreUpTo k known → AreUpTo (k + 1) known
further k [] are = tt
further k (s ∷ known) are = let first : length s ≤ k = are.0 in (omega (arith, first), further k known are.1)

-- of a first layer
pub order_first : (others : List WorldEvent) (start : ReportedPlace) (rs : List (Reached ReportedPlace Move)) (known more : List (List Move)) →
    rs ≡ record { place = start; path = [] } ∷ [] → known ≡ [] → KeepOrder rs known more → AreUpTo 0 more × AreOrdered more
order_first others start rs known more is nothing keep =
    let none : AreSo 0 known = subst (AreSo 0) (sym nothing) (tt, tt) in
    keep 0 (λ r there. ((opened others start rs is).led r there).1) none.0 none.1

-- and of the next one
pub order_next : (others : List WorldEvent) (start : ReportedPlace) (k : ℕ) (rs next : List (Reached ReportedPlace Move)) (found : List Outcome) (known more : List (List Move)) →
    HasGathered others start k rs found → StandFor ReportedPlace Move Outcome (outcome_steps others) next (moved_from_each (outcome_steps others) rs) →
    KeepOrder next known more → AreUpTo k known → AreOrdered known → AreUpTo (k + 1) more × AreOrdered more
order_next others start k rs next found known more so_far stand keep up_to are =
    let step : suc k ≡ k + 1 = omega arith in
    keep (k + 1) (λ r there. subst (λ (n : ℕ). length r.path ≡ n) step ((later others start k rs next so_far.layer stand).led r there).1) (further k known up_to) are
