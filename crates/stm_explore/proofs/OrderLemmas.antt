-- What is known of outcomes by the serial orders that come to them.
use Rattle.std.proofs.Common.{◌≡◌, ◌∙◌, ◌⊎◌, inl, inr, ℕ, zero, suc, ◌+◌, ◌<◌, ◌≤◌, List, [], ◌∷◌, ◌++◌, length, take, get_or, All, refl, sym, ap, subst, arith}
use Rattle.std.proofs.Math.Seq.{take-suc}
use Rattle.std.proofs.lemmas.List.{get_or-take, length-take-le}
use Rattle.std.proofs.lemmas.List.Elements.{All-push}
use Rattle.std.specs.List.{AllByRecursion}
use Rattle.stm_events.specs.declared.event.WorldEvent.{WorldEvent}
use Rattle.stm_world.specs.World.{World}
use Rattle.stm_schedules.specs.declared.moves.Move.{Move}
use Rattle.stm_schedules.specs.declared.outcome.Outcome.{Outcome}
use Rattle.stm_schedules.specs.Outcomes.{Comes, Ends}
use Rattle.stm_schedules.specs.Places.{Place}
use Rattle.stm_visited.specs.Answers.{IsVisited}
use Rattle.stm_visited.specs.declared.visited.Visited.{Visited}
use Rattle.stm_visited.specs.declared.visited.Visited.TheVariants.{Always, Broken, Open}
use Rattle.stm_explore.specs.declared.turns.TurnPlace.{TurnPlace}
use Rattle.stm_explore.specs.declared.orders.Compared.{Compared}
use Rattle.stm_explore.specs.declared.orders.Compared.TheVariants.{Serial as AllSerial, Odd, Undecided as NotKnown}
use Rattle.stm_explore.specs.declared.orders.SerialAnswer.TheVariants.{Serial, Anomaly, Undecided}
use Rattle.stm_explore.specs.Explored.{AreAllOutcomes}
use Rattle.stm_explore.specs.Orders.{Answers, AreCompared, IsExplained, IsSought, IsWithin, NoneIsSooner, explained_by}
use Rattle.stm_explore.specs.Turns.{IsSerial, counted, turn_steps}
use Rattle.stm_explore.specs.Witnesses.{AreOrdered, AreWitnesses, IsWitness}
use Rattle.stm_explore.proofs.TurnLemmas.{no_order, order_found, start_of}

-- ---- one outcome

sought_by : (it : Outcome) (others : List WorldEvent) (w : World) (ends : Ends) (v : Visited Move) →
    IsVisited (turn_steps it.ends (counted it) others) (start_of w ends) v → IsSought it (record { world = w; others = others }) ends v
sought_by it others w ends (Always longest) v = no_order it others w ends longest v
sought_by it others w ends (Broken order) v = order_found it others w ends order v
sought_by it others w ends (Open kept) v = tt

pub sought : (it goal : Outcome) (others : List WorldEvent) (w : World) (ends : Ends) (start : TurnPlace) (v : Visited Move) → goal ≡ counted it →
    start ≡ start_of w ends → IsVisited (turn_steps it.ends goal others) start v → IsSought it (record { world = w; others = others }) ends v
sought it goal others w ends start v is at visited =
    sought_by it others w ends v (subst (λ (s : TurnPlace). IsVisited (turn_steps it.ends (counted it) others) s v) at
    (subst (λ (o : Outcome). IsVisited (turn_steps it.ends o others) start v) is visited))

pub is_explained : (it : Outcome) (p : Place) (ends : Ends) (v : Visited Move) → IsSought it p ends v → IsExplained it p ends (explained_by v)
is_explained it p ends (Always longest) none = none
is_explained it p ends (Broken order) is = (order, is)
is_explained it p ends (Open kept) unknown = tt

-- ---- one more

pub all_more : (P : Outcome → Type 0) (outcomes : List Outcome) (i : ℕ) (it : Outcome) → i < length outcomes → it ≡ get_or outcomes i it → P it →
    All P (take i outcomes) → All P (take (i + 1) outcomes)
all_more P outcomes i it within at is all =
    let step : suc i ≡ i + 1 = omega arith in
    let more : take (suc i) outcomes ≡ take i outcomes ++ it ∷ [] = take-suc outcomes i it within ∙ ap (λ (o : Outcome). take i outcomes ++ o ∷ []) (sym at) in
    subst (λ (n : ℕ). All P (take n outcomes)) step (subst (All P) (sym more) (All-push P (take i outcomes) it all is))

-- ---- witnesses

pub witness_at : (p : Place) (ends : Ends) (outcomes : List Outcome) (schedules : List (List Move)) (i : ℕ) (it : Outcome) (schedule : List Move) →
    AreWitnesses p ends outcomes schedules → i < length outcomes → IsWitness p ends (get_or outcomes i it) (get_or schedules i schedule)
witness_at p ends [] [] i it schedule are within = absurd (omega arith)
witness_at p ends [] (s ∷ schedules) i it schedule are within = absurd are
witness_at p ends (o ∷ outcomes) [] i it schedule are within = absurd are
witness_at p ends (o ∷ outcomes) (s ∷ schedules) zero it schedule are within = are.0
witness_at p ends (o ∷ outcomes) (s ∷ schedules) (suc i) it schedule are within = witness_at p ends outcomes schedules i it schedule are.1 (omega arith)

pub witness_of : (p : Place) (ends : Ends) (outcomes : List Outcome) (schedules : List (List Move)) (i : ℕ) (it : Outcome) (schedule : List Move) →
    AreWitnesses p ends outcomes schedules → i < length outcomes → it ≡ get_or outcomes i it → schedule ≡ get_or schedules i schedule → IsWitness p ends it schedule
witness_of p ends outcomes schedules i it schedule are within at scheduled =
    subst (λ (o : Outcome). IsWitness p ends o schedule) (sym at)
    (subst (IsWitness p ends (get_or outcomes i it)) (sym scheduled) (witness_at p ends outcomes schedules i it schedule are within))

pub as_many : (p : Place) (ends : Ends) (outcomes : List Outcome) (schedules : List (List Move)) → AreWitnesses p ends outcomes schedules → length schedules ≡ length outcomes
as_many p ends [] [] are = refl
as_many p ends [] (s ∷ schedules) are = absurd are
as_many p ends (o ∷ outcomes) [] are = absurd are
as_many p ends (o ∷ outcomes) (s ∷ schedules) are = ap suc (as_many p ends outcomes schedules are.1)

-- ---- the answer

pub within_lists : (p : Place) (ends : Ends) (outcomes : List Outcome) (schedules : List (List Move)) (c : Compared) → AreWitnesses p ends outcomes schedules →
    AreCompared p ends outcomes c → IsWithin outcomes schedules c
within_lists p ends outcomes schedules AllSerial are compared = tt
within_lists p ends outcomes schedules (Odd i) are compared = (compared.0, subst (λ (n : ℕ). i < n) (sym (as_many p ends outcomes schedules are)) compared.0)
within_lists p ends outcomes schedules (NotKnown i) are compared = (compared.0, subst (λ (n : ℕ). i < n) (sym (as_many p ends outcomes schedules are)) compared.0)

behind : (s : List Move) (schedules : List (List Move)) (j : ℕ) (e : List Move) → AllByRecursion (λ (other : List Move). length s ≤ length other) schedules →
    j < length schedules → length s ≤ length (get_or schedules j e)
behind s [] j e all within = absurd (omega (arith, within))
behind s (other ∷ schedules) zero e all within = all.0
behind s (other ∷ schedules) (suc j) e all within = behind s schedules j e all.1 (omega (arith, within))

-- the schedule at an index is no longer than one behind it
no_longer : (schedules : List (List Move)) (i j : ℕ) (d e : List Move) → AreOrdered schedules → i ≤ j → j < length schedules →
    length (get_or schedules i d) ≤ length (get_or schedules j e)
no_longer [] i j d e are before within = absurd (omega (arith, within))
no_longer (s ∷ schedules) zero zero d e are before within = omega arith
no_longer (s ∷ schedules) zero (suc j) d e are before within = behind s schedules j e are.0 (omega (arith, within))
no_longer (s ∷ schedules) (suc i) zero d e are before within = absurd (omega (arith, before))
no_longer (s ∷ schedules) (suc i) (suc j) d e are before within = no_longer schedules i j d e are.1 (omega (arith, before)) (omega (arith, within))

less_or_not : (a b : ℕ) → (a < b) ⊎ (b ≤ a)
less_or_not a zero = inr (omega arith)
less_or_not zero (suc b) = inl (omega arith)
less_or_not (suc a) (suc b) = elim (less_or_not a b) [ inl less ↦ inl (omega (arith, less)) | inr not ↦ inr (omega (arith, not)) ]

-- one before the index is among those before it
before_index : (P : Outcome → Type 0) (outcomes : List Outcome) (i j : ℕ) (o : Outcome) → All P (take i outcomes) → j < i → i < length outcomes →
    P (get_or outcomes j o)
before_index P outcomes i j o all less within =
    let long : length (take i outcomes) ≡ i = length-take-le i outcomes (omega (arith, within)) in
    subst P (get_or-take i outcomes j o less) (all j o (omega (arith, less, long)))

-- where some serial order comes to each outcome before the index, no odd one has a shorter witness than the one at the index
none_sooner : (p : Place) (ends : Ends) (outcomes : List Outcome) (schedules : List (List Move)) (i : ℕ) (schedule : List Move) →
    schedule ≡ get_or schedules i schedule → AreAllOutcomes p ends outcomes → AreWitnesses p ends outcomes schedules → AreOrdered schedules → i < length outcomes →
    All (IsSerial p ends) (take i outcomes) → NoneIsSooner p ends schedule
none_sooner p ends outcomes schedules i schedule scheduled all are ordered within before other o comes odd =
    let there = (all.0 o).1 (other, comes) in
    let j : ℕ = there.0 in
    elim (less_or_not j i) [
      | inl less ↦ absurd (odd (subst (IsSerial p ends) there.2 (before_index (IsSerial p ends) outcomes i j o before less within)))
      | inr not ↦
          let there_too : j < length schedules = subst (λ (n : ℕ). j < n) (sym (as_many p ends outcomes schedules are)) there.1 in
          let first : length (get_or schedules i schedule) ≤ length (get_or schedules j other) = no_longer schedules i j schedule other ordered not there_too in
          let same : length schedule ≡ length (get_or schedules i schedule) = ap length scheduled in
          let least : length (get_or schedules j other) ≤ length other =
          (witness_at p ends outcomes schedules j o other are there.1).shortest other (subst (Comes other p ends) (sym there.2) comes) in
          omega (arith, first, same, least)
    ]

-- what stands at the index is that outcome and its witness
pub anomaly_by : (outcomes : List Outcome) (schedules : List (List Move)) (i : ℕ) (it : Outcome) (schedule : List Move) → it ≡ get_or outcomes i it →
    schedule ≡ get_or schedules i schedule → Answers outcomes schedules (Odd i) (Anomaly it schedule)
anomaly_by outcomes schedules i it schedule at scheduled p ends all are ordered compared = (
  witness_of p ends outcomes schedules i it schedule are compared.0 at scheduled,
  λ serial. compared.1 it (subst (IsSerial p ends) at serial),
  none_sooner p ends outcomes schedules i schedule scheduled all are ordered compared.0 compared.2,
)

pub unknown_by : (outcomes : List Outcome) (schedules : List (List Move)) (i : ℕ) (it : Outcome) (schedule : List Move) → it ≡ get_or outcomes i it →
    schedule ≡ get_or schedules i schedule → Answers outcomes schedules (NotKnown i) (Undecided it schedule)
unknown_by outcomes schedules i it schedule at scheduled p ends all are ordered compared = (
  witness_of p ends outcomes schedules i it schedule are compared.0 at scheduled,
  none_sooner p ends outcomes schedules i schedule scheduled all are ordered compared.0 compared.1,
)

pub serial_by : (outcomes : List Outcome) (schedules : List (List Move)) (count : ℕ) → length outcomes ≡ count → Answers outcomes schedules AllSerial (Serial count)
serial_by outcomes schedules count is p ends all are ordered compared = (outcomes, all, compared, is)
