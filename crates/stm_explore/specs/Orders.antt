-- What is answered about outcomes and the serial orders that come to them.
use Rattle.std.specs.Prelude.{◌≡◌, ◌<◌, ℕ, suc, true, List, length, get_or, All, ◌≤◌, take}
use Rattle.stm_schedules.specs.declared.moves.Move.{Move}
use Rattle.stm_schedules.specs.declared.outcome.Outcome.{Outcome}
use Rattle.stm_schedules.specs.Keeping.{goes_on}
use Rattle.stm_schedules.specs.Outcomes.{Comes, Ends}
use Rattle.stm_schedules.specs.Places.{Place}
use Rattle.stm_visited.specs.declared.visited.Visited.{Visited}
use Rattle.stm_visited.specs.declared.visited.Visited.TheVariants.{Always, Broken, Open}
use Rattle.stm_explore.specs.declared.orders.Compared.{Compared}
use Rattle.stm_explore.specs.declared.orders.Compared.TheVariants.{Serial as AllSerial, Odd, Undecided as NotKnown}
use Rattle.stm_explore.specs.declared.orders.Explained.{Explained}
use Rattle.stm_explore.specs.declared.orders.Explained.TheVariants.{Yes, No, Unknown}
use Rattle.stm_explore.specs.declared.orders.SerialAnswer.{SerialAnswer}
use Rattle.stm_explore.specs.declared.orders.SerialAnswer.TheVariants.{Serial, Anomaly, Open as OpenAt, Undecided}
use Rattle.stm_explore.specs.Explored.{AreAllOutcomes, count_up_to}
use Rattle.stm_explore.specs.Turns.{IsOrderFor, IsSerial}
use Rattle.stm_explore.specs.Witnesses.{AreOrdered, AreWitnesses, IsWitness}

-- no schedule that comes to an outcome to which no serial order does is shorter than this one
abbrev pub NoneIsSooner : Place → Ends → List Move → Type 0
NoneIsSooner p ends schedule = (other : List Move) (o : Outcome) → Comes other p ends o → (IsSerial p ends o → ⊥) → length schedule ≤ length other

-- These are all outcomes, and to each some serial order comes; or to this outcome, which has this witness, none does, and no schedule that comes to such an
-- outcome is shorter; or some schedule is longer than those that were gone through; or of this outcome it is not known, and none that does is shorter.
abbrev pub IsSerialAnswer : Place → Ends → SerialAnswer → Type 0
IsSerialAnswer p ends (Serial count) = (outcomes : List Outcome) × AreAllOutcomes p ends outcomes × All (IsSerial p ends) outcomes × (length outcomes ≡ count)
IsSerialAnswer p ends (Anomaly it schedule) =
    IsWitness p ends it schedule × (IsSerial p ends it → ⊥) × NoneIsSooner p ends schedule
IsSerialAnswer p ends (OpenAt gone_through) = goes_on (suc gone_through) p ≡ true
IsSerialAnswer p ends (Undecided it schedule) = IsWitness p ends it schedule × NoneIsSooner p ends schedule

-- the budget: it is not known only where nothing is left of it
abbrev pub OpenAnswerIsSpent : ℕ → SerialAnswer → Type 0
OpenAnswerIsSpent left (Serial count) = Unit {0}
OpenAnswerIsSpent left (Anomaly it schedule) = Unit {0}
OpenAnswerIsSpent left (OpenAt gone_through) = left ≡ 0
OpenAnswerIsSpent left (Undecided it schedule) = left ≡ 0

-- and where not all outcomes were found, the schedules of up to one move more are no fewer than the moves that were made
abbrev pub OpenAnswerIsFar : Place → ℕ → SerialAnswer → Type 0
OpenAnswerIsFar p made (Serial count) = Unit {0}
OpenAnswerIsFar p made (Anomaly it schedule) = Unit {0}
OpenAnswerIsFar p made (OpenAt gone_through) = made ≤ count_up_to (suc gone_through) p
OpenAnswerIsFar p made (Undecided it schedule) = Unit {0}

-- ---- while it is looked for

-- no serial order comes to an outcome, or this one does
abbrev pub IsSought : Outcome → Place → Ends → Visited Move → Type 0
IsSought it p ends (Always longest) = IsSerial p ends it → ⊥
IsSought it p ends (Broken order) = IsOrderFor it p ends order
IsSought it p ends (Open kept) = Unit {0}

abbrev pub explained_by : Visited Move → Explained
explained_by (Always longest) = No
explained_by (Broken order) = Yes
explained_by (Open kept) = Unknown

abbrev pub IsExplained : Outcome → Place → Ends → Explained → Type 0
IsExplained it p ends Yes = IsSerial p ends it
IsExplained it p ends No = IsSerial p ends it → ⊥
IsExplained it p ends Unknown = Unit {0}

abbrev pub UnknownIsSpent : ℕ → Explained → Type 0
UnknownIsSpent left Yes = Unit {0}
UnknownIsSpent left No = Unit {0}
UnknownIsSpent left Unknown = left ≡ 0

-- some serial order comes to each of these; or none does to the one at this index, or it is not known, and one to each before
abbrev pub AreCompared : Place → Ends → List Outcome → Compared → Type 0
AreCompared p ends outcomes AllSerial = All (IsSerial p ends) outcomes
AreCompared p ends outcomes (Odd i) =
    (i < length outcomes) × ((d : Outcome) → IsSerial p ends (get_or outcomes i d) → ⊥) × All (IsSerial p ends) (take i outcomes)
AreCompared p ends outcomes (NotKnown i) = (i < length outcomes) × All (IsSerial p ends) (take i outcomes)

abbrev pub NotKnownIsSpent : ℕ → Compared → Type 0
NotKnownIsSpent left AllSerial = Unit {0}
NotKnownIsSpent left (Odd i) = Unit {0}
NotKnownIsSpent left (NotKnown i) = left ≡ 0

-- there is an outcome and a schedule at the index
abbrev pub IsWithin : List Outcome → List (List Move) → Compared → Type 0
IsWithin outcomes schedules AllSerial = Unit {0}
IsWithin outcomes schedules (Odd i) = (i < length outcomes) × (i < length schedules)
IsWithin outcomes schedules (NotKnown i) = (i < length outcomes) × (i < length schedules)

-- the answer is so wherever these are the outcomes, with these witnesses
abbrev pub Answers : List Outcome → List (List Move) → Compared → SerialAnswer → Type 0
Answers outcomes schedules compared answer =
    (p : Place) (ends : Ends) → AreAllOutcomes p ends outcomes → AreWitnesses p ends outcomes schedules → AreOrdered schedules → AreCompared p ends outcomes compared
    → IsSerialAnswer p ends answer
