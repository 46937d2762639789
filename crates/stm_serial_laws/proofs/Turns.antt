-- Serial runs as turns: a program that is run whole on the store, or the others' next event.
use Rattle.std.proofs.Common.{◌≡◌, ◌≢◌, ℕ, zero, suc, ◌-◌, ◌<◌, ◌≤◌, List, [], ◌∷◌, length, Option, Some, None, true, false, cond, refl, sym, ◌∙◌, ap, subst, arith}
use Rattle.std.specs.Prelude.{nat_eq, if◌then◌else◌, slice_get, slice_set}
use Rattle.std.proofs.lemmas.List.{length-set}
use Rattle.std.proofs.lemmas.Bool.Decides.{nat_tests}
use Rattle.stm_program.specs.Syntax.{ProgramTree}
use Rattle.stm_txn.specs.Standing.{Standing}
use Rattle.stm_events.specs.declared.event.WorldEvent.{WorldEvent}
use Rattle.stm_world.specs.World.{Runner, Slot, Over, runner_at, with_slot}
use Rattle.stm_world.proofs.Slots.{equal_numbers, differ, same_number, other_number, runner_there, runner_other}
use Rattle.stm_schedules.specs.declared.moves.Move.{Move}
use Rattle.stm_schedules.specs.declared.moves.Move.TheVariants.{Step as StepOf, Other}
use Rattle.stm_schedules.specs.declared.outcome.RunnerEnd.{RunnerEnd}
use Rattle.stm_schedules.specs.Outcomes.{Ends}
use Rattle.stm_schedules.specs.Places.{moves}
use Rattle.stm_schedules.proofs.Members.{contained}
use Rattle.stm_schedules.proofs.MoveLemmas.{step_is_move, other_is_move}
use Rattle.stm_serial.specs.Serial.{alone, after_foreign, Point, run_whole, serial_after, IsSerial}
use Rattle.stm_serial.proofs.Serializing.{place, bare}
use Rattle.stm_serial_laws.specs.Ends.{end_alone, end_at, known_at, serial_ends_after, with_run}

pub data Turn : Type 0 where
  Whole : ℕ → ProgramTree → Turn
  Event : Turn

-- ---- what turns come to

abbrev pub store_in : List Turn → List WorldEvent → Standing → Standing
store_in [] os s = s
store_in (Whole id program ∷ ts) os s = store_in ts os (alone program s)
store_in (Event ∷ ts) [] s = store_in ts [] s
store_in (Event ∷ ts) (e ∷ os) s = store_in ts os (after_foreign e s)

abbrev pub left_in : List Turn → List WorldEvent → List WorldEvent
left_in [] os = os
left_in (Whole id program ∷ ts) os = left_in ts os
left_in (Event ∷ ts) [] = left_in ts []
left_in (Event ∷ ts) (e ∷ os) = left_in ts os

-- how a runner ends in them, whose end is not known before
abbrev pub end_in : ℕ → List Turn → List WorldEvent → Standing → Option RunnerEnd
end_in id [] os s = None
end_in id (Whole j program ∷ ts) os s = if nat_eq id j then end_alone program s else end_in id ts os (alone program s)
end_in id (Event ∷ ts) [] s = end_in id ts [] s
end_in id (Event ∷ ts) (e ∷ os) s = end_in id ts os (after_foreign e s)

abbrev pub IsNotIn : ℕ → List Turn → Type 0
IsNotIn id [] = Unit {0}
IsNotIn id (Whole j program ∷ ts) = (nat_eq id j ≡ false) × IsNotIn id ts
IsNotIn id (Event ∷ ts) = IsNotIn id ts

-- the runner with this number has not ended, and this is its program
abbrev pub Runs : ℕ → ProgramTree → List Slot → Type 0
Runs id program slots = (r : Runner) × (runner_at id slots ≡ Some r) × (r.task.program ≡ program)

-- these turns can be made, and no runner has two
abbrev pub CanBe : List Turn → List WorldEvent → List Slot → Type 0
CanBe [] os slots = Unit {0}
CanBe (Whole id program ∷ ts) os slots = Runs id program slots × IsNotIn id ts × CanBe ts os slots
CanBe (Event ∷ ts) [] slots = ⊥
CanBe (Event ∷ ts) (e ∷ os) slots = CanBe ts os slots

-- ---- one turn

pub own_turn : (id : ℕ) (program : ProgramTree) (ts : List Turn) (os : List WorldEvent) (s : Standing) → end_in id (Whole id program ∷ ts) os s ≡ end_alone program s
own_turn id program ts os s = ap (λ b. cond b (end_alone program s) (end_in id ts os (alone program s))) (same_number id)

pub other_turn : (id j : ℕ) (program : ProgramTree) (ts : List Turn) (os : List WorldEvent) (s : Standing) → nat_eq j id ≡ false →
    end_in j (Whole id program ∷ ts) os s ≡ end_in j ts os (alone program s)
other_turn id j program ts os s ne = ap (λ b. cond b (end_alone program s) (end_in j ts os (alone program s))) ne

pub none_in : (id : ℕ) (ts : List Turn) (os : List WorldEvent) (s : Standing) → IsNotIn id ts → end_in id ts os s ≡ None
none_in id [] os s not = refl
none_in id (Whole j program ∷ ts) os s not = other_turn j id program ts os s not.0 ∙ none_in id ts os (alone program s) not.1
none_in id (Event ∷ ts) [] s not = none_in id ts [] s not
none_in id (Event ∷ ts) (e ∷ os) s not = none_in id ts os (after_foreign e s) not

pub no_runner : (r : Runner) → Some r ≡ None → ⊥
no_runner r is = cc

-- one that has ended has none
pub not_in : (id : ℕ) (ts : List Turn) (os : List WorldEvent) (slots : List Slot) → runner_at id slots ≡ None → CanBe ts os slots → IsNotIn id ts
not_in id [] os slots none can = tt
not_in id (Whole j program ∷ ts) os slots none can = grind (arith, nat_tests, other_number, no_runner, not_in id ts os slots none can.2)
not_in id (Event ∷ ts) [] slots none can = absurd can
not_in id (Event ∷ ts) (e ∷ os) slots none can = not_in id ts os slots none can

pub can_from : (ts : List Turn) (os : List WorldEvent) (now was : List Slot) → ((id : ℕ) (program : ProgramTree) → Runs id program now → Runs id program was) →
    CanBe ts os now → CanBe ts os was
can_from [] os now was runs can = tt
can_from (Whole id program ∷ ts) os now was runs can = (runs id program can.0, can.1, can_from ts os now was runs can.2)
can_from (Event ∷ ts) [] now was runs can = absurd can
can_from (Event ∷ ts) (e ∷ os) now was runs can = can_from ts os now was runs can

-- ---- numbers

pub by_number : (P : ℕ → Type 0) (id j : ℕ) → P id → (id ≢ j → P j) → P j
by_number P id j mine other = elim (nat_eq id j) as (λ b. nat_eq id j ≡ b → P j) [
  | true ↦ λ e. subst P (equal_numbers id j e) mine
  | false ↦ λ e. other (differ id j e)
] refl

-- ---- the serial run of turns

abbrev pub moves_of : List Turn → List Move
moves_of [] = []
moves_of (Whole id program ∷ ts) = StepOf id ∷ moves_of ts
moves_of (Event ∷ ts) = Other ∷ moves_of ts

abbrev pub point : Standing → List Slot → List WorldEvent → Point
point s slots os = record { standing = s; runners = slots; others = os }

-- the other turns can be made still, once a runner was run
still_can : (ts : List Turn) (os : List WorldEvent) (slots : List Slot) (id : ℕ) (r : Runner) → runner_at id slots ≡ Some r → IsNotIn id ts → CanBe ts os slots →
    CanBe ts os (with_slot id Over slots)
still_can [] os slots id r there not can = tt
still_can (Whole j program ∷ ts) os slots id r there not can =
    grind (arith, nat_tests, runner_other, runner_there, differ, still_can ts os slots id r there not.1 can.2)
still_can (Event ∷ ts) [] slots id r there not can = absurd can
still_can (Event ∷ ts) (e ∷ os) slots id r there not can = still_can ts os slots id r there not can

pub is_serial : (ts : List Turn) (os : List WorldEvent) (s : Standing) (slots : List Slot) → CanBe ts os slots → IsSerial (moves_of ts) (point s slots os)
is_serial [] os s slots can = tt
is_serial (Whole id program ∷ ts) os s slots can = (
  contained (StepOf id) (moves (place (bare s slots) os)) (step_is_move (place (bare s slots) os) id can.0.0 can.0.1),
  subst (λ (o : Option Runner). IsSerial (moves_of ts) (run_whole id o (point s slots os))) (sym can.0.1)
      (is_serial ts os (alone can.0.0.task.program s) (with_slot id Over slots) (still_can ts os slots id can.0.0 can.0.1 can.1 can.2)),
)
is_serial (Event ∷ ts) [] s slots can = absurd can
is_serial (Event ∷ ts) (e ∷ os) s slots can = (
  contained Other (moves (place (bare s slots) (e ∷ os))) (other_is_move (place (bare s slots) (e ∷ os)) e os refl),
  is_serial ts os (after_foreign e s) slots can,
)

pub store_is : (ts : List Turn) (os : List WorldEvent) (s : Standing) (slots : List Slot) → CanBe ts os slots →
    (serial_after (moves_of ts) (point s slots os)).standing ≡ store_in ts os s
store_is [] os s slots can = refl
store_is (Whole id program ∷ ts) os s slots can =
    grind (arith, nat_tests, still_can, store_is ts os (alone can.0.0.task.program s) (with_slot id Over slots) (still_can ts os slots id can.0.0 can.0.1 can.1 can.2))
store_is (Event ∷ ts) [] s slots can = absurd can
store_is (Event ∷ ts) (e ∷ os) s slots can = store_is ts os (after_foreign e s) slots can

pub left_is : (ts : List Turn) (os : List WorldEvent) (s : Standing) (slots : List Slot) → CanBe ts os slots →
    (serial_after (moves_of ts) (point s slots os)).others ≡ left_in ts os
left_is [] os s slots can = refl
left_is (Whole id program ∷ ts) os s slots can =
    grind (arith, nat_tests, still_can, left_is ts os (alone can.0.0.task.program s) (with_slot id Over slots) (still_can ts os slots id can.0.0 can.0.1 can.1 can.2))
left_is (Event ∷ ts) [] s slots can = absurd can
left_is (Event ∷ ts) (e ∷ os) s slots can = left_is ts os (after_foreign e s) slots can

-- ---- how runners end in it

set_own : (ends : Ends) (i : ℕ) (end : Option RunnerEnd) → i < length ends → known_at (slice_get (slice_set ends i end) i) ≡ end
set_own [] i end within = absurd (omega (arith, within))
set_own (e ∷ ends) zero end within = refl
set_own (e ∷ ends) (suc i) end within = set_own ends i end (omega (arith, within))

set_other : (ends : Ends) (i j : ℕ) (end : Option RunnerEnd) → i ≢ j → slice_get (slice_set ends i end) j ≡ slice_get ends j
set_other [] zero j end ne = refl
set_other [] (suc i) j end ne = refl
set_other (e ∷ ends) zero zero end ne = absurd (ne refl)
set_other (e ∷ ends) zero (suc j) end ne = refl
set_other (e ∷ ends) (suc i) zero end ne = refl
set_other (e ∷ ends) (suc i) (suc j) end ne = set_other ends i j end (λ same. ne (ap suc same))

pub end_own : (id : ℕ) (ends : Ends) (end : Option RunnerEnd) → 0 < id → id ≤ length ends → end_at id (slice_set ends (id - 1) end) ≡ end
end_own id ends end some within = set_own ends (id - 1) end (omega (arith, some, within))

pub end_other : (id j : ℕ) (ends : Ends) (end : Option RunnerEnd) → 0 < id → 0 < j → id ≢ j → end_at j (slice_set ends (id - 1) end) ≡ end_at j ends
end_other id j ends end some positive ne = grind (arith, nat_tests, set_other)

-- what is known of as many ends as there are runners
abbrev pub AreAsMany : List Slot → Ends → Type 0
AreAsMany slots ends = length slots ≡ length ends

pub as_many_after : (id : ℕ) (slots : List Slot) (slot : Slot) (ends : Ends) (end : Option RunnerEnd) → AreAsMany slots ends →
    AreAsMany (with_slot id slot slots) (slice_set ends (id - 1) end)
as_many_after id slots slot ends end many = length-set slots (id - 1) slot ∙ many ∙ sym (length-set ends (id - 1) end)

-- one without a turn
untouched : (ts : List Turn) (os : List WorldEvent) (s : Standing) (slots : List Slot) (ends : Ends) (id : ℕ) → 0 < id → CanBe ts os slots → IsNotIn id ts →
    end_at id (serial_ends_after (moves_of ts) (point s slots os) ends) ≡ end_at id ends
untouched [] os s slots ends id some can not = refl
untouched (Whole j program ∷ ts) os s slots ends id some can not =
    let r : Runner = can.0.0 in
    let positive : 0 < j = (runner_there j slots r can.0.1).0 in
    let ne : j ≢ id = λ same. differ id j not.0 (sym same) in
    subst (λ (o : Option Runner). end_at id (serial_ends_after (moves_of ts) (run_whole j o (point s slots os)) (with_run j o s ends)) ≡ end_at id ends) (sym can.0.1)
    (untouched ts os (alone r.task.program s) (with_slot j Over slots) (slice_set ends (j - 1) (end_alone r.task.program s)) id some
    (still_can ts os slots j r can.0.1 can.1 can.2) not.1
    ∙ end_other j id ends (end_alone r.task.program s) positive some ne)
untouched (Event ∷ ts) [] s slots ends id some can not = absurd can
untouched (Event ∷ ts) (e ∷ os) s slots ends id some can not = untouched ts os (after_foreign e s) slots ends id some can not

-- one whose end was not known
pub ends_are : (ts : List Turn) (os : List WorldEvent) (s : Standing) (slots : List Slot) (ends : Ends) (id : ℕ) → 0 < id → AreAsMany slots ends → CanBe ts os slots →
    end_at id ends ≡ None → end_at id (serial_ends_after (moves_of ts) (point s slots os) ends) ≡ end_in id ts os s
ends_are [] os s slots ends id some many can none = none
ends_are (Whole j program ∷ ts) os s slots ends id some many can none =
    let r : Runner = can.0.0 in
    let there = runner_there j slots r can.0.1 in
    let end : Option RunnerEnd = end_alone r.task.program s in
    let left : CanBe ts os (with_slot j Over slots) = still_can ts os slots j r can.0.1 can.1 can.2 in
    let within : j ≤ length ends = subst (λ n. j ≤ n) many there.1 in
    subst (λ (o : Option Runner). end_at id (serial_ends_after (moves_of ts) (run_whole j o (point s slots os)) (with_run j o s ends))
    ≡ end_in id (Whole j program ∷ ts) os s) (sym can.0.1)
    (by_number (λ k. k ≡ id → end_at id (serial_ends_after (moves_of ts) (point (alone r.task.program s) (with_slot j Over slots) os) (slice_set ends (j - 1) end))
    ≡ end_in id (Whole j program ∷ ts) os s) j id
    (λ same.
    subst (λ k. end_at k (serial_ends_after (moves_of ts) (point (alone r.task.program s) (with_slot j Over slots) os) (slice_set ends (j - 1) end))
    ≡ end_in k (Whole j program ∷ ts) os s) same
    (untouched ts os (alone r.task.program s) (with_slot j Over slots) (slice_set ends (j - 1) end) j there.0 left can.1
    ∙ end_own j ends end there.0 within ∙ ap (λ (p : ProgramTree). end_alone p s) can.0.2 ∙ sym (own_turn j program ts os s)))
    (λ ne same.
    ends_are ts os (alone r.task.program s) (with_slot j Over slots) (slice_set ends (j - 1) end) id some (as_many_after j slots Over ends end many) left
    (end_other j id ends end there.0 some ne ∙ none)
    ∙ ap (λ (p : ProgramTree). end_in id ts os (alone p s)) can.0.2
    ∙ sym (other_turn j id program ts os s (other_number id j (λ e. ne (sym e)))))
    refl)
ends_are (Event ∷ ts) [] s slots ends id some many can none = absurd can
ends_are (Event ∷ ts) (e ∷ os) s slots ends id some many can none = ends_are ts os (after_foreign e s) slots ends id some many can none
