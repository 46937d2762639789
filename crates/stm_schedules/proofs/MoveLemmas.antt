-- The moves that can be made, and their order.
use Rattle.std.proofs.Common.{◌≡◌, ◌≢◌, ℕ, zero, suc, ◌<◌, ◌≤◌, true, false, nat_eq, List, [], ◌∷◌, ◌++◌, length, Option, Some, None}
use Rattle.std.proofs.Common.{inl, inr, refl, sym, ◌∙◌, ap, subst, arith}
use Rattle.std.specs.Option.{option_or}
use Rattle.std.proofs.lemmas.Bool.Decides.{nat_tests}
use Rattle.stm_events.specs.declared.event.WorldEvent.{WorldEvent}
use Rattle.stm_world.specs.World.{Runner, Slot, runner_at}
use Rattle.stm_world.proofs.Slots.{equal_numbers, differ, runner_there}
use Rattle.stm_schedules.specs.declared.moves.Move.{Move}
use Rattle.stm_schedules.specs.declared.moves.Move.TheVariants.{Step as StepOf, Other}
use Rattle.stm_schedules.specs.Places.{Place, step_if_running, steps_up_to, next_other, moves, MovesAreThose}
use Rattle.stm_schedules.specs.Schedules.{IsBefore}
use Rattle.stm_schedules.specs.Keeping.{first_of}
use Rattle.stm_schedules.proofs.Members.{IsAmong, among, contained, in_first, in_second, in_either}

-- ---- steps of runners

-- a move that is the step of a runner that has not ended, of a number up to n
record IsStepWithin (n : ℕ) (slots : List Slot) (m : Move) : Type 0 where
  id : ℕ
  is : m ≡ StepOf id
  within : id ≤ n
  runner : Runner
  runs : runner_at id slots ≡ Some runner

step_here : (id : ℕ) (o : Option Runner) (slots : List Slot) (m : Move) → runner_at id slots ≡ o → IsAmong m (step_if_running id o) →
    IsStepWithin id slots m
step_here id o slots m is a = grind (arith, nat_tests)

wider : (n : ℕ) (slots : List Slot) (m : Move) → IsStepWithin n slots m → IsStepWithin (suc n) slots m
wider n slots m s = let within : s.id ≤ n = s.within in record { id = s.id; is = s.is; within = omega arith; runner = s.runner; runs = s.runs }

is_step : (n : ℕ) (slots : List Slot) (m : Move) → IsAmong m (steps_up_to n slots) → IsStepWithin n slots m
is_step zero slots m a = absurd a
is_step (suc n) slots m a = elim (in_either m (steps_up_to n slots) (step_if_running (suc n) (runner_at (suc n) slots)) a) [
  | inl earlier ↦ wider n slots m (is_step n slots m earlier)
  | inr last ↦ step_here (suc n) (runner_at (suc n) slots) slots m refl last
]

step_of_running : (id : ℕ) (o : Option Runner) (r : Runner) → o ≡ Some r → IsAmong (StepOf id) (step_if_running id o)
step_of_running id o r is = grind (arith, nat_tests)

has_step : (n id : ℕ) (slots : List Slot) (r : Runner) → runner_at id slots ≡ Some r → 0 < id → id ≤ n → IsAmong (StepOf id) (steps_up_to n slots)
has_step zero id slots r runs some within = absurd (omega arith)
has_step (suc n) id slots r runs some within =
    elim (nat_eq id (suc n)) as (λ b. nat_eq id (suc n) ≡ b → IsAmong (StepOf id) (steps_up_to (suc n) slots)) [
      | true ↦ λ e. in_second (StepOf id) (steps_up_to n slots) (step_if_running (suc n) (runner_at (suc n) slots))
          (subst (λ (k : ℕ). IsAmong (StepOf id) (step_if_running k (runner_at k slots))) (equal_numbers id (suc n) e)
          (step_of_running id (runner_at id slots) r runs))
      | false ↦ λ e. let other : id ≢ suc n = differ id (suc n) e in
          in_first (StepOf id) (steps_up_to n slots) (step_if_running (suc n) (runner_at (suc n) slots)) (has_step n id slots r runs some (omega arith))
    ] refl

-- ---- moves

pub step_is_move : (p : Place) (id : ℕ) (r : Runner) → runner_at id p.world.runners ≡ Some r → IsAmong (StepOf id) (moves p)
step_is_move p id r runs = grind (arith, nat_tests, runner_there, in_first, has_step)

is_other : (others : List WorldEvent) (m : Move) → IsAmong m (next_other others) → m ≡ Other
is_other others m a = grind (arith, nat_tests)

some_other : (others : List WorldEvent) (m : Move) → IsAmong m (next_other others) → (e : WorldEvent) × (es : List WorldEvent) × (others ≡ e ∷ es)
some_other others m a = grind (arith, nat_tests)

pub other_is_move : (p : Place) (e : WorldEvent) (es : List WorldEvent) → p.others ≡ e ∷ es → IsAmong Other (moves p)
other_is_move p e es is = grind (arith, nat_tests, in_second, IsAmong)

step_is_no_other : (id : ℕ) → StepOf id ≡ Other → ⊥
step_is_no_other id is = cc

same_step : (id other : ℕ) → StepOf id ≡ StepOf other → id ≡ other
same_step id other is = cc

step_runs : (p : Place) (id : ℕ) → IsAmong (StepOf id) (moves p) → (r : Runner) × (runner_at id p.world.runners ≡ Some r)
step_runs p id a = elim (in_either (StepOf id) (steps_up_to (length p.world.runners) p.world.runners) (next_other p.others) a) [
  | inl step ↦ let s = is_step (length p.world.runners) p.world.runners (StepOf id) step in
      (s.runner, ap (λ (k : ℕ). runner_at k p.world.runners) (same_step id s.id s.is) ∙ s.runs)
  | inr other ↦ absurd (step_is_no_other id (is_other p.others (StepOf id) other))
]

other_left : (p : Place) → IsAmong Other (moves p) → (e : WorldEvent) × (es : List WorldEvent) × (p.others ≡ e ∷ es)
other_left p a = elim (in_either Other (steps_up_to (length p.world.runners) p.world.runners) (next_other p.others) a) [
  | inl step ↦ let s = is_step (length p.world.runners) p.world.runners Other step in absurd (step_is_no_other s.id (sym s.is))
  | inr other ↦ some_other p.others Other other
]

pub moves_are_those : MovesAreThose
moves_are_those = grind (arith, nat_tests, step_runs, among, contained, step_is_move, other_left, other_is_move)

-- ---- their order

-- each move stands before those after it
abbrev pub Ascend : List Move → Type 0
Ascend [] = Unit {0}
Ascend (m ∷ ms) = ((o : Move) → IsAmong o ms → IsBefore m o) × Ascend ms

ascend_joined : (first second : List Move) → Ascend first → Ascend second → ((a b : Move) → IsAmong a first → IsAmong b second → IsBefore a b) →
    Ascend (first ++ second)
ascend_joined [] second up_first up_second across = up_second
ascend_joined (m ∷ first) second up_first up_second across = (
  λ o a. elim (in_either o first second a) [
    | inl left ↦ up_first.0 o left
    | inr right ↦ across m o (inl refl) right
  ],
  ascend_joined first second up_first.1 up_second (λ a b left right. across a b (inr left) right),
)

numbers_ascend : (a b : Move) (i j : ℕ) → a ≡ StepOf i → b ≡ StepOf j → i < j → IsBefore a b
numbers_ascend a b i j is_a is_b less = grind (arith, nat_tests)

one_step_ascends : (id : ℕ) (o : Option Runner) → Ascend (step_if_running id o)
one_step_ascends id o = grind (arith, nat_tests)

its_number : (id : ℕ) (o : Option Runner) (m : Move) → IsAmong m (step_if_running id o) → m ≡ StepOf id
its_number id o m a = grind (arith, nat_tests)

steps_ascend : (n : ℕ) (slots : List Slot) → Ascend (steps_up_to n slots)
steps_ascend zero slots = tt
steps_ascend (suc n) slots =
    ascend_joined (steps_up_to n slots) (step_if_running (suc n) (runner_at (suc n) slots)) (steps_ascend n slots)
    (one_step_ascends (suc n) (runner_at (suc n) slots))
    (λ a b left right. let s = is_step n slots a left in let within : s.id ≤ n = s.within in
    numbers_ascend a b s.id (suc n) s.is (its_number (suc n) (runner_at (suc n) slots) b right) (omega arith))

steps_first : (a b : Move) (i : ℕ) → a ≡ StepOf i → b ≡ Other → IsBefore a b
steps_first a b i is_a is_b = subst (λ (m : Move). IsBefore m b) (sym is_a) (subst (λ (m : Move). IsBefore (StepOf i) m) (sym is_b) tt)

pub moves_ascend : (p : Place) → Ascend (moves p)
moves_ascend p = grind (arith, nat_tests, ascend_joined, steps_ascend, is_step, steps_first, is_other)

pub not_both : (a b : Move) → IsBefore a b → IsBefore b a → ⊥
not_both a b one other = grind (arith, nat_tests)

-- ---- what is found first

-- something was found at one of these moves, and nothing at those before it
pub record FoundFirst {B : Type 0} (f : Move → Option B) (ms : List Move) (y : B) : Type 0 where
  pub move : Move
  pub is_among : IsAmong move ms
  pub gives : f move ≡ Some y
  pub before : (o : Move) → IsAmong o ms → IsBefore o move → f o ≡ None

found_later : {B : Type 0} (f : Move → Option B) (m : Move) (ms : List Move) (y : B) → f m ≡ None → FoundFirst f ms y → FoundFirst f (m ∷ ms) y
found_later f m ms y none rest = grind (arith, nat_tests)

found_by : {B : Type 0} (f : Move → Option B) (m : Move) (ms : List Move) (y : B) (o rest : Option B) → Ascend (m ∷ ms) → f m ≡ o →
    (rest ≡ Some y → FoundFirst f ms y) → option_or o rest ≡ Some y → FoundFirst f (m ∷ ms) y
found_by f m ms y o rest up here later is = grind (arith, nat_tests, found_later, not_both)

pub found_first : {B : Type 0} (f : Move → Option B) (ms : List Move) (y : B) → Ascend ms → first_of f ms ≡ Some y → FoundFirst f ms y
found_first f [] y up is = absurd (cc)
found_first f (m ∷ ms) y up is = found_by f m ms y (f m) (first_of f ms) up refl (λ later. found_first f ms y up.1 later) is
