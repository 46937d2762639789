-- Job numbers that threads draw: what each seat knows, the rule of the counter that they share, and what each step leaves.
--
-- Word 0 counts draws. A draw that finds a number below `jobs` there has drawn that job; one that finds a higher number has passed,
-- and costs its seat one of the passes that it had left. All seats together have `seats` passes, so the counter stays below 2^64.
use Rattle.std.specs.Prelude.{◌≡◌, ℕ, ◌+◌, ◌-◌, ◌<◌, ◌≤◌, ◌==◌, ltb, min, cond, List, [], ◌∷◌, ◌++◌, length, slice_index, sum_by, count_by}
use mathlib.Core.Option.{some}
use lib.ListN.{get_elem?}
use Rattle.atomic_table.specs.Table.{State, Me, Step}
use Rattle.stm_job.specs.declared.drawing.view.Size.{Size}
use Rattle.stm_job.specs.declared.drawing.view.View.{View}

-- how often a number stands in a list
abbrev pub times : ℕ → List ℕ → ℕ
times x numbers = count_by (λ y. y == x) numbers

-- 1 for a number below n, 0 for any other
abbrev pub once_below : ℕ → ℕ → ℕ
once_below n x = cond (ltb x n) 1 0

-- the numbers of the list are those below n, each once and none left out
abbrev pub EachOnce : ℕ → List ℕ → Type 0
EachOnce n numbers = (x : ℕ) → times x numbers ≡ once_below n x

abbrev pub size_of : ℕ → ℕ → Size
size_of jobs seats = record { jobs = jobs; seats = seats }

-- how many draws there were
abbrev pub counter : State (Unit {0}) View → ℕ
counter s = slice_index s.words 0

-- how many of them found a job
abbrev pub found_in : Size → State (Unit {0}) View → ℕ
found_in size s = min (counter s) size.jobs

-- the rule, between any two steps
pub record Dealt (size : Size) (s : State (Unit {0}) View) : Type 0 where
  pub one_word : length s.words ≡ 1
  -- what all seats have drawn are the jobs that were found, each once
  pub each_once : (x : ℕ) → sum_by (λ (v : View). times x v.drawn) s.views ≡ once_below (found_in size s) x
  -- the other draws have passed
  pub used : sum_by (λ (v : View). v.past) s.views ≡ counter s - found_in size s
  -- all passes, used and left, are the table's
  pub all_passes : sum_by (λ (v : View). v.past + v.left) s.views ≡ size.seats
  -- a seat that has used no pass and has none left has drawn nothing
  pub idle : (id : ℕ) (v : View) → get_elem? s.views id ≡ some v → v.past + v.left ≡ 0 → v.drawn ≡ []

-- the first seat
abbrev pub newcomer : Size → View
newcomer size = record { size = size; drawn = []; past = 0; left = size.seats }

-- after a draw that found job k
abbrev pub drew : View → ℕ → View
drew v k = record { size = v.size; drawn = v.drawn ++ k ∷ []; past = v.past; left = v.left }

-- after a draw that found none
abbrev pub passed : View → View
passed v = record { size = v.size; drawn = v.drawn; past = v.past + 1; left = v.left - 1 }

-- after a draw that found this number
abbrev pub after_draw : View → ℕ → View
after_draw v found = cond (ltb found v.size.jobs) (drew v found) (passed v)

-- after a draw that is answered None: a seat with no pass left has not drawn
abbrev pub after_none : View → View
after_none v = cond (ltb 0 v.left) (passed v) v

-- what a seat keeps at a split, and what the new one has
abbrev pub kept : View → View
kept v = record { size = v.size; drawn = v.drawn; past = v.past; left = v.left - 1 }

abbrev pub fresh : Size → View
fresh size = record { size = size; drawn = []; past = 0; left = 1 }

abbrev pub given : View → View
given v = fresh v.size

-- two seats in one, and what is left of the second
abbrev pub joined : View → View → View
joined v w = record { size = v.size; drawn = v.drawn ++ w.drawn; past = v.past + w.past; left = v.left + w.left }

abbrev pub spent : View
spent = record { size = size_of 0 0; drawn = []; past = 0; left = 0 }

-- the seat has all passes, and has used one at least
abbrev pub IsWhole : View → Type 0
IsWhole v = (v.past + v.left ≡ v.size.seats) × (0 < v.past)

-- what each seat knows: its passes are among the table's, and where it has all of them and has used one, it has drawn every job once
abbrev pub Knows : View → Type 0
Knows v = (v.past + v.left ≤ v.size.seats) × (IsWhole v → EachOnce v.size.jobs v.drawn)

-- what is known after a draw that found this number
abbrev pub Draws : Step (Unit {0}) → Me (Unit {0}) View → ℕ → Me (Unit {0}) View → Type 0
Draws st before found after = (after ≡ (after_draw before.0 found, before.1)) × Knows (after_draw before.0 found)

-- what is known after a look at the counter
abbrev pub Looks : Step (Unit {0}) → Me (Unit {0}) View → ℕ → Me (Unit {0}) View → Type 0
Looks st before found after = (after ≡ before) × Knows before.0
