-- What a search goes through: places, the moves that can be made at each, where each move leads to, whether a place keeps a rule, and what it shows.
--
-- Nothing here knows what a place is.
use Rattle.std.specs.Prelude.{◌≡◌, ℕ, zero, suc, ◌+◌, Bool, true, if◌then◌else◌, List, [], ◌∷◌, Option, None, Some, option_map, Contains}
use Rattle.std.specs.List.{list_any, flat_map}
use Rattle.std.specs.Option.{option_or}

-- the moves at a place in their order, the place that a move leads to, whether a place keeps the rule, and what it shows
pub record Steps (P M O : Type 0) : Type 0 where
  pub moves : P → List M
  pub after : M → P → P
  pub keeps : P → Bool
  pub shows : P → O

-- these moves can be made one after another from a place, and lead to this one
abbrev pub Leads : {P M O : Type 0} → Steps P M O → List M → P → P → Type 0
Leads s [] p q = q ≡ p
Leads s (m ∷ ms) p q = Contains (s.moves p) m × Leads s ms (s.after m p) q

-- the first thing that is found at one of these
abbrev pub first_of : {A B : Type 0} → (A → Option B) → List A → Option B
first_of f [] = None
first_of f (x ∷ xs) = option_or (f x) (first_of f xs)

-- the first schedule of exactly n moves that does not keep the rule
abbrev pub bad_at : {P M O : Type 0} → Steps P M O → ℕ → P → Option (List M)
bad_at s zero p = if s.keeps p then None else Some []
bad_at {P} {M} {O} s (suc n) p = first_of (λ m. option_map (λ (ms : List M). m ∷ ms) (bad_at s n (s.after m p))) (s.moves p)

-- the first schedule of up to n moves that does not keep it
abbrev pub first_bad : {P M O : Type 0} → Steps P M O → ℕ → P → Option (List M)
first_bad s zero p = bad_at s zero p
first_bad s (suc n) p = option_or (first_bad s n p) (bad_at s (suc n) p)

-- whether some schedule has n moves
abbrev pub goes_on : {P M O : Type 0} → Steps P M O → ℕ → P → Bool
goes_on s zero p = true
goes_on s (suc n) p = list_any (λ m. goes_on s n (s.after m p)) (s.moves p)

-- what a place shows where these moves can be made: it is asked where there are none
abbrev pub if_whole : {M O : Type 0} → List M → O → List O
if_whole [] it = it ∷ []
if_whole (m ∷ ms) it = []

-- what whole schedules of exactly n moves come to, in the order of the schedules
abbrev pub shown_at : {P M O : Type 0} → Steps P M O → ℕ → P → List O
shown_at s zero p = if_whole (s.moves p) (s.shows p)
shown_at s (suc n) p = flat_map (λ m. shown_at s n (s.after m p)) (s.moves p)

-- ---- how many there are

-- what is counted at these
abbrev pub total : {A : Type 0} → (A → ℕ) → List A → ℕ
total f [] = 0
total f (x ∷ xs) = f x + total f xs

-- how many schedules have exactly n moves
abbrev pub count_at : {P M O : Type 0} → Steps P M O → ℕ → P → ℕ
count_at s zero p = 1
count_at s (suc n) p = total (λ m. count_at s n (s.after m p)) (s.moves p)

-- how many have at least one move, and up to n
abbrev pub count_up_to : {P M O : Type 0} → Steps P M O → ℕ → P → ℕ
count_up_to s zero p = 0
count_up_to s (suc n) p = count_up_to s n p + count_at s (suc n) p
