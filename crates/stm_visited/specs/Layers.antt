-- Layers: the places after k moves, of alike ones the first.
use Rattle.std.specs.Prelude.{◌≡◌, ◌↔◌, ◌≤◌, ℕ, suc, ◌+◌, Bool, List, [], ◌∷◌, ◌++◌, map, length, Option, option_map, Contains}
use Rattle.std.specs.List.{list_any, flat_map}
use Rattle.stm_visited.specs.Search.{Steps, Leads, first_of, bad_at, goes_on, shown_at, total, count_at}

-- a place, and the moves by which it was reached
pub record Reached (P M : Type 0) : Type 0 where
  pub place : P
  pub path : List M

-- the first schedule of the path to a place and n moves more that does not keep the rule
abbrev pub bad_from : {P M O : Type 0} → Steps P M O → ℕ → Reached P M → Option (List M)
bad_from {P} {M} {O} s n r = option_map (λ (ms : List M). r.path ++ ms) (bad_at s n r.place)

-- the first of those of these places
abbrev pub bad_among : {P M O : Type 0} → Steps P M O → ℕ → List (Reached P M) → Option (List M)
bad_among s n rs = first_of (bad_from s n) rs

-- whether n moves more can be made at one of these
abbrev pub on_among : {P M O : Type 0} → Steps P M O → ℕ → List (Reached P M) → Bool
on_among {P} {M} {O} s n rs = list_any (λ (r : Reached P M). goes_on s n r.place) rs

-- what whole schedules of n moves more come to at these
abbrev pub shown_among : {P M O : Type 0} → Steps P M O → ℕ → List (Reached P M) → List O
shown_among {P} {M} {O} s n rs = flat_map (λ (r : Reached P M). shown_at s n r.place) rs

-- how many schedules of n moves begin at these
abbrev pub count_among : {P M O : Type 0} → Steps P M O → ℕ → List (Reached P M) → ℕ
count_among {P} {M} {O} s n rs = total (λ (r : Reached P M). count_at s n r.place) rs

-- These places stand for those, and are some of them: the same first schedules break the rule, as many moves can be made, whole schedules come to the
-- same, and they are no more.
pub record StandFor (P M O : Type 0) (s : Steps P M O) (rs others : List (Reached P M)) : Type 0 where
  pub among : (r : Reached P M) → Contains rs r → Contains others r
  pub bad : (n : ℕ) → bad_among s n rs ≡ bad_among s n others
  pub on : (n : ℕ) → on_among s n rs ≡ on_among s n others
  pub shown : (n : ℕ) (it : O) → Contains (shown_among s n rs) it ↔ Contains (shown_among s n others) it
  pub fewer : (n : ℕ) → count_among s n rs ≤ count_among s n others

-- where one move leads to
abbrev pub reached_by : {P M O : Type 0} → Steps P M O → Reached P M → M → Reached P M
reached_by s r m = record { place = s.after m r.place; path = r.path ++ m ∷ [] }

-- where these moves lead to, in their order
abbrev pub reached_by_each : {P M O : Type 0} → Steps P M O → Reached P M → List M → List (Reached P M)
reached_by_each s r ms = map (reached_by s r) ms

-- where one move more leads to
abbrev pub moved_from : {P M O : Type 0} → Steps P M O → Reached P M → List (Reached P M)
moved_from s r = reached_by_each s r (s.moves r.place)

abbrev pub moved_from_each : {P M O : Type 0} → Steps P M O → List (Reached P M) → List (Reached P M)
moved_from_each s rs = flat_map (moved_from s) rs

-- ---- moves that are enough

-- Some of the moves at a place are enough: where these lead to stands for where all of them lead to. There may be several such choices, so this is what is
-- asked of one.
pub record AreEnough (P M O : Type 0) (s : Steps P M O) (p : P) (few : List M) : Type 0 where
  pub among : (m : M) → Contains few m → Contains (s.moves p) m
  pub bad : (n : ℕ) → first_of (λ m. option_map (λ (ms : List M). m ∷ ms) (bad_at s n (s.after m p))) few ≡ bad_at s (suc n) p
  pub on : (n : ℕ) → list_any (λ m. goes_on s n (s.after m p)) few ≡ goes_on s (suc n) p
  pub shown : (n : ℕ) (it : O) → Contains (flat_map (λ m. shown_at s n (s.after m p)) few) it ↔ Contains (shown_at s (suc n) p) it
  pub fewer : (n : ℕ) → total (λ m. count_at s n (s.after m p)) few ≤ count_at s (suc n) p

-- The layer of k moves: what its places and n moves more come to is what k + n moves from the start come to, and there are no more schedules of these.
-- The path to each place leads there.
pub record IsLayer (P M O : Type 0) (s : Steps P M O) (start : P) (k : ℕ) (rs : List (Reached P M)) : Type 0 where
  pub led : (r : Reached P M) → Contains rs r → Leads s r.path start r.place × (length r.path ≡ k)
  pub bad : (n : ℕ) → bad_among s n rs ≡ bad_at s (k + n) start
  pub on : (n : ℕ) → on_among s n rs ≡ goes_on s (k + n) start
  pub shown : (n : ℕ) (it : O) → Contains (shown_among s n rs) it ↔ Contains (shown_at s (k + n) start) it
  pub fewer : (n : ℕ) → count_among s n rs ≤ count_at s (k + n) start

-- ---- laws

-- The start is the layer of no moves; where one move more leads to from a layer is the next one, and so is what stands for it; and a place
-- that is alike to one of others adds nothing to them.
pub record LayersGoOn (P M O : Type 0) (s : Steps P M O) (Alike : P → P → Type 0) : Type 0 where
  pub opens : (start : P) → IsLayer P M O s start 0 (record { place = start; path = [] } ∷ [])
  pub next : (start : P) (k : ℕ) (rs next : List (Reached P M)) → IsLayer P M O s start k rs → StandFor P M O s next (moved_from_each s rs)
      → IsLayer P M O s start (suc k) next
  pub stands : (rs : List (Reached P M)) → StandFor P M O s rs rs
  pub enough : (others : List (Reached P M)) (r : Reached P M) (few : List M) → AreEnough P M O s r.place few
      → StandFor P M O s (others ++ reached_by_each s r few) (others ++ moved_from s r)
  pub added : (rs others more : List (Reached P M)) → StandFor P M O s rs others → StandFor P M O s (rs ++ more) (others ++ more)
  pub skipped : (rs others : List (Reached P M)) (r seen : Reached P M) → StandFor P M O s rs others → Contains rs seen → Alike r.place seen.place
      → StandFor P M O s rs (others ++ r ∷ [])
