-- How the tournament of due leases is played. No public clause cites this module.
use Rattle.std.specs.Prelude.{◌≡◌, ◌≢◌, ℕ, ◌+◌, ◌*◌, ◌<◌, ◌≤◌, nat_lt, nat_eq, ◌&&◌, ◌||◌, List, length, slice_index_or, Option, Some, None, if◌then◌else◌}
use Rattle.stm_leases.specs.declared.tournament.DueAt.{DueAt}
use Rattle.stm_leases.specs.declared.tournament.Tournament.{Tournament}

-- the earlier of two, and of two at one moment the one with the lesser id
abbrev pub first_of : DueAt → DueAt → DueAt
first_of one other =
    if nat_lt other.moment one.moment || (nat_eq other.moment one.moment && nat_lt other.id one.id) then other else one

abbrev pub winner : Option DueAt → Option DueAt → Option DueAt
winner None other = other
winner (Some one) None = Some one
winner (Some one) (Some other) = Some (first_of one other)

abbrev pub node_in : List (Option DueAt) → ℕ → Option DueAt
node_in nodes k = slice_index_or nodes k None

-- every inner node, perhaps but one, holds the winner of its children
pub record ArePlayedBut (nodes : List (Option DueAt)) (slots but : ℕ) : Type 0 where
  pub size : length nodes ≡ 2 * slots
  pub won : (k : ℕ) → 1 ≤ k → k < slots → k ≢ but → node_in nodes k ≡ winner (node_in nodes (2 * k)) (node_in nodes (2 * k + 1))

abbrev pub IsPlayedBut : Tournament → ℕ → Type 0
IsPlayedBut t but = ArePlayedBut t.nodes.items t.slots but

-- there is no node 0, so every inner node is played
abbrev pub IsPlayed : Tournament → Type 0
IsPlayed t = ArePlayedBut t.nodes.items t.slots 0

-- what a slot holds
abbrev pub slot_of : Tournament → ℕ → Option DueAt
slot_of t slot = node_in t.nodes.items (t.slots + slot)

-- one falls due no later than another, and of two at one moment has no greater id
abbrev pub NoLater : DueAt → DueAt → Type 0
NoLater one other = (one.moment ≤ other.moment) × (one.moment ≡ other.moment → one.id ≤ other.id)

-- it stands in a slot, and no later than what any other slot holds
pub record Leads (t : Tournament) (first : DueAt) : Type 0 where
  pub slot : ℕ
  pub stands : slot_of t slot ≡ Some first
  pub leads : (other : ℕ) (d : DueAt) → slot_of t other ≡ Some d → NoLater first d
