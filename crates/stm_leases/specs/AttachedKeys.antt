-- Which keys are attached to a lease.
--
-- etcd's API reference, "Lease": a key is attached to one lease at most. That its keys are returned ascending by bytes is this
-- store's own choice.
use Rattle.std.specs.Prelude.{◌≡◌, ◌↔◌, ℕ, Bool, false, nat_eq, List, [], ◌∷◌, Option, Some, None, Contains}
use Rattle.std.specs.Ordering.{nat_cmp}
use Rattle.std.specs.Cmp.Lexicographic.{slice_cmp}
use Rattle.std.specs.declared.cmp.Ordering.TheVariants.{Less}
use Rattle.std.specs.FinMap as finmap

-- the lease that each attached key is attached to, by the key's bytes
abbrev pub Attached : Type 0
Attached = finmap.FinMap (slice_cmp nat_cmp) ℕ

-- what a key is attached to is this lease
abbrev pub is_on : ℕ → Option ℕ → Bool
is_on id None = false
is_on id (Some lease) = nat_eq lease id

-- the keys that are attached to a lease, ascending by bytes
abbrev pub keys_on : Attached → ℕ → List (List ℕ)
keys_on attached id = finmap.keys (finmap.retain_keys attached (λ key. is_on id (finmap.get attached key)))

-- each text stands before the next by bytes
abbrev pub IsAscending : List (List ℕ) → Type 0
IsAscending [] = Unit {0}
IsAscending (key ∷ []) = Unit {0}
IsAscending (key ∷ (next ∷ rest)) = (slice_cmp nat_cmp key next ≡ Less) × IsAscending (next ∷ rest)

-- these are the keys that are attached to a lease, ascending by bytes, by a function from each key to its lease
pub record AreKeysOf (lease_of : List ℕ → Option ℕ) (id : ℕ) (keys : List (List ℕ)) : Type 0 where
  pub ascending : IsAscending keys
  pub each : (key : List ℕ) → Contains keys key ↔ (lease_of key ≡ Some id)

-- a key is attached to the lease
abbrev pub HasKeys : (List ℕ → Option ℕ) → ℕ → Type 0
HasKeys lease_of id = (key : List ℕ) × (lease_of key ≡ Some id)
