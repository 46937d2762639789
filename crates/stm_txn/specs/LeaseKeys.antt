-- The keys of a lease, as a list that is computed from the history.
--
-- etcd's API reference, "Lease": the keys of a lease are those whose last put named it. That they are returned ascending by
-- bytes is this store's own choice.
use Rattle.std.specs.Prelude.{ℕ, List, [], ◌∷◌, map, filter}
use Rattle.std.specs.Ordering.{nat_cmp}
use Rattle.std.specs.Cmp.Lexicographic.{slice_cmp}
use Rattle.std.specs.declared.cmp.Ordering.TheVariants.{Less, Equal, Greater}
use Rattle.stm_history.specs.declared.change.Change.{Change}
use Rattle.stm_history.specs.declared.change.Change.TheVariants.{Del}
use Rattle.stm_history.specs.Cut.{keys_named as named_by}
use Rattle.stm_history.specs.History.{History}
use Rattle.stm_leases.specs.AttachedKeys.{is_on}
use Rattle.stm_txn.specs.Leasing.{lease_now}

-- one more key among ascending ones
abbrev pub with_key : List ℕ → List (List ℕ) → List (List ℕ)
with_key key [] = key ∷ []
with_key key (k ∷ ks) = elim (slice_cmp nat_cmp key k) [ Less ↦ key ∷ (k ∷ ks) | Equal ↦ k ∷ ks | Greater ↦ k ∷ with_key key ks ]

-- these keys, each once, ascending by bytes
abbrev pub in_order : List (List ℕ) → List (List ℕ)
in_order [] = []
in_order (key ∷ keys) = with_key key (in_order keys)

-- the keys that a history names, ascending by bytes
abbrev pub keys_named : History → List (List ℕ)
keys_named h = in_order (named_by h)

-- the keys that are attached to a lease now, ascending by bytes
abbrev pub keys_of_lease : History → ℕ → List (List ℕ)
keys_of_lease h id = filter (λ key. is_on id (lease_now h key)) (keys_named h)

-- their deletions
abbrev pub deletions_of : History → ℕ → List Change
deletions_of h id = map Del (keys_of_lease h id)
