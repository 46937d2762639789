-- How keys move between leases, one after another. No public clause cites this module.
use Rattle.std.specs.Prelude.{◌≡◌, ℕ, true, false, bytes_eq, if◌then◌else◌, List, [], ◌∷◌, Option, Some, None}
use Rattle.std.specs.FinMap as finmap
use Rattle.stm_history.specs.declared.change.Change.{Change}
use Rattle.stm_history.specs.History.{key_of}
use Rattle.stm_leases.specs.Live.{Live}

-- where a key is attached once the keys of changes are detached, the first one first
abbrev pub detached_all : List Change → List ℕ → Option ℕ → Option ℕ
detached_all [] key before = before
detached_all (c ∷ cs) key before = detached_all cs key (if bytes_eq (key_of c) key then None else before)

-- where a key is attached once one key is attached to a lease
abbrev pub attached_one : List ℕ × ℕ → List ℕ → Option ℕ → Option ℕ
attached_one attach key before = if bytes_eq attach.0 key then Some attach.1 else before

abbrev pub attached_all : List (List ℕ × ℕ) → List ℕ → Option ℕ → Option ℕ
attached_all [] key before = before
attached_all (attach ∷ rest) key before = attached_all rest key (attached_one attach key before)

-- a key is not among those that are to be attached
abbrev pub IsLoose : List ℕ → List (List ℕ × ℕ) → Type 0
IsLoose key [] = Unit {0}
IsLoose key (attach ∷ rest) = (bytes_eq key attach.0 ≡ false) × IsLoose key rest

-- the keys are distinct and attached to no lease, and their leases are live
abbrev pub CanAttach : (List ℕ → Option ℕ) → Live → List (List ℕ × ℕ) → Type 0
CanAttach lease_of live [] = Unit {0}
CanAttach lease_of live (attach ∷ rest) =
    (lease_of attach.0 ≡ None) × (finmap.contains_key live attach.1 ≡ true) × IsLoose attach.0 rest × CanAttach lease_of live rest
