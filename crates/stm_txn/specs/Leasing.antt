-- The keys that are attached to leases.
--
-- etcd's API reference, "Lease": a key is attached to at most one lease, the one of its last put.
use Rattle.std.specs.Prelude.{◌≡◌, ℕ, true, nat_eq, if◌then◌else◌, List, [], ◌∷◌, Option, Some, None}
use Rattle.std.specs.FinMap as finmap
use Rattle.stm_history.specs.declared.change.Change.{Change}
use Rattle.stm_history.specs.declared.change.Change.TheVariants.{Put, Del}
use Rattle.stm_history.specs.declared.key_state.KeyState.{KeyState}
use Rattle.stm_history.specs.History.{History, key_now, key_of}
use Rattle.stm_leases.specs.Live.{Live}

-- the lease of a put, nothing for 0
abbrev pub lease_named : ℕ → Option ℕ
lease_named lease = if nat_eq lease 0 then None else Some lease

-- the lease that a key is attached to, by its state
abbrev pub attaching : Option KeyState → Option ℕ
attaching None = None
attaching (Some s) = lease_named s.lease

-- the lists of keys are those of the state: each key is attached where its state says
abbrev pub AttachedAsStored : (List ℕ → Option ℕ) → History → Type 0
AttachedAsStored lease_of h = (key : List ℕ) → lease_of key ≡ attaching (key_now h key)

-- the lease that a key is attached to now
abbrev pub lease_now : History → List ℕ → Option ℕ
lease_now h key = attaching (key_now h key)

-- where a change leaves its key hanging
abbrev pub attached_by : Change → Option ℕ
attached_by (Put key value lease) = lease_named lease
attached_by (Del key) = None

-- where a change of a key, or none, leaves the key hanging
abbrev pub attached_after : Option Change → Option ℕ → Option ℕ
attached_after None before = before
attached_after (Some c) before = attached_by c

-- one more key with its lease, where it has one
abbrev pub with_attach : List ℕ → Option ℕ → List (List ℕ × ℕ) → List (List ℕ × ℕ)
with_attach key None rest = rest
with_attach key (Some id) rest = (key, id) ∷ rest

-- the keys that changes attach to a lease, with the lease of each, in the order of the changes
abbrev pub attached_of : List Change → List (List ℕ × ℕ)
attached_of [] = []
attached_of (c ∷ cs) = with_attach (key_of c) (attached_by c) (attached_of cs)

-- each of these leases is live
abbrev pub AttachedToLive : Live → List (List ℕ × ℕ) → Type 0
AttachedToLive live [] = Unit {0}
AttachedToLive live (attach ∷ rest) = (finmap.contains_key live attach.1 ≡ true) × AttachedToLive live rest
