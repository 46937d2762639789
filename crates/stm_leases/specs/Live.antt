-- The live leases, and which grants are refused.
use Rattle.std.specs.Prelude.{◌≡◌, ℕ, Bool, IsTrue, ◌&&◌, nat_le, Option, Some, None, if◌then◌else◌, not}
use Rattle.std.specs.Ordering.{nat_cmp}
use Rattle.std.specs.FinMap as finmap
use Rattle.stm_leases.specs.LeaseLog.{Term}
use Rattle.stm_leases.specs.declared.bounds.TheConstants.{HIGHEST_ID, HIGHEST_TTL}
use Rattle.stm_leases.specs.declared.errors.GrantError.{GrantError}
use Rattle.stm_leases.specs.declared.errors.GrantError.TheVariants.{LeaseIdOutOfRange, TtlOutOfRange, LeaseExists}

-- the live leases by id
abbrev pub Live : Type 0
Live = finmap.FinMap nat_cmp Term

-- whether an id is that of a live lease
abbrev pub is_live_in : Live → ℕ → Bool
is_live_in live id = finmap.contains_key live id

-- ids and times to live have these ranges
abbrev pub is_id : ℕ → Bool
is_id id = nat_le 1 id && nat_le id HIGHEST_ID

abbrev pub is_ttl : ℕ → Bool
is_ttl ttl = nat_le 1 ttl && nat_le ttl HIGHEST_TTL

-- each live id and its time to live are in range
abbrev pub AreInRange : Live → Type 0
AreInRange live = (id : ℕ) (term : Term) → finmap.get live id ≡ Some term → IsTrue (is_id id) × IsTrue (is_ttl term.ttl)

-- why a grant is refused, other than for memory: the first cause that holds
abbrev pub grant_refusal : Live → ℕ → ℕ → Option GrantError
grant_refusal live id ttl =
    if not (is_id id) then Some LeaseIdOutOfRange
    else if not (is_ttl ttl) then Some TtlOutOfRange
    else if is_live_in live id then Some LeaseExists
    else None
