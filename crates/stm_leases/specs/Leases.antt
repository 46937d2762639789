-- What contracts see of `Leases`: the live leases, the attached keys, and how many attaches have room.
use Rattle.std.specs.Prelude.{◌≡◌, ℕ, IsTrue, List, Option, Some, refl}
use Rattle.std.specs.Ordering.{nat_cmp}
use Rattle.std.specs.Cmp.Lexicographic.{slice_cmp}
use Rattle.std.specs.Coded.{Coded, code_by, coded×, coded_ℕ, coded_list}
use Rattle.std.specs.FinMap as map
use Rattle.stm_leases.specs.LeaseLog.{LogItem, Term, term_of}
use Rattle.stm_leases.specs.Live.{Live, is_live_in}
use Rattle.stm_leases.specs.AttachedKeys.{Attached}

-- the live leases by id, the lease of each attached key by the key's bytes, and how many
-- attaches are certain of their room
pub record Leases : Type 0 where
  pub live : Live
  pub attached : Attached
  pub spare : ℕ

-- a lease is stored as the pair of its numbers, and the leases as the tuple of their fields
abbrev pub term_code : Coded Term
term_code =
    code_by (ℕ × ℕ) (coded× coded_ℕ coded_ℕ) (λ t. (t.ttl, t.renewed)) (λ p. record { ttl = p.0; renewed = p.1 }) (λ _. refl)

abbrev pub leases_code : Coded Leases
leases_code =
    code_by
    (map.FinMap nat_cmp Term × (map.FinMap (slice_cmp nat_cmp) ℕ × ℕ))
    (coded× (map.code coded_ℕ term_code) (coded× (map.code (coded_list coded_ℕ) coded_ℕ) coded_ℕ))
    (λ s. (s.live, (s.attached, s.spare)))
    (λ p. record { live = p.0; attached = p.1.0; spare = p.1.1 })
    (λ _. refl)

-- the id is that of a live lease
abbrev pub IsLive : Leases → ℕ → Type 0
IsLive s id = IsTrue (is_live_in s.live id)

-- the lease that a key is attached to, if it is attached to one
abbrev pub lease_of : Leases → List ℕ → Option ℕ
lease_of s key = map.get s.attached key

-- each attached key is attached to a live lease
abbrev pub AttachedToLive : Leases → Type 0
AttachedToLive s = (key : List ℕ) (id : ℕ) → lease_of s key ≡ Some id → IsLive s id

-- the live ids, their times to live and their renewals are those after the log
abbrev pub StandsFor : Live → List LogItem → Type 0
StandsFor live log = (id : ℕ) → map.get live id ≡ term_of log id
