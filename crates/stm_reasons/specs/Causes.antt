-- Which event changed a key, and how.
use Rattle.std.specs.Prelude.{ℕ, zero, suc, ◌-◌, min, Bool, true, false, nat_le, nat_lt, if◌then◌else◌, List, get_or, slice_get, Option, Some, None}
use Rattle.std.specs.Prelude.{Result, Ok, Err}
use Rattle.stm_history.specs.declared.key_state.KeyState.{KeyState}
use Rattle.stm_history.specs.History.{History, now, key_at}
use Rattle.stm_keys.specs.NextChange.{next_change}
use Rattle.stm_events.specs.declared.reply.Reply.{Reply}
use Rattle.stm_events.specs.declared.reply.Reply.TheVariants.{Revoked, Advanced}
use Rattle.stm_events.specs.declared.refusal.Denied.{Denied}
use Rattle.stm_reasons.specs.declared.reason.Cause.{Cause}
use Rattle.stm_reasons.specs.declared.reason.Deed.{Deed}
use Rattle.stm_reasons.specs.declared.reason.Deed.TheVariants.{Put, Deleted, Ended}

-- what a key is at a revision, at one that is yet to come what it is now
abbrev pub state_by : History → List ℕ → ℕ → Option KeyState
state_by h key revision = key_at h key (min revision (now h))

-- ---- the change

abbrev pub if_by : ℕ → Option ℕ → Option ℕ
if_by last None = None
if_by last (Some revision) = if nat_le revision last then Some revision else None

-- The first revision above one, and up to another, that changes a key. Where the revisions above the first are no longer kept, nothing is said.
abbrev pub first_change : History → List ℕ → ℕ → ℕ → Option ℕ
first_change h key above last = if nat_lt above h.opening.number then None else if_by last (next_change h key above)

-- ---- the event that made it

-- Among that many events the one that made a revision: the last one before which it was not there yet.
abbrev pub maker : List ℕ → ℕ → ℕ → ℕ
maker counters revision zero = 0
maker counters revision (suc before) =
    if nat_lt (get_or counters before 0) revision then suc before else maker counters revision before

-- ---- what it did

-- a revocation and an advance end leases, and do nothing else; so does an advance that was refused on its way
abbrev pub ends_leases : Option (Result Reply Denied) → Bool
ends_leases None = false
ends_leases (Some (Ok (Revoked id revision))) = true
ends_leases (Some (Ok (Advanced moment expired))) = true
ends_leases (Some (Ok other)) = false
ends_leases (Some (Err denied)) = true

-- the lease of a key's state, 0 where it has none
abbrev pub lease_of : Option KeyState → ℕ
lease_of None = 0
lease_of (Some s) = s.lease

-- the event with this reply put the key, whose state was one and is another, deleted it, or ended its lease
abbrev pub deed : Option (Result Reply Denied) → Option KeyState → Option KeyState → Deed
deed reply before (Some s) = Put
deed reply before None = if ends_leases reply then Ended (lease_of before) else Deleted

abbrev pub cause_at : History → List ℕ → List (Result Reply Denied) → ℕ → ℕ → Cause
cause_at h key replies number revision = record {
  event = number;
  revision = revision;
  deed = deed (slice_get replies (number - 1)) (state_by h key (revision - 1)) (state_by h key revision);
}

abbrev pub cause_by : History → List ℕ → List ℕ → List (Result Reply Denied) → ℕ → Option ℕ → Option Cause
cause_by h key counters replies before None = None
cause_by h key counters replies before (Some revision) = Some (cause_at h key replies (maker counters revision before) revision)

-- The first change of a key since a revision, among that many events: the event that made it, its revision, and what it did.
abbrev pub cause : History → List ℕ → List ℕ → List (Result Reply Denied) → ℕ → ℕ → Option Cause
cause h key counters replies since before =
    cause_by h key counters replies before (first_change h key since (get_or counters before 0))
