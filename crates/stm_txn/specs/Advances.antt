-- What an advance is, step by step, apart from how it is computed.
use Rattle.std.specs.Prelude.{◌≡◌, ℕ, ◌≤◌, List, [], ◌∷◌, Option, Some, None, Ok, Err}
use Rattle.stm_leases.specs.DueFirst.{NoneIsDue, IsNextDue}
use Rattle.stm_leases.specs.AttachedKeys.{AreKeysOf}
use Rattle.stm_history.specs.History.{History}
use Rattle.stm_outcome.specs.declared.advance.Expired.{Expired}
use Rattle.stm_outcome.specs.declared.refusal.Refusal.{Refusal}
use Rattle.stm_txn.specs.Leasing.{lease_now}
use Rattle.stm_txn.specs.LeaseKeys.{keys_of_lease}
use Rattle.stm_txn.specs.Standing.{Standing, ended, expired_in, at_moment, advanced}

-- Due leases end one after another, each the first that is due, and each with a revision of its own where it has keys.
pub data Expiries : Standing → List Expired → Standing → Type 0 where
  none : (s : Standing) → Expiries s [] s
  more : (s next last : Standing) (id : ℕ) (expired : List Expired) → IsNextDue s.live s.moment id → ended s id ≡ Ok next
      → Expiries next expired last → Expiries s (expired_in id next ∷ expired) last

-- It stops where no lease is due, or for the cause for which the next one can't end.
abbrev pub StopsFor : Option Refusal → Standing → Type 0
StopsFor None s = NoneIsDue s.live s.moment
StopsFor (Some cause) s = (id : ℕ) × IsNextDue s.live s.moment id × (ended s id ≡ Err cause)

-- An advance that does not go back sets the moment, and ends what is due, as long as it can.
pub record Expires (start : Standing) (moment : ℕ) : Type 0 where
  pub expiries : Expiries (at_moment start moment) (advanced start moment).expired (advanced start moment).leaves
  pub stops : StopsFor (advanced start moment).cause (advanced start moment).leaves

abbrev pub AdvanceExpires : Type 0
AdvanceExpires = (start : Standing) (moment : ℕ) → start.moment ≤ moment → Expires start moment

-- The keys of a lease are those that are attached to it, ascending by bytes.
abbrev pub KeysOfLeaseAreAttached : Type 0
KeysOfLeaseAreAttached = (h : History) (id : ℕ) → AreKeysOf (lease_now h) id (keys_of_lease h id)
