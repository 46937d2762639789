-- The laws of due leases and of their keys, each carried by a function of `src/laws.rt`.
use Rattle.std.specs.Prelude.{◌≡◌, ◌↔◌, ℕ, List, Option, Some, None, Contains}
use Rattle.std.specs.FinMap as finmap
use Rattle.stm_leases.specs.Live.{Live}
use Rattle.stm_leases.specs.DueFirst.{first_due, NoneIsDue, IsNextDue}
use Rattle.stm_leases.specs.AttachedKeys.{Attached, keys_on, IsAscending, AreKeysOf}

-- The lease that is due first is the one that comes no later than any other due lease, and there is none exactly where
-- no lease is due.
pub record FirstDueIsNext : Type 0 where
  pub next : (live : Live) (now id : ℕ) → (first_due live now ≡ Some id) ↔ IsNextDue live now id
  pub none : (live : Live) (now : ℕ) → (first_due live now ≡ None) ↔ NoneIsDue live now

-- The keys on a lease are those that are attached to it, ascending by bytes.
abbrev pub KeysOnAreKeys : Type 0
KeysOnAreKeys = (attached : Attached) (id : ℕ) → AreKeysOf (finmap.get attached) id (keys_on attached id)

-- Ascending lists with the same members are one list.
abbrev pub AscendingIsUnique : Type 0
AscendingIsUnique =
    (one other : List (List ℕ)) → IsAscending one → IsAscending other → ((key : List ℕ) → Contains one key ↔ Contains other key)
    → one ≡ other

-- So a lease has one list of keys.
abbrev pub OneListOfKeys : Type 0
OneListOfKeys =
    (lease_of : List ℕ → Option ℕ) (id : ℕ) (one other : List (List ℕ)) → AreKeysOf lease_of id one → AreKeysOf lease_of id other
    → one ≡ other
