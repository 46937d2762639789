-- How the tables and the lists agree. No public clause cites this module.
use Rattle.std.specs.Prelude.{◌≡◌, ◌⊎◌, ℕ, ◌≤◌, List, [], ◌∷◌, map, Option, Some, IsTrue, option_map, nat_eq, String, string_bytes}
use Rattle.std.specs.FinMap as finmap
use Rattle.indexmap.specs.IndexMap.{IndexMap, get, get_by_text, spare}
use Rattle.stm_lists.specs.Lists.{Lists, entries_at, HasList}
use Rattle.stm_leases.specs.LeaseLog.{Term}
use Rattle.stm_leases.specs.Live.{is_id, is_ttl}
use Rattle.stm_leases.specs.Leases.{Leases}
use Rattle.stm_leases.specs.Due.{IsTimed}
use Rattle.stm_leases.specs.declared.tournament.Tournament.{Tournament}
use Rattle.stm_leases.specs.declared.lease.Lease.{Lease}
use Rattle.stm_leases.specs.declared.lease.Attachment.{Attachment}

-- what contracts see of a lease's record
abbrev pub term_in : Lease → Term
term_in lease = record { ttl = lease.ttl; renewed = lease.renewed }

-- what contracts see of these tables
abbrev pub view_of : {A S R : Type 0} → IndexMap ℕ Lease S → IndexMap (String A) Attachment R → ℕ → Leases
view_of leases attached spare = record {
  live = finmap.from_entries (map (λ e. (e.0, term_in e.1)) leases.entries);
  attached = finmap.from_entries (map (λ e. (string_bytes e.0, e.1.lease)) attached.entries);
  spare = spare;
}

-- the list of a live lease
abbrev pub list_in : {S : Type 0} → IndexMap ℕ Lease S → ℕ → Option ℕ
list_in leases id = option_map (λ l. l.keys) (get nat_eq leases id)

-- a node with this key stands among these
abbrev pub Holds : {A : Type 0} → List (ℕ × String A) → ℕ → List ℕ → Type 0
Holds [] node key = ⊥
Holds (entry ∷ rest) node key = ((entry.0 ≡ node) × (string_bytes entry.1 ≡ key)) ⊎ Holds rest node key

-- each live lease has a list of its own, on which stand exactly the keys that are attached to the lease
pub record AreInStep {A : Type 0} (list_of : ℕ → Option ℕ) (place_of : List ℕ → Option Attachment) (keys : Lists (String A)) : Type 0 where
  pub listed : (id list : ℕ) → list_of id ≡ Some list → HasList keys list
  pub own : (id other list : ℕ) → list_of id ≡ Some list → list_of other ≡ Some list → id ≡ other
  pub placed : (key : List ℕ) (place : Attachment) → place_of key ≡ Some place
      → (list : ℕ) × (list_of place.lease ≡ Some list) × Holds (entries_at keys list) place.node key
  pub held : (id list node : ℕ) (key : List ℕ) → list_of id ≡ Some list → Holds (entries_at keys list) node key
      → place_of key ≡ Some (record { lease = id; node = node })

-- each id of the table and its time to live are in range
abbrev pub AllInRange : {S : Type 0} → IndexMap ℕ Lease S → Type 0
AllInRange leases = (id : ℕ) (lease : Lease) → get nat_eq leases id ≡ Some lease → IsTrue (is_id id) × IsTrue (is_ttl lease.ttl)

-- the tables and the lists agree, ids and times to live are in range, the tournament has when each lease falls due, and the
-- attaches that are certain have room in both
pub record AreKept {A S R : Type 0} (leases : IndexMap ℕ Lease S) (attached : IndexMap (String A) Attachment R) (keys : Lists (String A))
    (due : Tournament) (room : ℕ) : Type 0 where
  pub in_step : AreInStep (list_in leases) (get_by_text attached) keys
  pub in_range : AllInRange leases
  pub timed : IsTimed (get nat_eq leases) due
  pub table_room : room ≤ spare attached
  pub list_room : room ≤ keys.spare
