-- Which of the live leases is due first. The order is this store's own choice.
use Rattle.std.specs.Prelude.{◌≡◌, ℕ, ◌<◌, ◌≤◌, nat_lt, nat_le, nat_eq, ◌&&◌, ◌||◌, List, [], ◌∷◌, Option, Some, None, option_map, if◌then◌else◌}
use Rattle.std.specs.FinMap as finmap
use Rattle.stm_leases.specs.LeaseLog.{Term, due}
use Rattle.stm_leases.specs.Live.{Live}

-- a due lease: the moment from which it has been due, and its id
pub record DueLease : Type 0 where
  pub since : ℕ
  pub id : ℕ

-- the lease of an id, where it is due at this moment
abbrev pub due_lease : ℕ → ℕ → Option Term → Option DueLease
due_lease now id None = None
due_lease now id (Some term) = if nat_le (due term) now then Some (record { since = due term; id = id }) else None

-- one due lease comes before another: by the moment from which it has been due, then by id
abbrev pub earlier_of : DueLease → DueLease → DueLease
earlier_of one other =
    if nat_lt other.since one.since || (nat_eq other.since one.since && nat_lt other.id one.id) then other else one

abbrev pub earlier : Option DueLease → Option DueLease → Option DueLease
earlier None other = other
earlier (Some one) None = Some one
earlier (Some one) (Some other) = Some (earlier_of one other)

-- the first of the due ones among these ids
abbrev pub first_among : Live → ℕ → List ℕ → Option DueLease
first_among live now [] = None
first_among live now (id ∷ ids) = earlier (due_lease now id (finmap.get live id)) (first_among live now ids)

-- the lease that is due at this moment and was due first, of several at one moment the one with the least id
abbrev pub first_due : Live → ℕ → Option ℕ
first_due live now = option_map (λ (d : DueLease). d.id) (first_among live now (finmap.keys live))

-- no lease is due at this moment
abbrev pub NoneIsDue : Live → ℕ → Type 0
NoneIsDue live now = (id : ℕ) (term : Term) → finmap.get live id ≡ Some term → now < due term

-- a due lease comes no later than another: by the moment from which it has been due, then by id
abbrev pub ComesNoLater : ℕ → ℕ → ℕ → ℕ → Type 0
ComesNoLater moment id other_moment other_id =
    (moment ≤ other_moment) × (moment ≡ other_moment → id ≤ other_id)

-- the lease is due at this moment, and comes no later than any other that is
pub record IsNextDue (live : Live) (now id : ℕ) : Type 0 where
  pub term : Term
  pub live_now : finmap.get live id ≡ Some term
  pub is_due : due term ≤ now
  pub first : (other : ℕ) (other_term : Term) → finmap.get live other ≡ Some other_term → due other_term ≤ now
      → ComesNoLater (due term) id (due other_term) other
