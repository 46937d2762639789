-- Which watchers are lost: of new ones, and by a compaction.
use Rattle.std.proofs.Common.{◌≡◌, ℕ, ◌-◌, ◌≤◌, ◌<◌, Bool, true, List, [], ◌∷◌, Option, Some, option_map, refl, ◌∙◌, ap, arith}
use Rattle.std.specs.Prelude.{nat_lt}
use Rattle.std.proofs.lemmas.Bool.{cases_Bool, lt-ltb, le-ltb, ltb-true, ltb-false, Decides.nat_tests}
use Rattle.stm_history.specs.History.{History, now}
use Rattle.stm_history.specs.Cut.{cut}
use Rattle.stm_watch.specs.declared.watched.Watched.{Watched}
use Rattle.stm_watch.specs.declared.watched.Watcher.{Watcher}
use Rattle.stm_watch.specs.Watching.{Watching}
use Rattle.stm_watch.specs.Places.{watching_of}
use Rattle.stm_watch.specs.Pending.{watching_from}
use Rattle.stm_watch.specs.Calls.{Stands, StandAll, compacted, compacted_one}
use Rattle.stm_watch.specs.Slots.{awaiting}
use Rattle.stm_watch.proofs.Notifying.{nothing_above}
use Rattle.stm_watch.proofs.CutNotifying.{seen_not_lost, followed_cut}
use Rattle.stm_watch.proofs.Standing.{seen_at}

-- ---- a new watcher

abbrev watching : Watched → ℕ → Bool → Watching
watching watched seen lost = record { watched = watched; seen = seen; lost = lost }

-- one that wants what comes next
pub now_watching : (h : History) (floor : ℕ) (watched : Watched) (from : ℕ) → from ≡ 0
    → watching_of floor (awaiting h watched (now h)) ≡ watching_from h floor watched from
now_watching h floor watched from is = grind (arith, nat_tests, nothing_above)

module _ (h : History) (floor : ℕ) (watched : Watched) (from : ℕ) (positive : 0 < from) where
  from_positive : (lost : Bool) → nat_lt from floor ≡ lost → watching watched (from - 1) lost ≡ watching_from h floor watched from
  from_positive lost is = grind (arith, nat_tests, lt-ltb)

  -- one that wants everything from the floor on, or from later on
  pub late_watching : floor ≤ from → watching_of floor (awaiting h watched (from - 1)) ≡ watching_from h floor watched from
  late_watching late = grind (arith, nat_tests, seen_not_lost, from_positive, le-ltb)

  -- one that wants what is below the floor
  pub lost_watching : from < floor → watching_of floor (record { watched = watched; seen = from - 1; first = Some from }) ≡ watching_from h floor watched from
  lost_watching less = ap (watching watched (from - 1)) (lt-ltb from floor less) ∙ from_positive true (lt-ltb from floor less)

pub lost_stands : (h : History) (floor from seen : ℕ) (watched : Watched) → from < floor
    → Stands h floor (Some (let w : Watcher = record { watched = watched; seen = seen; first = Some from } in w))
lost_stands h floor from seen watched less = λ still. let lost : nat_lt from floor ≡ true = lt-ltb from floor less in absurd (cc)

-- ---- a compaction

compacted_slot : (h : History) (floor revision : ℕ) (o : Option Watcher) → floor ≤ revision → Stands h floor o
    → option_map (watching_of revision) o ≡ option_map (compacted_one h revision) (option_map (watching_of floor) o)
compacted_slot h floor revision o le stands = grind (arith, nat_tests, cases_Bool, lt-ltb, ltb-true)

-- those are lost for which something is pending below the floor
pub compacted_same : (h : History) (floor revision : ℕ) (ws : List (Option Watcher)) → floor ≤ revision → StandAll h floor ws
    → seen_at revision ws ≡ compacted h revision (seen_at floor ws)
compacted_same h floor revision [] le stand = refl
compacted_same h floor revision (w ∷ ws) le stand = grind (arith, nat_tests, seen_at, compacted_slot, compacted_same h floor revision ws le stand.1)

compacted_stands : (h : History) (floor revision : ℕ) (o : Option Watcher) → floor ≤ revision → Stands h floor o → Stands h revision o
compacted_stands h floor revision o le stands = grind (arith, nat_tests, le-ltb, ltb-false)

pub compacted_stand : (h : History) (floor revision : ℕ) (ws : List (Option Watcher)) → floor ≤ revision → StandAll h floor ws → StandAll h revision ws
compacted_stand h floor revision [] le stand = tt
compacted_stand h floor revision (w ∷ ws) le stand = grind (arith, nat_tests, compacted_stands, compacted_stand h floor revision ws le stand.1)

cut_stands : (h : History) (revision : ℕ) (o : Option Watcher) → revision ≤ now h → Stands h revision o → Stands (cut (revision - 1) h) revision o
cut_stands h revision o reached stands = grind (arith, nat_tests, followed_cut)

-- those that are left stand for the history without what is below the floor
pub cut_stand : (h : History) (revision : ℕ) (ws : List (Option Watcher)) → revision ≤ now h → StandAll h revision ws
    → StandAll (cut (revision - 1) h) revision ws
cut_stand h revision [] reached stand = tt
cut_stand h revision (w ∷ ws) reached stand = (cut_stands h revision w reached stand.0, cut_stand h revision ws reached stand.1)
