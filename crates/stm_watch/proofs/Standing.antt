-- Watchers that stand for a history, from call to call.
use Rattle.std.proofs.Common.{◌≡◌, ℕ, zero, suc, ◌+◌, ◌-◌, ◌≤◌, Bool, true, false, cond, List, [], ◌∷◌, ◌++◌, map, slice_index_or, arith}
use Rattle.std.proofs.Common.{slice_set, Option, Some, None, option_map, refl, sym, ◌∙◌, ap, ◌&&◌}
use Rattle.std.specs.Prelude.{nat_eq, nat_lt}
use Rattle.std.proofs.lemmas.Bool.{cases_Bool, le-ltb, Decides.nat_tests}
use Rattle.std.proofs.lemmas.List.{map-append, map-set}
use Rattle.std.proofs.Math.ListN.{get_or-map}
use Rattle.stm_history.specs.declared.change.Change.{Change}
use Rattle.stm_history.specs.History.{History, now, add_revision}
use Rattle.stm_watch.specs.Watching.{Watching}
use Rattle.stm_watch.specs.Places.{WatchersView, is_lost, watching_of, watchings}
use Rattle.stm_watch.specs.declared.watched.Watcher.{Watcher}
use Rattle.stm_watch.specs.Keys.{is_any_watched}
use Rattle.stm_watch.specs.Touch.{touch, first_with}
use Rattle.stm_watch.specs.Calls.{watcher_at, Stands, StandAll, StandFor, is_ready, is_ready_at, IsNextReady, is_pending_for, IsNextPending}
use Rattle.stm_watch.proofs.Notifying.{first_after, some_first}

-- the watchers at these places, as the rules see them
abbrev pub seen_at : ℕ → List (Option Watcher) → List (Option Watching)
seen_at floor ws = map (option_map (watching_of floor)) ws

-- ---- touching

-- what comes at the floor or above loses nobody
lost_with : (floor revision : ℕ) (wants : Bool) (first : Option ℕ) → floor ≤ revision → is_lost floor (first_with revision wants first) ≡ is_lost floor first
lost_with floor revision wants first le = grind (arith, nat_tests, le-ltb)

touched_stands : (h : History) (floor : ℕ) (changes : List Change) (revision : ℕ) (o : Option Watcher) → revision ≡ now h + 1 → floor ≤ revision
    → Stands h floor o → Stands (add_revision h changes) floor (option_map (touch revision changes) o)
touched_stands h floor changes revision None is le stands = tt
touched_stands h floor changes revision (Some w) is le stands = λ still.
    let wants : Bool = nat_lt w.seen revision && is_any_watched w.watched changes in
    ap (first_with revision wants) (stands (sym (lost_with floor revision wants w.first le) ∙ still))
    ∙ sym (first_after h changes (watching_of floor w) revision is)

pub touched_stand : (h : History) (floor : ℕ) (changes : List Change) (revision : ℕ) (ws : List (Option Watcher)) → revision ≡ now h + 1 → floor ≤ revision
    → StandAll h floor ws → StandAll (add_revision h changes) floor (map (option_map (touch revision changes)) ws)
touched_stand h floor changes revision [] is le stand = tt
touched_stand h floor changes revision (w ∷ ws) is le stand = grind (arith, nat_tests, touched_stands, touched_stand h floor changes revision ws is le stand.1)

touched_watches : (floor : ℕ) (changes : List Change) (revision : ℕ) (o : Option Watcher) → floor ≤ revision →
    option_map (watching_of floor) (option_map (touch revision changes) o) ≡ option_map (watching_of floor) o
touched_watches floor changes revision o le = grind (arith, nat_tests, lost_with)

pub touched_same : (floor : ℕ) (changes : List Change) (revision : ℕ) (ws : List (Option Watcher)) → floor ≤ revision →
    seen_at floor (map (option_map (touch revision changes)) ws) ≡ seen_at floor ws
touched_same floor changes revision [] le = refl
touched_same floor changes revision (w ∷ ws) le = grind (arith, nat_tests, touched_watches, touched_same floor changes revision ws le)

-- ---- one more, and another at a place

pub stand_with : (h : History) (floor : ℕ) (ws : List (Option Watcher)) (o : Option Watcher) → StandAll h floor ws → Stands h floor o
    → StandAll h floor (ws ++ o ∷ [])
stand_with h floor [] o stand stands = (stands, tt)
stand_with h floor (w ∷ ws) o stand stands = (stand.0, stand_with h floor ws o stand.1 stands)

pub stand_set : (h : History) (floor : ℕ) (ws : List (Option Watcher)) (i : ℕ) (o : Option Watcher) → StandAll h floor ws → Stands h floor o
    → StandAll h floor (slice_set ws i o)
stand_set h floor [] i o stand stands = stand
stand_set h floor (w ∷ ws) zero o stand stands = (stands, stand.1)
stand_set h floor (w ∷ ws) (suc i) o stand stands = (stand.0, stand_set h floor ws i o stand.1 stands)

pub watchings_set : (floor : ℕ) (ws : List (Option Watcher)) (i : ℕ) (o : Option Watcher) →
    seen_at floor (slice_set ws i o) ≡ slice_set (seen_at floor ws) i (option_map (watching_of floor) o)
watchings_set floor ws i o = map-set (option_map (watching_of floor)) ws i o

pub watchings_with : (floor : ℕ) (ws : List (Option Watcher)) (w : Watcher) →
    seen_at floor (ws ++ Some w ∷ []) ≡ seen_at floor ws ++ Some (watching_of floor w) ∷ []
watchings_with floor ws w = map-append (option_map (watching_of floor)) ws (Some w ∷ [])

-- ---- what stands at a place

pub watching_at : (floor : ℕ) (ws : List (Option Watcher)) (i : ℕ) →
    slice_index_or (seen_at floor ws) i None ≡ option_map (watching_of floor) (slice_index_or ws i None)
watching_at floor ws i = get_or-map (option_map (watching_of floor)) ws i None

pub stands_at : (h : History) (floor : ℕ) (ws : List (Option Watcher)) (i : ℕ) → StandAll h floor ws → Stands h floor (slice_index_or ws i None)
stands_at h floor [] i stand = tt
stands_at h floor (w ∷ ws) zero stand = stand.0
stands_at h floor (w ∷ ws) (suc i) stand = stands_at h floor ws i stand.1

ready_is_pending : (h : History) (floor : ℕ) (o : Option Watcher) → Stands h floor o → is_pending_for h (option_map (watching_of floor) o) ≡ is_ready o
ready_is_pending h floor o stands = grind (arith, nat_tests, some_first, cases_Bool)

-- ---- the next one

at_by : (b : Bool) (P : Bool → Type 0) → P true → P false → P b
at_by b P if_true if_false = grind (arith, nat_tests)

pub pending_at : (h : History) (floor : ℕ) (ws : List (Option Watcher)) (id : ℕ) → StandAll h floor ws →
    is_pending_for h (watcher_at id (seen_at floor ws)) ≡ is_ready_at id ws
pending_at h floor ws id stand =
    at_by (nat_eq id 0)
    (λ b. is_pending_for h (cond b None (slice_index_or (seen_at floor ws) (id - 1) None)) ≡ is_ready (cond b None (slice_index_or ws (id - 1) None)))
    refl
    (ap (is_pending_for h) (watching_at floor ws (id - 1))
    ∙ ready_is_pending h floor (slice_index_or ws (id - 1) None) (stands_at h floor ws (id - 1) stand))

pub next_pending : (h : History) (v : WatchersView) (o : Option ℕ) → StandFor h v → IsNextReady v.places o → IsNextPending h (watchings v) o
next_pending h v o stand next = grind (arith, nat_tests, pending_at)
