-- A compaction of a store that has dropped revisions before comes to what one of the whole store comes to.
use Rattle.std.proofs.Common.{◌≡◌, ℕ, ◌-◌, ◌≤◌, ◌<◌, Bool, false, cond, List, [], ◌∷◌, Option, Some, None, option_map, refl, ◌∙◌, ap, arith}
use Rattle.std.specs.Prelude.{nat_le, nat_lt, ◌||◌, max, IfSome, Result, Ok}
use Rattle.std.proofs.lemmas.Bool.{leb-false, ltb-false, Decides.nat_tests}
use Rattle.stm_history.specs.History.{History, now}
use Rattle.stm_history.specs.Cut.{cut}
use Rattle.stm_history.proofs.CutLaws.{cut_twice}
use Rattle.stm_watch.specs.Watching.{Watching}
use Rattle.stm_watch.specs.Places.{is_lost}
use Rattle.stm_watch.specs.Pending.{first_pending}
use Rattle.stm_watch.specs.Calls.{compacted_one, compacted as compacted_watchers}
use Rattle.stm_outcome.specs.declared.refusal.Refusal.{Refusal}
use Rattle.stm_outcome.specs.declared.refusal.Refusal.TheVariants.{FutureRevision, Compacted}
use Rattle.stm_txn.specs.Standing.{Standing, Step, kept, with_floor, floor_step, raised, compacted, IsKeptFor, AreKeptFor, HasKept}
use Rattle.stm_compaction.specs.Kept.{kept_step}
use Rattle.stm_compaction.proofs.Alike.{cut_is_alike}
use Rattle.stm_compaction.proofs.Watching.{pending_kept}

-- ---- watchers

-- a watcher, by whether it was lost and the first revision of which events are pending for it
abbrev lost_by : ℕ → Watching → Bool → Option ℕ → Watching
lost_by revision w lost first = record w { lost = lost || is_lost revision first }

one_by : (floor revision : ℕ) (h : History) (w : Watching) → floor ≤ now h → (lost : Bool) →
    (lost ≡ false → IfSome (first_pending h w) (λ n. floor ≤ n)) →
    lost_by revision w lost (first_pending (cut (floor - 1) h) w) ≡ lost_by revision w lost (first_pending h w)
one_by floor revision h w reached lost waits = grind (arith, nat_tests, pending_kept)

each_kept : (floor revision : ℕ) (h : History) (o : Option Watching) → floor ≤ now h → IsKeptFor h floor o →
    option_map (compacted_one (cut (floor - 1) h) revision) o ≡ option_map (compacted_one h revision) o
each_kept floor revision h None reached waits = refl
each_kept floor revision h (Some w) reached waits = ap (λ (x : Watching). Some x) (one_by floor revision h w reached w.lost waits)

watchers_kept : (floor revision : ℕ) (h : History) (ws : List (Option Watching)) → floor ≤ now h → AreKeptFor h floor ws →
    compacted_watchers (cut (floor - 1) h) revision ws ≡ compacted_watchers h revision ws
watchers_kept floor revision h [] reached are = refl
watchers_kept floor revision h (w ∷ ws) reached are =
    ap (λ (o : Option Watching). o ∷ compacted_watchers (cut (floor - 1) h) revision ws) (each_kept floor revision h w reached are.0)
    ∙ ap (λ (l : List (Option Watching)). option_map (compacted_one h revision) w ∷ l) (watchers_kept floor revision h ws reached are.1)

-- ---- a compaction

-- a store with this history, this floor and these watchers
abbrev stood : Standing → ℕ → History → List (Option Watching) → Standing
stood s revision h ws = record s { history = h; floor = revision; watchers = ws }

floor_kept : (s : Standing) → HasKept s → (revision : ℕ) → s.floor < revision → revision ≤ now s.history →
    kept (with_floor (kept s) revision) ≡ kept (with_floor s revision)
floor_kept s has revision above reached =
    let higher : max (s.floor - 1) (revision - 1) ≡ revision - 1 = omega (arith, above) in
    ap (λ (ws : List (Option Watching)). stood s revision (cut (revision - 1) (cut (s.floor - 1) s.history)) ws)
    (watchers_kept s.floor revision s.history s.watchers has.reached has.watchers)
    ∙ ap (λ (h : History). stood s revision h (compacted_watchers s.history revision s.watchers))
    (cut_twice s.history (s.floor - 1) (revision - 1) (omega (arith, has.reached)) (omega (arith, reached)) ∙ ap (λ (n : ℕ). cut n s.history) higher)

abbrev done_with : Standing → Result (Step (Unit {0})) Refusal
done_with next = Ok record { answer = tt; next = next }

-- a compaction that is not refused is at a revision above the floor that is reached
taken_by : (s : Standing) → HasKept s → (revision : ℕ) (low high : Bool) → nat_le revision s.floor ≡ low → nat_lt (now s.history) revision ≡ high →
    floor_step (cond low (Some Compacted) (cond high (Some FutureRevision) None)) (kept (with_floor (kept s) revision))
    ≡ kept_step (floor_step (cond low (Some Compacted) (cond high (Some FutureRevision) None)) (with_floor s revision))
taken_by s has revision low high is_low is_high = grind (arith, nat_tests, floor_kept, leb-false, ltb-false)

pub compacted_kept : (s : Standing) → HasKept s → (revision : ℕ) → compacted (kept s) revision ≡ kept_step (raised s revision)
compacted_kept s has revision = grind (arith, nat_tests, taken_by, cut_is_alike)
