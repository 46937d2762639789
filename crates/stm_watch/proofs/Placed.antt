-- What a poll makes of the watchers at all places.
use Rattle.std.proofs.Common.{◌≡◌, ℕ, ◌-◌, Bool, true, false, cond, List, Option, Some, None, IsSome, IfSome, option_map, slice_index_or, slice_set}
use Rattle.std.proofs.Common.{Result, Ok, Err, OnErr, refl, sym, ap, subst, ◌∙◌, nat_eq, arith}
use Rattle.std.specs.declared.alloc.AllocError.{AllocError}
use Rattle.std.proofs.lemmas.List.{set-get_or, get_or-set_same}
use Rattle.std.proofs.lemmas.Option.{same_Some}
use Rattle.std.proofs.lemmas.Bool.Decides.{nat_tests}
use Rattle.stm_history.specs.History.{History}
use Rattle.stm_watch.specs.Watching.{Watching}
use Rattle.stm_watch.specs.Places.{WatchersView, with_places, is_lost, watching_of, watchings}
use Rattle.stm_watch.specs.declared.watched.Watcher.{Watcher}
use Rattle.stm_watch.specs.declared.watchers.Batch.{Batch}
use Rattle.stm_watch.specs.declared.refusal.PollRefusal.{PollRefusal}
use Rattle.stm_watch.specs.declared.refusal.PollRefusal.TheVariants.{NoWatcher, Compacted}
use Rattle.stm_watch.specs.Calls.{Stands, StandAll, Step, watcher_at, poll, poll_found, cancelled, is_one_lost, after_refused, view_refused}
use Rattle.stm_watch.specs.Pending.{first_pending, batch_of, after_poll}
use Rattle.stm_watch.specs.Slots.{IsFollowed, IsPolled, SlotPolls, PlacePolls, followed, standing}
use Rattle.stm_watch.proofs.At.{within}
use Rattle.stm_watch.proofs.CutNotifying.{polled_not_lost}
use Rattle.stm_watch.proofs.Standing.{seen_at, watchings_set, watching_at, stands_at, stand_set}

-- ---- a poll at one of several places

module _ (h : History) (i most : ℕ) (old new : List (Option Watcher)) (result : Result Batch AllocError) (did : PlacePolls h most i old result new)
    (there : IsSome (slice_index_or old i None)) where
  found_there : (batch : Batch) → result ≡ Ok batch → (was : Watcher) × (is : Watcher) × (slice_index_or old i None ≡ Some was)
      × (new ≡ slice_set old i (Some is)) × (is.watched ≡ was.watched)
  found_there batch same = grind (arith, nat_tests)

  here : (w : Watcher) → new ≡ slice_set old i (Some w) → slice_index_or new i None ≡ Some w
  here w is = ap (λ ws. slice_index_or ws i None) is ∙ get_or-set_same old i (Some w) None (within old i there)

  -- a watcher that was polled is there still
  pub polled_some : (batch : Batch) → result ≡ Ok batch → IsSome (slice_index_or new i None)
  polled_some batch same = let found = found_there batch same in subst IsSome (sym (here found.1 found.3)) refl

  -- and watches what it did
  pub polled_slot : (batch : Batch) → result ≡ Ok batch → (w : Watcher) → slice_index_or new i None ≡ Some w
      → (was : Watcher) × (slice_index_or old i None ≡ Some was) × (new ≡ slice_set old i (Some w)) × (w.watched ≡ was.watched)
  polled_slot batch same w at = grind (arith, nat_tests, found_there, same_Some, here)

  -- a refusal changes nothing
  pub place_refused : (e : AllocError) → result ≡ Err e → new ≡ old
  place_refused e same = grind (arith, nat_tests, set-get_or)

-- what holds anyway holds where a call is refused
pub on_any : {T E P : Type 0} (r : Result T E) → P → OnErr r P
on_any r holds = grind (arith, nat_tests)

-- ---- a watcher by its number

-- the watcher at a place is the one with the number
pub found_by : {A : Type 0} (id place : ℕ) (ws : List (Option A)) (w : A) → nat_eq id 0 ≡ false → place ≡ id - 1 → slice_index_or ws place None ≡ Some w
    → watcher_at id ws ≡ Some w
found_by id place ws w positive is at = grind (arith, nat_tests)

pub seen_by : (floor id : ℕ) (ws : List (Option Watcher)) → watcher_at id (seen_at floor ws) ≡ option_map (watching_of floor) (watcher_at id ws)
seen_by floor id ws = grind (arith, nat_tests, seen_at, watching_at)

-- the watcher that stands there, and whether it is lost
pub lost_is : (floor : ℕ) (o : Option Watcher) (result : Bool) → IfSome o (λ (w : Watcher). result ≡ is_lost floor w.first) → IsSome o
    → (w : Watcher) × (o ≡ Some w) × (is_lost floor w.first ≡ result)
lost_is floor o result reported some = grind (arith, nat_tests)

-- the watchers as a refused poll leaves them
pub refused_same : (id : ℕ) (v : WatchersView) → is_one_lost (watcher_at id (watchings v)) ≡ false → view_refused id v ≡ v
refused_same id v not = ap (λ b. with_places v (cond b (slice_set v.places (id - 1) None) v.places)) not

pub seen_same : (id : ℕ) (ws : List (Option Watching)) → is_one_lost (watcher_at id ws) ≡ false → after_refused id ws ≡ ws
seen_same id ws not = ap (λ b. cond b (cancelled id ws) ws) not

pub refused_cancels : (id : ℕ) (v : WatchersView) → is_one_lost (watcher_at id (watchings v)) ≡ true
    → view_refused id v ≡ with_places v (slice_set v.places (id - 1) None)
refused_cancels id v lost = ap (λ b. with_places v (cond b (slice_set v.places (id - 1) None) v.places)) lost

pub seen_cancelled : (id : ℕ) (ws : List (Option Watching)) → is_one_lost (watcher_at id ws) ≡ true → after_refused id ws ≡ cancelled id ws
seen_cancelled id ws lost = ap (λ b. cond b (cancelled id ws) ws) lost

-- nobody is there
module _ (h : History) (floor id most : ℕ) (ws : List (Option Watcher)) (none : watcher_at id ws ≡ None) where
  none_seen : watcher_at id (seen_at floor ws) ≡ None
  none_seen = seen_by floor id ws ∙ ap (option_map (watching_of floor)) none

  pub none_polled : poll h id most (seen_at floor ws) ≡ Err NoWatcher
  none_polled = ap (poll_found h id most (seen_at floor ws)) none_seen

  pub none_lost : is_one_lost (watcher_at id (seen_at floor ws)) ≡ false
  none_lost = ap is_one_lost none_seen

-- a watcher is there
module _ (h : History) (floor id most : ℕ) (old : List (Option Watcher)) (place : ℕ) (w : Watcher) (positive : nat_eq id 0 ≡ false) (is : place ≡ id - 1)
    (at : slice_index_or old place None ≡ Some w) where
  found_seen : watcher_at id (seen_at floor old) ≡ Some (watching_of floor w)
  found_seen = seen_by floor id old ∙ ap (option_map (watching_of floor)) (found_by id place old w positive is at)

  pub found_lost : is_one_lost (watcher_at id (seen_at floor old)) ≡ is_lost floor w.first
  found_lost = ap is_one_lost found_seen

  abbrev given : Result (Step Batch) PollRefusal
  given = Ok (record {
    answer = batch_of most h (watching_of floor w);
    next = slice_set (seen_at floor old) (id - 1) (Some (after_poll most h (watching_of floor w)));
  })

  pub lost_polled : is_lost floor w.first ≡ true → poll h id most (seen_at floor old) ≡ Err Compacted
  lost_polled lost = ap (poll_found h id most (seen_at floor old)) found_seen ∙ ap (λ b. cond b (Err Compacted) given) lost

  -- it is not lost
  module _ (not : is_lost floor w.first ≡ false) (stand : StandAll h floor old) where
    pub is_followed : IsFollowed h w
    is_followed = subst (Stands h floor) at (stands_at h floor old place stand) not

    lost_same : is_lost floor (first_pending h (after_poll most h (followed w))) ≡ is_lost floor w.first
    lost_same = polled_not_lost floor most h (followed w) (ap (is_lost floor) (sym is_followed) ∙ not) ∙ sym not

    module _ (new : List (Option Watcher)) (result : Result Batch AllocError) (did : PlacePolls h most place old result new) (batch : Batch)
        (same : result ≡ Ok batch) where
      slot_polled : (batch ≡ batch_of most h (followed w)) × (did.0 ≡ Some (standing h (after_poll most h (followed w))))
      slot_polled = subst (λ o. IsPolled h most o batch did.0) at (subst (λ r. SlotPolls h most (slice_index_or old place None) r did.0) same did.2)

      abbrev step : Batch → List (Option Watching) → Result (Step Batch) PollRefusal
      step b ws = Ok (record { answer = b; next = ws })

      seen_new : seen_at floor new ≡ slice_set (seen_at floor old) (id - 1) (Some (after_poll most h (watching_of floor w)))
      seen_new =
          ap (seen_at floor) did.1
          ∙ watchings_set floor old place did.0
          ∙ ap (λ (k : ℕ). slice_set (seen_at floor old) k (option_map (watching_of floor) did.0)) is
          ∙ ap (λ o. slice_set (seen_at floor old) (id - 1) (option_map (watching_of floor) o)) slot_polled.1
          ∙ ap (λ (b : Bool). slice_set (seen_at floor old) (id - 1)
          (Some (let one : Watching = record { watched = w.watched; seen = (batch_of most h (followed w)).upto; lost = b } in one))) lost_same

      pub found_polled : poll h id most (seen_at floor old) ≡ Ok (record { answer = batch; next = seen_at floor new })
      found_polled = grind (arith, nat_tests, seen_at, seen_new, found_seen)

      pub polled_stand : StandAll h floor new
      polled_stand = grind (arith, nat_tests, stand_set)
