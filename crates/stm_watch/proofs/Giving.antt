-- The batch of a poll, one revision after the other.
use Rattle.std.proofs.Common.{◌≡◌, ℕ, ◌+◌, ◌≤◌, max, Bool, false, cond, Option, Some, None, is_some, List, [], ◌∷◌, ◌++◌, length, take, refl, sym, ◌∙◌, ap}
use Rattle.std.proofs.Common.{arith, append-nil, append_assoc, length-append, take_all}
use Rattle.std.specs.Prelude.{nat_le}
use Rattle.std.proofs.Math.Nat.{le-max_right}
use Rattle.std.proofs.lemmas.Bool.{le-leb, lt-leb, Decides.nat_tests}
use Rattle.std.proofs.lemmas.Grind.{flat_map-append}
use Rattle.stm_history.specs.History.{History, now}
use Rattle.stm_keys.specs.declared.event.Event.{Event}
use Rattle.stm_watch.specs.declared.pending_revision.PendingRevision.{PendingRevision}
use Rattle.stm_watch.specs.Watching.{Watching}
use Rattle.stm_watch.specs.declared.watchers.Batch.{Batch}
use Rattle.stm_watch.specs.Pending.{pending_above, pending, number_of_first, first_pending, pending_events, last_number, batch_of, after_poll}
use Rattle.stm_watch.proofs.Notifying.{nothing_above}

-- `count` of these revisions are given with their events, up to one of them, and the rest is what is pending above that
abbrev pub AreGiven : List PendingRevision → (ℕ → List PendingRevision) → ℕ → ℕ → List Event → ℕ → Type 0
AreGiven all above seen count events upto =
    (given : List PendingRevision) × (length given ≡ count) × (events ≡ pending_events given) × (upto ≡ last_number seen given) × (all ≡ given ++ above upto)

events_one_more : (given : List PendingRevision) (t : PendingRevision) → pending_events (given ++ t ∷ []) ≡ pending_events given ++ t.events
events_one_more given t = grind (arith, nat_tests, flat_map-append, append-nil)

last_one_more : (seen : ℕ) (given : List PendingRevision) (t : PendingRevision) → last_number seen (given ++ t ∷ []) ≡ t.number
last_one_more seen [] t = refl
last_one_more seen (g ∷ given) t = last_one_more g.number given t

pub one_more : (all : List PendingRevision) (above : ℕ → List PendingRevision) (seen count upto : ℕ) (events more : List Event) (t : PendingRevision) →
    AreGiven all above seen count events upto → above upto ≡ t ∷ above t.number → more ≡ events ++ t.events
    → AreGiven all above seen (count + 1) more t.number
one_more all above seen count upto events more t so_far next joined =
    let given : List PendingRevision = so_far.0 in (
      given ++ t ∷ [],
      length-append given (t ∷ []) ∙ ap (λ (n : ℕ). n + 1) so_far.1,
      joined ∙ ap (λ (es : List Event). es ++ t.events) so_far.2 ∙ sym (events_one_more given t),
      sym (last_one_more seen given t),
      so_far.4 ∙ ap (λ (ts : List PendingRevision). given ++ ts) next ∙ sym (append_assoc given (t ∷ []) (above t.number)),
    )

-- ---- the batch that is made of what is pending

abbrev pub batch : List Event → ℕ → Batch
batch events upto = record { events = events; upto = upto }

abbrev made : ℕ → ℕ → ℕ → List PendingRevision → Batch
made most seen counter ts = batch (pending_events (take most ts)) (cond (nat_le (length ts) most) (max seen counter) (last_number seen (take most ts)))

made_whole : (most seen counter : ℕ) (given : List PendingRevision) → length given ≤ most →
    made most seen counter given ≡ batch (pending_events given) (max seen counter)
made_whole most seen counter given long =
    ap (λ (ts : List PendingRevision). batch (pending_events ts) (cond (nat_le (length given) most) (max seen counter) (last_number seen ts)))
    (take_all most given long)
    ∙ ap (λ (b : Bool). batch (pending_events given) (cond b (max seen counter) (last_number seen given)))
    (le-leb (length given) most long)

-- what is pending above a revision of a history
abbrev pub above_of : History → Watching → ℕ → List PendingRevision
above_of h w upto = pending_above h.opening upto w.watched h.revisions

whole_batch : (most : ℕ) (h : History) (w : Watching) (count : ℕ) (events : List Event) (upto : ℕ) →
    AreGiven (pending h w) (above_of h w) w.seen count events upto → count ≤ most → above_of h w upto ≡ []
    → batch_of most h w ≡ batch events (max w.seen (now h))
whole_batch most h w count events upto so_far room none = grind (arith, nat_tests, append-nil, made_whole)

take_front : (given rest : List PendingRevision) (n : ℕ) → length given ≡ n → take n (given ++ rest) ≡ given
take_front given rest n long = ap (λ (m : ℕ). take m (given ++ rest)) (sym long) ∙ by_given given
  where
    by_given : (ts : List PendingRevision) → take (length ts) (ts ++ rest) ≡ ts
    by_given [] = refl
    by_given (t ∷ ts) = ap (λ (us : List PendingRevision). t ∷ us) (by_given ts)

made_part : (most seen counter : ℕ) (given : List PendingRevision) (t : PendingRevision) (rest : List PendingRevision) → length given ≡ most →
    made most seen counter (given ++ t ∷ rest) ≡ batch (pending_events given) (last_number seen given)
made_part most seen counter given t rest long = grind (arith, nat_tests, take_front, lt-leb, length-append)

part_batch : (most : ℕ) (h : History) (w : Watching) (count : ℕ) (events : List Event) (upto : ℕ) (t : PendingRevision) (rest : List PendingRevision) →
    AreGiven (pending h w) (above_of h w) w.seen count events upto → count ≡ most → above_of h w upto ≡ t ∷ rest
    → batch_of most h w ≡ batch events upto
part_batch most h w count events upto t rest so_far full some = grind (arith, nat_tests, made_part)

-- ---- the batch, and what is pending after it

none_reported : (ts : List PendingRevision) → None ≡ number_of_first ts → ts ≡ []
none_reported ts none = grind (arith, nat_tests)

pub none_is : (o : Option ℕ) → is_some o ≡ false → o ≡ None
none_is o none = grind (arith, nat_tests)

some_reported : (ts : List PendingRevision) (number : ℕ) → Some number ≡ number_of_first ts → (t : PendingRevision) × (rest : List PendingRevision) × (ts ≡ t ∷ rest)
some_reported ts number some = grind (arith, nat_tests)

module _ (most : ℕ) (h : History) (w : Watching) (count : ℕ) (events : List Event) (upto : ℕ)
    (so_far : AreGiven (pending h w) (above_of h w) w.seen count events upto) (room : count ≤ most) where
  -- the batch has all
  pub all_given : None ≡ number_of_first (above_of h w upto) → batch events (max w.seen (now h)) ≡ batch_of most h w
  all_given none = sym (whole_batch most h w count events upto so_far room (none_reported (above_of h w upto) none))

  pub none_after : None ≡ number_of_first (above_of h w upto) → None ≡ first_pending h (after_poll most h w)
  none_after none = grind (arith, nat_tests, nothing_above, le-max_right, all_given)

  -- more is pending
  pub part_given : most ≤ count → (number : ℕ) → Some number ≡ number_of_first (above_of h w upto) → batch events upto ≡ batch_of most h w
  part_given full number some =
      let more = some_reported (above_of h w upto) number some in
      sym (part_batch most h w count events upto more.0 more.1 so_far (omega (arith, room, full)) more.2)
