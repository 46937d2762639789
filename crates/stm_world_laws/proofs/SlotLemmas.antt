-- Slots over entries.
use Rattle.std.proofs.Common.{◌≡◌, ℕ, ◌+◌, ◌<◌, List, [], ◌∷◌, length, Option, Some, Bool, true, false, cond, refl, ◌∙◌, ap, arith, inl, inr, codes}
use Rattle.std.specs.Prelude.{◌⊎◌, nat_eq, is_some}
use Rattle.std.proofs.lemmas.Bool.Decides.{nat_tests}
use Rattle.stm_history.specs.declared.key_state.KeyState.{KeyState}
use Rattle.stm_history.specs.History.{History, now, key_now, mod_of, add_revision, state_after_put}
use Rattle.stm_history.proofs.HistoryLaws.{one_more_revision, absent_at_zero}
use Rattle.stm_history.specs.declared.change.Change.{Change}
use Rattle.stm_history.specs.declared.change.Change.TheVariants.{Put}
use Rattle.stm_program.specs.Writes.{latest_writes, last_write}
use Rattle.stm_program.proofs.WriteLemmas.{bytes_eq-self}
use Rattle.stm_steps.specs.declared.run.Run.{Run}
use Rattle.stm_steps.specs.declared.run.End.TheVariants.{Done as DoneEnd}
use Rattle.stm_meaning.specs.Leaves.{mod_rev_in}
use Rattle.stm_outcome.specs.Outcome.{with_changes}
use Rattle.stm_outcome.specs.Commits.{effective}
use Rattle.stm_compile.specs.Answers.{state_now}
use Rattle.stm_entries.specs.declared.entry.Entry.{Entry}
use Rattle.stm_entries.specs.Legal.{AreLegal}
use Rattle.stm_entries.specs.Replay.{replay, replay_entry}
use Rattle.stm_entries.specs.Replayed.{Replayed}
use Rattle.stm_entries.proofs.Replaying.{front_legal, rest_legal}
use Rattle.stm_recipes.specs.Alone.{deed_of, done, aborted, reserved}
use Rattle.stm_recipes.specs.Slots.{reserve_program}
use Rattle.stm_recipes.proofs.SlotRuns.{reserve_alone}
use Rattle.stm_world_laws.specs.Commits.{IsEndOfLease}
use Rattle.stm_world_laws.specs.Slots.{IsReservation, IsRelease, is_held, IsHeldBy, LeavesSlot, AreOfSlot, IsFreed, ReservationsTakeFreeSlots}
use Rattle.stm_world_laws.specs.Slots.{SlotsAreFreedBetween}
use Rattle.stm_world_laws.proofs.CommitLemmas.{Committed, committed, now_is_known}

-- ---- a reservation

-- a key whose modification revision is 0 is absent
absent_now : (h : History) (key : List ℕ) → nat_eq (mod_of (key_now h key)) 0 ≡ true → is_some (key_now h key) ≡ false
absent_now h key h3 = grind (arith, nat_tests, absent_at_zero)

-- a run that is done has found the slot free, and puts it
record Reserves (free : Bool) (slot holder : List ℕ) (lease : ℕ) (run : Run) : Type 0 where
  was_free : free ≡ true
  writes : run.writes ≡ Put slot holder lease ∷ []

reserves_by : (free : Bool) (slot holder : List ℕ) (lease : ℕ) (run : Run) → run.end ≡ DoneEnd →
    deed_of run ≡ (cond free (done (Put slot holder lease ∷ [])) (aborted (codes "held"))) → Reserves free slot holder lease run
reserves_by free slot holder lease run ended is = grind (arith, nat_tests)

-- one put is the latest writes
one_write : (slot holder : List ℕ) (lease : ℕ) → latest_writes (Put slot holder lease ∷ []) ≡ Put slot holder lease ∷ []
unfolding latest_writes last_write
one_write slot holder lease = refl

-- what a revision with one put makes of its key
put_state : (h : History) (slot holder : List ℕ) (lease : ℕ) →
    key_now (add_revision h (Put slot holder lease ∷ [])) slot ≡ Some (state_after_put (now h + 1) holder lease (key_now h slot))
put_state h slot holder lease = grind (arith, nat_tests, one_more_revision, bytes_eq-self)

held_by_put : (slot holder : List ℕ) (lease number : ℕ) (before : Option KeyState) (r : Replayed) →
    key_now r.history slot ≡ Some (state_after_put number holder lease before) → IsHeldBy slot holder lease r
held_by_put slot holder lease number before r is = grind (arith, nat_tests)

pub reservations_take_free_slots : ReservationsTakeFreeSlots
reservations_take_free_slots slot e r reserves named legal =
    let h : History = r.history in
    let holder : List ℕ = reserves.holder in
    let lease : ℕ = reserves.lease in
    let c : Committed (reserve_program slot holder lease) r (replay_entry e r) = committed (reserve_program slot holder lease) e r reserves.commits legal in
    let deed : deed_of c.run ≡ reserved slot holder lease (mod_rev_in (state_now h)) =
    reserve_alone (state_now h) slot holder lease (now_is_known h) named c.run c.alone in
    let is : Reserves (nat_eq (mod_of (key_now h slot)) 0) slot holder lease c.run =
    reserves_by (nat_eq (mod_of (key_now h slot)) 0) slot holder lease c.run c.is_done deed in
    let left : (replay_entry e r).history ≡ add_revision h (Put slot holder lease ∷ []) =
    c.left ∙ ap (λ (ws : List Change). with_changes h (effective h (latest_writes ws))) is.writes
    ∙ ap (λ (ws : List Change). with_changes h (effective h ws)) (one_write slot holder lease) in (
      absent_now h slot is.was_free,
      held_by_put slot holder lease (now h + 1) (key_now h slot) (replay_entry e r)
          (ap (λ (x : History). key_now x slot) left ∙ put_state h slot holder lease),
    )

-- ---- between two reservations

pub held_is_held : (slot holder : List ℕ) (lease : ℕ) (r : Replayed) → IsHeldBy slot holder lease r → is_held slot r ≡ true
held_is_held slot holder lease r held = ap (λ (s : Option KeyState). is_some s) held.is

-- a slot that is held stays so, or one of the entries frees it
held_or_freed : (slot : List ℕ) (es : List Entry) (r : Replayed) → 0 < length slot → AreLegal es r → AreOfSlot slot es r → is_held slot r ≡ true →
    (is_held slot (replay es r) ≡ true) ⊎ IsFreed slot es r
held_or_freed slot [] r named legal of held = inl held
held_or_freed slot (e ∷ es) r named legal of held = by (is_held slot (replay_entry e r)) refl (held_or_freed slot es (replay_entry e r) named legal.1 of.1)
  where
    later : IsFreed slot es (replay_entry e r) → IsFreed slot (e ∷ es) r
    later f = record {
      front = e ∷ f.front;
      by = f.by;
      rest = f.rest;
      parts = ap (λ (xs : List Entry). e ∷ xs) f.parts;
      held = f.held;
      freed = f.freed;
      how = f.how;
    }

    freed_by : is_held slot (replay_entry e r) ≡ false → IsRelease slot e ⊎ IsEndOfLease e → IsFreed slot (e ∷ es) r
    freed_by freed how = record { front = []; by = e; rest = es; parts = refl; held = held; freed = freed; how = how }

    frees : is_held slot (replay_entry e r) ≡ false → (IsReservation slot e ⊎ IsRelease slot e ⊎ IsEndOfLease e ⊎ LeavesSlot slot e r) → IsFreed slot (e ∷ es) r
    frees freed (inl reserves) =
        let was : is_held slot r ≡ false = (reservations_take_free_slots slot e r reserves named legal.0).0 in
        absurd (cc)
    frees freed (inr (inl releases)) = freed_by freed (inl releases)
    frees freed (inr (inr (inl ends))) = freed_by freed (inr ends)
    frees freed (inr (inr (inr leaves))) =
        let same : is_held slot (replay_entry e r) ≡ is_held slot r = ap (λ (s : Option KeyState). is_some s) leaves in
        absurd (cc)

    on : (is_held slot (replay es (replay_entry e r)) ≡ true) ⊎ IsFreed slot es (replay_entry e r) →
        (is_held slot (replay es (replay_entry e r)) ≡ true) ⊎ IsFreed slot (e ∷ es) r
    on (inl stays) = inl stays
    on (inr f) = inr (later f)

    by : (now_held : Bool) → is_held slot (replay_entry e r) ≡ now_held →
        (is_held slot (replay_entry e r) ≡ true → (is_held slot (replay es (replay_entry e r)) ≡ true) ⊎ IsFreed slot es (replay_entry e r)) →
        (is_held slot (replay es (replay_entry e r)) ≡ true) ⊎ IsFreed slot (e ∷ es) r
    by true is goes = on (goes is)
    by false is goes = inr (frees is of.0)

freed_not_held : (slot : List ℕ) (es : List Entry) (r : Replayed) → is_held slot (replay es r) ≡ false →
    (is_held slot (replay es r) ≡ true) ⊎ IsFreed slot es r → IsFreed slot es r
freed_not_held slot es r free h5 = grind (arith, nat_tests)

pub slots_are_freed_between : SlotsAreFreedBetween
slots_are_freed_between slot first second between r named legal reserves again of =
    let after : Replayed = replay_entry first r in
    let took = reservations_take_free_slots slot first r reserves named legal.0 in
    let held : is_held slot after ≡ true = held_is_held slot reserves.holder reserves.lease after took.1 in
    let front : AreLegal between after = front_legal between (second ∷ []) after legal.1 in
    let last : AreLegal (second ∷ []) (replay between after) = rest_legal between (second ∷ []) after legal.1 in
    let free : is_held slot (replay between after) ≡ false =
    (reservations_take_free_slots slot second (replay between after) again named last.0).0 in
    freed_not_held slot between after free (held_or_freed slot between after named front of held)
