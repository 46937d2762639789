-- What the events about watchers report and leave.
use Rattle.std.proofs.Common.{◌≡◌, ◌≢◌, ℕ, ◌-◌, Bool, false, cond, List, [], Option, Some, None, Result, Ok, Err, refl, ap, slice_set, arith}
use Rattle.std.specs.Prelude.{IsOk}
use Rattle.std.proofs.lemmas.Bool.Decides.{nat_tests}
use Rattle.stm_watch.specs.Watching.{Watching}
use Rattle.stm_watch.specs.declared.watchers.Batch.{Batch}
use Rattle.stm_watch.specs.declared.refusal.PollRefusal.TheVariants.{Compacted as LostToPoll}
use Rattle.stm_watch.specs.Pending.{batch_of, after_poll}
use Rattle.stm_watch.specs.Calls.{watcher_at, poll_found}
use Rattle.stm_outcome.specs.declared.refusal.Refusal.{Refusal as StoreRefusal}
use Rattle.stm_outcome.specs.declared.refusal.Refusal.TheVariants.{OutOfMemory, NoWatcher, Compacted}
use Rattle.stm_txn.specs.Standing.{Standing, Step as StoreStep, IsRefusalOf, poll_step, polled, poll_refused}
use Rattle.stm_entries.specs.declared.entry.Entry.{Entry}
use Rattle.stm_events.specs.declared.event.WorldEvent.{WorldEvent}
use Rattle.stm_events.specs.declared.event.WorldEvent.TheVariants.{Poll}
use Rattle.stm_events.specs.declared.reply.Reply.{Reply}
use Rattle.stm_events.specs.declared.reply.Reply.TheVariants.{Lost}
use Rattle.stm_events.specs.declared.refusal.Denied.{Denied}
use Rattle.stm_events.specs.Replies.{event_refusal, denied, reply_to, batch_reply, poll_reply, store_after_call, store_after_poll}
use Rattle.stm_world.specs.World.{Slot, Stepped, step, after_quiet_call}
use Rattle.stm_retry.specs.Returns.{OutOfMemoryReturns}
use Rattle.stm_retry.specs.CallReturns.{CallReturns}
use Rattle.stm_world.proofs.Wants.{NeverWants}
use Rattle.stm_journal.specs.JournalState.{JournalState, with_store}
use Rattle.stm_retry.proofs.CallLemmas.{refusal_reports, world_with, QuietReturns, quiet_returns}

-- ---- what is reported ----

-- the world's step at an event is this call of the store, which is no entry
abbrev pub IsWatchCall : {A : Type 0} → WorldEvent → (A → Reply) → Standing → Result (StoreStep A) StoreRefusal → Type 0
IsWatchCall event report s o =
    (runners : List Slot) (es : List Entry) → step event (world_with runners s es) ≡ after_quiet_call (reply_to report o) (store_after_call s o) (world_with runners s es)

-- the event may be refused as out of memory where the step takes it
abbrev pub MayWant : WorldEvent → Standing → Type 0
MayWant event s = (runners : List Slot) (es : List Entry) → IsOk (step event (world_with runners s es)).reply →
    OutOfMemoryReturns event [] (world_with runners s es) (world_with runners s es)

pub watch_taken : {A : Type 0} (event : WorldEvent) (report : A → Reply) (before after : JournalState) (o : Result (StoreStep A) StoreRefusal) (answer : A)
    (reply : Result Reply Denied) → IsWatchCall event report before.standing o → o ≡ Ok record { answer = answer; next = after.standing } →
    after ≡ with_store before after.standing → reply ≡ Ok (report answer) → CallReturns event reply before after
watch_taken event report before after o answer reply call taken same replied = grind (arith, nat_tests, quiet_returns, world_with)

-- one that was refused, by the store or since memory ran out
pub watch_refused : {A : Type 0} (event : WorldEvent) (report : A → Reply) (before after : JournalState) (o : Result (StoreStep A) StoreRefusal)
    (reply : Result Reply Denied) (cause : StoreRefusal) → IsWatchCall event report before.standing o → MayWant event before.standing → NeverWants o →
    IsRefusalOf o cause → reply ≡ denied (event_refusal cause) → after ≡ before → CallReturns event reply before after
watch_refused event report before after o reply cause call want never refusal replied same runners = grind (arith, nat_tests, refusal_reports, world_with)

-- ---- a poll that was refused ----

-- the watcher at its place, by whether it is lost
abbrev poll_of : Standing → ℕ → ℕ → Watching → Bool → Result (StoreStep Batch) StoreRefusal
poll_of s id most w lost = poll_step s (cond lost (Err LostToPoll) (Ok (record {
  answer = batch_of most s.history w;
  next = slice_set s.watchers (id - 1) (Some (after_poll most s.history w));
})))

-- what the world's step makes of the poll
abbrev poll_stepped : Standing → ℕ → Result (StoreStep Batch) StoreRefusal → List Slot → List Entry → Stepped
poll_stepped s id o runners es = after_quiet_call (poll_reply id s.floor o) (store_after_poll id s o) (world_with runners s es)

stepped_as : (s : Standing) (id most : ℕ) (o : Result (StoreStep Batch) StoreRefusal) → polled s id most ≡ o → (runners : List Slot) (es : List Entry) →
    step (Poll id most) (world_with runners s es) ≡ poll_stepped s id o runners es
stepped_as s id most o is runners es = ap (λ (x : Result (StoreStep Batch) StoreRefusal). poll_stepped s id x runners es) is

-- none was there
none_reports : (s : Standing) (id most : ℕ) → polled s id most ≡ Err NoWatcher → QuietReturns (Poll id most) (denied (event_refusal NoWatcher)) s (poll_refused s id)
none_reports s id most is es runners = grind (arith, nat_tests, world_with, stepped_as)

-- an allocation failed
out_of_memory_reports : (s : Standing) (id most : ℕ) (done : StoreStep Batch) → polled s id most ≡ Ok done →
    QuietReturns (Poll id most) (denied (event_refusal OutOfMemory)) s s
out_of_memory_reports s id most done is es runners = grind (arith, nat_tests, world_with, stepped_as)

-- another reply and store that are the same
reported_alike : (event : WorldEvent) (s next next' : Standing) (reply reply' : Result Reply Denied) → reply ≡ reply' → next ≡ next' →
    QuietReturns event reply' s next' → QuietReturns event reply s next
reported_alike event s next next' reply reply' replied same reports es runners = grind (arith, nat_tests, world_with)

not_lost_stays : (s : Standing) (id : ℕ) (w : Watching) → watcher_at id s.watchers ≡ Some w → w.lost ≡ false → poll_refused s id ≡ s
not_lost_stays s id w found kept = grind (arith, nat_tests)

refusal_by_lost : (s next : Standing) (id most floor : ℕ) (reply : Result Reply Denied) (cause : StoreRefusal) (w : Watching) (lost : Bool) →
    watcher_at id s.watchers ≡ Some w → w.lost ≡ lost → polled s id most ≡ poll_of s id most w lost → IsRefusalOf (poll_of s id most w lost) cause →
    (cause ≡ Compacted → reply ≡ Ok (Lost id floor)) → (cause ≢ Compacted → reply ≡ denied (event_refusal cause)) → floor ≡ s.floor → next ≡ poll_refused s id →
    QuietReturns (Poll id most) reply s next
refusal_by_lost s next id most floor reply cause w lost found is step refusal h14 other floor_is left =
    grind (arith, nat_tests, reported_alike, not_lost_stays, out_of_memory_reports, world_with, stepped_as)

refusal_by_place : (s next : Standing) (id most floor : ℕ) (reply : Result Reply Denied) (cause : StoreRefusal) (o : Option Watching) →
    watcher_at id s.watchers ≡ o → polled s id most ≡ poll_step s (poll_found s.history id most s.watchers o) →
    IsRefusalOf (poll_step s (poll_found s.history id most s.watchers o)) cause →
    (cause ≡ Compacted → reply ≡ Ok (Lost id floor)) → (cause ≢ Compacted → reply ≡ denied (event_refusal cause)) → floor ≡ s.floor → next ≡ poll_refused s id →
    QuietReturns (Poll id most) reply s next
refusal_by_place s next id most floor reply cause None found step refusal lost other floor_is left = grind (arith, nat_tests, reported_alike, none_reports)
refusal_by_place s next id most floor reply cause (Some w) found step refusal lost other floor_is left = grind (arith, nat_tests, refusal_by_lost)

-- a poll that was refused, by the store, since the watcher is lost, or since memory ran out
pub poll_refusal_reports : (before after : JournalState) (id most floor : ℕ) (reply : Result Reply Denied) (cause : StoreRefusal) →
    IsRefusalOf (polled before.standing id most) cause → (cause ≡ Compacted → reply ≡ Ok (Lost id floor)) →
    (cause ≢ Compacted → reply ≡ denied (event_refusal cause)) → floor ≡ before.standing.floor → after.standing ≡ poll_refused before.standing id →
    after ≡ with_store before after.standing → CallReturns (Poll id most) reply before after
poll_refusal_reports before after id most floor reply cause refusal lost other floor_is left same =
    let s : Standing = before.standing in
    quiet_returns (Poll id most) reply before after same
    (refusal_by_place s after.standing id most floor reply cause (watcher_at id s.watchers) refl refl refusal lost other floor_is left)

-- one that the store took
pub poll_taken : (before after : JournalState) (id most : ℕ) (batch : Batch) →
    polled before.standing id most ≡ Ok record { answer = batch; next = after.standing } → after ≡ with_store before after.standing →
    CallReturns (Poll id most) (Ok (batch_reply id batch)) before after
poll_taken before after id most batch taken same = grind (arith, nat_tests, quiet_returns, world_with, stepped_as)
