-- Each watcher is notified of all: line by line, what it was notified of and what is pending make up the whole.
use Rattle.std.proofs.Common.{◌≡◌, ◌≢◌, ℕ, ◌+◌, ◌-◌, ◌<◌, ◌≤◌, zero, suc, List, [], ◌∷◌, ◌++◌, length, Option, Some, None, Ok, Err}
use Rattle.std.proofs.Common.{Bool, true, false, cond, refl, sym, ◌∙◌, ap, subst, arith, append-nil, slice_index_or, slice_set}
use Rattle.std.proofs.lemmas.Bool.{or_cases, Decides.nat_tests}
use Rattle.std.proofs.lemmas.List.{length-set, length-append, length-map, get_or-set_same, get_or-set_other}
use Rattle.std.specs.Prelude.{nat_eq, nat_lt, nat_le, option_map, Result, ◌||◌}
use Rattle.stm_history.specs.History.{History, now}
use Rattle.stm_keys.specs.declared.event.Event.{Event}
use Rattle.stm_watch.specs.declared.watched.Watched.{Watched}
use Rattle.stm_watch.specs.declared.watched.Watched.TheVariants.{Key, Range}
use Rattle.stm_watch.specs.Watching.{Watching}
use Rattle.stm_watch.specs.Keys.{first_key}
use Rattle.stm_watch.specs.Pending.{watching_from, batch_of, after_poll}
use Rattle.stm_watch.specs.declared.watchers.Batch.{Batch}
use Rattle.stm_watch.specs.declared.refusal.WatchRefusal.{WatchRefusal}
use Rattle.stm_watch.specs.declared.refusal.WatchRefusal.TheVariants.{EmptyKey}
use Rattle.stm_watch.specs.Calls.{watcher_at, compacted_one, compacted, poll_found, Step as WatchStep}
use Rattle.stm_watch.specs.declared.refusal.PollRefusal.TheVariants.{Compacted as LostToPoll}
use Rattle.stm_outcome.specs.declared.refusal.Refusal.{Refusal as StoreRefusal}
use Rattle.stm_outcome.specs.declared.refusal.Refusal.TheVariants.{Compacted as CompactedRefusal, FutureRevision}
use Rattle.stm_txn.specs.Standing.{Standing, Step as StoreStep, with_watchers, watch_step, poll_step, cancel_step, with_floor, floor_step, Setup}
use Rattle.stm_events.specs.declared.event.WorldEvent.{WorldEvent}
use Rattle.stm_events.specs.declared.event.WorldEvent.TheVariants.{WatchKey, WatchRange, Poll, Cancel, Compact}
use Rattle.stm_events.specs.declared.reply.Reply.{Reply}
use Rattle.stm_events.specs.declared.reply.Reply.TheVariants.{Watching as WatchingReply, Cancelled}
use Rattle.stm_events.specs.declared.refusal.Denied.{Denied}
use Rattle.stm_events.specs.Replies.{reply_to, batch_reply, poll_reply, store_after_call, store_after_poll}
use Rattle.stm_world.specs.Task.{Task}
use Rattle.stm_world.specs.Log.{Line, is_id, begun, store_after_step, store_after_asked, store}
use Rattle.stm_world.specs.Right.{IsRight, AreRight}
use Rattle.stm_world.specs.Headline.{Headline}
use Rattle.stm_world_laws.specs.Notifying.{made, made_by, begun_watching, events_in, reported_by, events_to, watcher_given_up, gives_up, is_given_up, watching}
use Rattle.stm_world_laws.specs.Notifying.{IsLostFor, IsNotifiedSo, WatchersAreNotified}
use Rattle.stm_world.proofs.Polling.{HasReported, begun_reports, polled_reports, lost_under}
use Rattle.stm_world.proofs.Truth.{Keeps}
use Rattle.stm_world.proofs.EventKeeps.{event_goes_on, store_kept}
use Rattle.stm_world.proofs.KeptFor.{kept_at}
use Rattle.stm_world.proofs.Slots.{equal_numbers, same_number, other_number, differ}
use Rattle.stm_events.specs.Called as call
use Rattle.stm_events.specs.Called.{Asked, Starts, Steps, Calls, asked}
use Rattle.stm_events.proofs.StoreKeeps.{StoreKeeps, store_keeps}

-- ---- the watchers stay at an event that is about no watcher

step_stays : (task_of : ℕ → Option Task) (s : Standing) (reply : Result Reply Denied) → (store_after_step task_of s reply).watchers ≡ s.watchers
step_stays task_of s reply = grind (arith, nat_tests)

watchers_kept : StoreKeeps (λ c. call.is_entered c ≡ true) (λ s next. next.watchers ≡ s.watchers)
watchers_kept = grind (arith, nat_tests)

-- a start, a step or a call that is entered
abbrev is_about_none : Asked → Bool
is_about_none (Calls c) = call.is_entered c
is_about_none other = true

watchers_stay : (task_of : ℕ → Option Task) (s : Standing) (reply : Result Reply Denied) (a : Asked) → is_about_none a ≡ true →
    (store_after_asked task_of a reply s).watchers ≡ s.watchers
watchers_stay task_of s reply a of = grind (arith, nat_tests, step_stays, store_keeps, watchers_kept)

-- ---- line by line

abbrev with_line : WorldEvent → Result Reply Denied → List Line → List Line
with_line event reply log = record { event = event; reply = reply } ∷ log

-- a line that notifies a watcher of nothing, does not make it, and does not give it up
record IsQuiet (s : Standing) (id : ℕ) (event : WorldEvent) (reply : Result Reply Denied) : Type 0 where
  reported : reported_by id event reply ≡ []
  made : made_by id s event reply ≡ None
  kept : gives_up id event reply ≡ false

-- a watcher that stands so began by the log, and was notified of all
record IsBegun (start : Setup) (log : List Line) (id : ℕ) (w : Watching) : Type 0 where
  begun : Watching
  is_begun : watching start id log ≡ Some begun
  reports : HasReported (store start log).history (events_to id log) begun w
  because : IsLostFor (store start log).history (store start log).floor begun w

-- what the log says of a number, by what stands there
abbrev IsReported : Setup → List Line → ℕ → Option Watching → Type 0
IsReported start log id None = watching start id log ≡ None
IsReported start log id (Some w) = IsBegun start log id w

-- a number that was not given
record IsNew (log : List Line) (id : ℕ) : Type 0 where
  nothing : events_to id log ≡ []
  kept : is_given_up id log ≡ false

record AreReported (start : Setup) (log : List Line) : Type 0 where
  fresh : (id : ℕ) → length (store start log).watchers < id → IsNew log id
  each : (id : ℕ) → IsReported start log id (watcher_at id (store start log).watchers)

-- a cause for which a watcher is lost stays one
cause_stays : (s after : Standing) (begun w : Watching) → Keeps s.history after.history → s.floor ≤ after.floor → IsLostFor s.history s.floor begun w →
    IsLostFor after.history after.floor begun w
cause_stays s after begun w keeps up because lost = grind (arith, nat_tests, lost_under)

same_watching : (start : Setup) (log : List Line) (event : WorldEvent) (reply : Result Reply Denied) (id : ℕ) →
    IsQuiet (store start log) id event reply → watching start id (with_line event reply log) ≡ watching start id log
same_watching start log event reply id q = grind (arith, nat_tests)

same_reported : (start : Setup) (log : List Line) (event : WorldEvent) (reply : Result Reply Denied) (id : ℕ) (o : Option Watching) →
    IsQuiet (store start log) id event reply → IsReported start log id o → IsReported start (with_line event reply log) id o
same_reported start log event reply id None q is = same_watching start log event reply id q ∙ is
same_reported start log event reply id (Some w) q is =
    let s : Standing = store start log in
    let next : Standing = store start (with_line event reply log) in
    let after : History = next.history in
    let keeps : Keeps s.history after = (event_goes_on (λ runner. begun runner log) event reply s).keeps in
    let same : events_to id log ≡ events_to id (with_line event reply log) =
    sym (ap (λ (es : List Event). events_to id log ++ es) q.reported ∙ append-nil (events_to id log)) in
    record {
      begun = is.begun;
      is_begun = same_watching start log event reply id q ∙ is.is_begun;
      reports = subst (λ (es : List Event). HasReported after es is.begun w) same
          (keeps.carries (events_to id log) is.begun w is.reports);
      because = cause_stays s next is.begun w keeps (event_goes_on (λ runner. begun runner log) event reply s).floor is.because;
    }

still_new : (log : List Line) (event : WorldEvent) (reply : Result Reply Denied) (id : ℕ) → reported_by id event reply ≡ [] →
    gives_up id event reply ≡ false → IsNew log id → IsNew (with_line event reply log) id
still_new log event reply id reported kept new = grind (arith, nat_tests, append-nil)

-- a line that is about no watcher
quiet : (start : Setup) (log : List Line) (event : WorldEvent) (reply : Result Reply Denied) → AreReported start log →
    ((id : ℕ) → IsQuiet (store start log) id event reply) →
    (store start (with_line event reply log)).watchers ≡ (store start log).watchers → AreReported start (with_line event reply log)
quiet start log event reply are q stays = grind (arith, nat_tests, still_new, same_reported)

-- ---- places of watchers

new_place : (ws : List (Option Watching)) (o : Option Watching) → slice_index_or (ws ++ o ∷ []) (length ws) None ≡ o
new_place [] o = refl
new_place (x ∷ ws) o = new_place ws o

old_place : (ws : List (Option Watching)) (o : Option Watching) (i : ℕ) → i ≢ length ws →
    slice_index_or (ws ++ o ∷ []) i None ≡ slice_index_or ws i None
old_place [] o zero ne = absurd (ne refl)
old_place [] o (suc i) ne = refl
old_place (x ∷ ws) o zero ne = refl
old_place (x ∷ ws) o (suc i) ne = old_place ws o i (λ e. ne (ap suc e))

place_within : (ws : List (Option Watching)) (i : ℕ) (w : Watching) → slice_index_or ws i None ≡ Some w → i < length ws
place_within [] i w is = absurd (cc)
place_within (x ∷ ws) zero w is = omega arith
place_within (x ∷ ws) (suc i) w is = let rest : i < length ws = place_within ws i w is in omega arith

-- a watcher that is there has a number above 0, and at most their number
watcher_there : (id : ℕ) (ws : List (Option Watching)) (w : Watching) → watcher_at id ws ≡ Some w → (0 < id) × (id ≤ length ws)
watcher_there id ws w found = grind (arith, nat_tests, place_within, differ)

at_positive : (id : ℕ) (o : Option Watching) → 0 < id → cond (nat_eq id 0) None o ≡ o
at_positive id o some = ap (λ b. cond b None o) (other_number id 0 (omega arith))

by_number : (id : ℕ) (P Q : Option Watching) → (id ≢ 0 → P ≡ Q) → cond (nat_eq id 0) None P ≡ cond (nat_eq id 0) None Q
by_number id P Q alike = elim (nat_eq id 0) as (λ b. nat_eq id 0 ≡ b → cond b None P ≡ cond b None Q) [
  | true ↦ λ e. refl
  | false ↦ λ e. alike (differ id 0 e)
] refl

watcher_new : (ws : List (Option Watching)) (o : Option Watching) → watcher_at (length ws + 1) (ws ++ o ∷ []) ≡ o
watcher_new ws o =
    at_positive (length ws + 1) (slice_index_or (ws ++ o ∷ []) (length ws + 1 - 1) None) (omega arith)
    ∙ ap (λ n. slice_index_or (ws ++ o ∷ []) n None) last
    ∙ new_place ws o
  where
    last : length ws + 1 - 1 ≡ length ws
    last = omega arith

watcher_old : (ws : List (Option Watching)) (o : Option Watching) (id : ℕ) → length ws + 1 ≢ id → watcher_at id (ws ++ o ∷ []) ≡ watcher_at id ws
watcher_old ws o id ne = grind (arith, nat_tests, by_number, old_place)

watcher_own : (id : ℕ) (ws : List (Option Watching)) (o : Option Watching) → 0 < id → id ≤ length ws → watcher_at id (slice_set ws (id - 1) o) ≡ o
watcher_own id ws o some within = grind (arith, nat_tests, at_positive, get_or-set_same)

watcher_other : (id other : ℕ) (ws : List (Option Watching)) (o : Option Watching) → 0 < id → id ≢ other →
    watcher_at other (slice_set ws (id - 1) o) ≡ watcher_at other ws
watcher_other id other ws o some ne = grind (arith, nat_tests, by_number, get_or-set_other)

-- ---- a watch

-- a line that makes a watcher
watcher_begins : (start : Setup) (log : List Line) (event : WorldEvent) (reply : Result Reply Denied) (w : Watching) → AreReported start log →
    ((id : ℕ) → reported_by id event reply ≡ []) → ((id : ℕ) → gives_up id event reply ≡ false) →
    ((id : ℕ) → made_by id (store start log) event reply
    ≡ cond (nat_eq (length (store start log).watchers + 1) id) (Some w) None) →
    store start (with_line event reply log) ≡ with_watchers (store start log) ((store start log).watchers ++ Some w ∷ []) →
    AreReported start (with_line event reply log)
watcher_begins start log event reply w are reported kept made leaves =
    grind (arith, nat_tests, length-append, still_new, equal_numbers, watcher_new, HasReported, begun_reports, differ, watcher_old, same_reported)

abbrev watch_of : Standing → Watched → ℕ → Bool → Result (WatchStep ℕ) WatchRefusal
watch_of s keys from empty =
    cond empty (Err EmptyKey) (Ok (record { answer = length s.watchers + 1; next = s.watchers ++ Some (watching_from s.history s.floor keys from) ∷ [] }))

watch_by : (start : Setup) (log : List Line) (event : WorldEvent) (reply : Result Reply Denied) (keys : Watched) (from : ℕ) (empty : Bool) →
    AreReported start log → ((id : ℕ) → reported_by id event reply ≡ []) → ((id : ℕ) → gives_up id event reply ≡ false) →
    ((id : ℕ) → made_by id (store start log) event reply ≡ made id (watching_from (store start log).history (store start log).floor keys from) reply) →
    reply ≡ reply_to WatchingReply (watch_step (store start log) (watch_of (store start log) keys from empty)) →
    store start (with_line event reply log) ≡ store_after_call (store start log) (watch_step (store start log) (watch_of (store start log) keys from empty)) →
    AreReported start (with_line event reply log)
watch_by start log event reply keys from true are reported kept made_so right leaves = grind (arith, nat_tests, quiet)
watch_by start log event reply keys from false are reported kept made_so right leaves = grind (arith, nat_tests, watcher_begins)

-- ---- a watcher that is given up

-- a line that gives a watcher up
watcher_goes : (start : Setup) (log : List Line) (event : WorldEvent) (reply : Result Reply Denied) (id : ℕ) (w : Watching) → AreReported start log →
    watcher_at id (store start log).watchers ≡ Some w → ((other : ℕ) → reported_by other event reply ≡ []) →
    ((other : ℕ) → made_by other (store start log) event reply ≡ None) → ((other : ℕ) → gives_up other event reply ≡ nat_eq id other) →
    (store start (with_line event reply log)).watchers ≡ slice_set (store start log).watchers (id - 1) None → AreReported start (with_line event reply log)
watcher_goes start log event reply id w are found reported made up stands =
    grind (arith, nat_tests, watcher_there, length-set, other_number, still_new, equal_numbers, watcher_own, differ, watcher_other, same_reported)

cancel_by : (start : Setup) (log : List Line) (reply : Result Reply Denied) (id : ℕ) (o : Option Watching) → AreReported start log →
    watcher_at id (store start log).watchers ≡ o → reply ≡ reply_to (λ _. Cancelled id) (cancel_step (store start log) id o) →
    store start (with_line (Cancel id) reply log) ≡ store_after_call (store start log) (cancel_step (store start log) id o) →
    AreReported start (with_line (Cancel id) reply log)
cancel_by start log reply id o are found right leaves = grind (arith, nat_tests, quiet, watcher_goes)

-- ---- a poll

-- what a poll of a watcher comes to, by whether it is lost
abbrev poll_of : Standing → ℕ → ℕ → Watching → Bool → Result (StoreStep Batch) StoreRefusal
poll_of s id most w lost = poll_step s (cond lost (Err LostToPoll) (Ok (record {
  answer = batch_of most s.history w;
  next = slice_set s.watchers (id - 1) (Some (after_poll most s.history w));
})))

nothing_either_way : (b : Bool) → cond b [] [] ≡ (let es : List Event = [] in es)
nothing_either_way b = grind (arith, nat_tests)

-- the watcher that is polled
polled_reported : (start : Setup) (log : List Line) (reply : Result Reply Denied) (id most : ℕ) (w : Watching) → IsBegun start log id w → w.lost ≡ false →
    reply ≡ Ok (batch_reply id (batch_of most (store start log).history w)) →
    (store start (with_line (Poll id most) reply log)).history ≡ (store start log).history →
    IsBegun start (with_line (Poll id most) reply log) id (after_poll most (store start log).history w)
polled_reported start log reply id most w is not_lost right history =
    let h : History = (store start log).history in
    let next : Watching = after_poll most h w in
    let reported : (batch_of most h w).events ≡ reported_by id (Poll id most) reply =
    sym (ap (λ b. cond b (events_in reply) []) (same_number id) ∙ ap events_in right) in
    let kept : gives_up id (Poll id most) reply ≡ false = ap (λ (r : Result Reply Denied). is_id id (watcher_given_up r)) right in
    record {
      begun = is.begun;
      is_begun = ap (λ b. cond (b || is_given_up id log) None (begun_watching start id log)) kept ∙ is.is_begun;
      reports = subst (λ (x : History). HasReported x (events_to id log ++ reported_by id (Poll id most) reply) is.begun next) (sym history)
          (subst (λ (es : List Event). HasReported h (events_to id log ++ es) is.begun next) reported
          (polled_reports most h (events_to id log) is.begun w is.reports));
      because = λ lost. let both : true ≡ false = sym lost ∙ not_lost in absurd (cc);
    }

poll_by : (start : Setup) (log : List Line) (reply : Result Reply Denied) (id most : ℕ) (w : Watching) (lost : Bool) → AreReported start log →
    watcher_at id (store start log).watchers ≡ Some w → w.lost ≡ lost → reply ≡ poll_reply id (store start log).floor (poll_of (store start log) id most w lost) →
    store start (with_line (Poll id most) reply log) ≡ store_after_poll id (store start log) (poll_of (store start log) id most w lost) →
    AreReported start (with_line (Poll id most) reply log)
poll_by start log reply id most w lost are found is right leaves =
    grind (arith, nat_tests, watcher_goes, nothing_either_way, watcher_there, length-set, other_number, still_new, equal_numbers, watcher_own, polled_reported, differ, watcher_other, same_reported)

-- by what stands at the watcher's place
polled_by : (start : Setup) (log : List Line) (reply : Result Reply Denied) (id most : ℕ) (o : Option Watching) → AreReported start log →
    watcher_at id (store start log).watchers ≡ o →
    reply ≡ poll_reply id (store start log).floor (poll_step (store start log) (poll_found (store start log).history id most (store start log).watchers o)) →
    store start (with_line (Poll id most) reply log)
    ≡ store_after_poll id (store start log) (poll_step (store start log) (poll_found (store start log).history id most (store start log).watchers o)) →
    AreReported start (with_line (Poll id most) reply log)
polled_by start log reply id most o are found right leaves = grind (arith, nat_tests, poll_by, quiet, nothing_either_way)

-- ---- a compaction

-- a watcher may be lost by it, but what it was notified of and what is pending stay
compacted_reported : (start : Setup) (log : List Line) (id : ℕ) (h : History) (floor : ℕ) (o : Option Watching) → (store start log).history ≡ h →
    (store start log).floor ≡ floor → IsReported start log id o → IsReported start log id (option_map (compacted_one h floor) o)
compacted_reported start log id h floor o history floor_is is = grind (arith, nat_tests, or_cases)

place_compacted : (h : History) (floor : ℕ) (ws : List (Option Watching)) (i : ℕ) →
    slice_index_or (compacted h floor ws) i None ≡ option_map (compacted_one h floor) (slice_index_or ws i None)
place_compacted h floor [] zero = refl
place_compacted h floor [] (suc i) = refl
place_compacted h floor (x ∷ ws) zero = refl
place_compacted h floor (x ∷ ws) (suc i) = place_compacted h floor ws i

watcher_compacted : (h : History) (floor : ℕ) (ws : List (Option Watching)) (id : ℕ) →
    watcher_at id (compacted h floor ws) ≡ option_map (compacted_one h floor) (watcher_at id ws)
watcher_compacted h floor ws id = grind (arith, nat_tests, place_compacted)

compact_by : (start : Setup) (log : List Line) (reply : Result Reply Denied) (revision : ℕ) (again future : Bool) → AreReported start log →
    store start (with_line (Compact revision) reply log) ≡ store_after_call (store start log)
    (floor_step (cond again (Some CompactedRefusal) (cond future (Some FutureRevision) None)) (with_floor (store start log) revision)) →
    AreReported start (with_line (Compact revision) reply log)
compact_by start log reply revision true future are leaves =
    quiet start log (Compact revision) reply are (λ id. record { reported = refl; made = refl; kept = refl }) (ap (λ (x : Standing). x.watchers) leaves)
compact_by start log reply revision false true are leaves =
    quiet start log (Compact revision) reply are (λ id. record { reported = refl; made = refl; kept = refl }) (ap (λ (x : Standing). x.watchers) leaves)
compact_by start log reply revision false false are leaves =
    let s : Standing = store start log in
    let after : List Line = with_line (Compact revision) reply log in
    let ws : List (Option Watching) = compacted s.history revision s.watchers in
    let stands : (store start after).watchers ≡ ws = ap (λ (x : Standing). x.watchers) leaves in
    record {
      fresh = λ id above.
          let more : length ws < id = subst (λ (l : List (Option Watching)). length l < id) stands above in
          let count : length ws ≡ length s.watchers = length-map s.watchers (option_map (compacted_one s.history revision)) in
          let old : length s.watchers < id = omega arith in
          still_new log (Compact revision) reply id refl refl (are.fresh id old);
      each = λ id.
          subst (λ (l : List (Option Watching)). IsReported start after id (watcher_at id l)) (sym stands)
          (subst (IsReported start after id) (sym (watcher_compacted s.history revision s.watchers id))
          (compacted_reported start after id s.history revision (watcher_at id s.watchers) (ap (λ (x : Standing). x.history) leaves)
          (ap (λ (x : Standing). x.floor) leaves) (same_reported start log (Compact revision) reply id (watcher_at id s.watchers)
          (record { reported = refl; made = refl; kept = refl }) (are.each id))));
    }

-- ---- every line

reported_more : (start : Setup) (log : List Line) (event : WorldEvent) (reply : Result Reply Denied) → IsRight start log event reply → AreReported start log →
    AreReported start (with_line event reply log)
reported_more start log (WatchKey key from) reply right are =
    watch_by start log (WatchKey key from) reply (Key key) from (nat_eq (length (first_key (Key key))) 0) are (λ id. refl) (λ id. refl)
    (λ id. refl) right refl
reported_more start log (WatchRange first end from) reply right are =
    watch_by start log (WatchRange first end from) reply (Range first end) from (nat_eq (length (first_key (Range first end))) 0) are (λ id. refl)
    (λ id. refl) (λ id. refl) right refl
reported_more start log (Poll watcher most) reply right are =
    polled_by start log reply watcher most (watcher_at watcher (store start log).watchers) are refl right refl
reported_more start log (Cancel watcher) reply right are =
    cancel_by start log reply watcher (watcher_at watcher (store start log).watchers) are refl right refl
reported_more start log (Compact revision) reply right are =
    let s : Standing = store start log in
    compact_by start log reply revision (nat_le revision s.floor) (nat_lt (now s.history) revision) are refl
reported_more start log event reply right are =
    quiet start log event reply are (λ id. record { reported = refl; made = refl; kept = refl })
    (watchers_stay (λ n. begun n log) (store start log) reply (asked event) refl)

none_there : (id : ℕ) → watcher_at id [] ≡ (let o : Option Watching = None in o)
none_there id = grind (arith, nat_tests)

are_reported : (start : Setup) (log : List Line) → AreRight start log → AreReported start log
are_reported start [] right = grind (arith, nat_tests, none_there)
are_reported start (line ∷ log) right = reported_more start log line.event line.reply right.0 (are_reported start log right.1)

reported_so : (start : Setup) (log : List Line) (id : ℕ) (o : Option Watching) → watcher_at id (store start log).watchers ≡ o → IsReported start log id o →
    IsNotifiedSo start log id (watching start id log)
reported_so start log id o found is = grind (arith, nat_tests, kept_at, store_kept)

pub watchers_are_notified : Headline → WatchersAreNotified
watchers_are_notified headline start events =
    let run = headline start events in (
      run.log,
      run.is_log,
      λ id. reported_so start run.log id (watcher_at id (store start run.log).watchers) refl ((are_reported start run.log run.right).each id),
    )
