-- The numbers of the events of a batch fit.
use Rattle.std.proofs.Common.{◌≡◌, ℕ, zero, suc, ◌+◌, ◌≤◌, true, false, cond, List, [], ◌∷◌, ◌++◌, map, take, Option, Some, subst, arith}
use Rattle.std.specs.Prelude.{nat_lt, Ok}
use Rattle.std.proofs.lemmas.Bool.Decides.{nat_tests}
use Rattle.stm_history.specs.declared.change.Change.{Change}
use Rattle.stm_history.specs.declared.change.Change.TheVariants.{Put as PutChange, Del as DelChange}
use Rattle.stm_history.specs.declared.key_state.KeyState.{KeyState}
use Rattle.stm_history.specs.declared.revisions.TheConstants.{HIGHEST_REVISION, HIGHEST_NUMBER}
use Rattle.stm_history.specs.Opening.{Opening}
use Rattle.stm_history.specs.History.{History, number_of_last, now, key_now, state_after_put}
use Rattle.stm_history.proofs.HistoryLaws.{numbers_stay_small, last_revision_is_now}
use Rattle.stm_keys.specs.declared.event.Event.{Event}
use Rattle.stm_keys.specs.Events.{event_of, events_above}
use Rattle.stm_watch.specs.declared.pending_revision.PendingRevision.{PendingRevision}
use Rattle.stm_watch.specs.declared.watched.Watched.{Watched}
use Rattle.stm_watch.specs.declared.watchers.Batch.{Batch}
use Rattle.stm_watch.specs.Pending.{matching, pending_of_revision, pending_above, pending_events}
use Rattle.stm_txn.specs.Standing.{Standing, polled}
use Rattle.stm_outcome.specs.Numbers.{LeaseFits, ChangesFit, RevisionsFit, LeasesFit, EventsFit}
use Rattle.stm_txn.proofs.Fitting.{IsSmallFor, changed_small}

-- ---- the events of a revision

lease_put : (number : ℕ) (value : List ℕ) (lease : ℕ) (s : Option KeyState) → lease ≤ HIGHEST_NUMBER → LeaseFits (state_after_put number value lease s)
lease_put number value lease s fits = grind (arith, nat_tests)

small_now : (h : History) (key : List ℕ) → IsSmallFor h (key_now h key)
small_now h key = subst (IsSmallFor h) (last_revision_is_now h key (now h) (omega arith)) (numbers_stay_small h key (now h))

shown_fit : (h : History) (cs : List Change) → now h ≤ HIGHEST_REVISION → ChangesFit cs → EventsFit (map (event_of (now h + 1) (key_now h)) cs)
shown_fit h [] bounded fits = tt
shown_fit h (PutChange key value lease ∷ cs) bounded fits = (
  record {
    numbers = changed_small h (Some (PutChange key value lease)) (key_now h key) bounded (small_now h key);
    lease = lease_put (now h + 1) value lease (key_now h key) fits.0;
  },
  shown_fit h cs bounded fits.1,
)
shown_fit h (DelChange key ∷ cs) bounded fits = (omega arith, shown_fit h cs bounded fits.1)

above_fit : (opening : Opening) (changes : List Change) (older : List (List Change)) → number_of_last opening (changes ∷ older) ≤ HIGHEST_REVISION
    → ChangesFit changes → EventsFit (events_above opening changes older)
above_fit opening changes older bounded fits =
    let h : History = record { opening = opening; revisions = older } in
    let next : now h + 1 ≡ number_of_last opening (changes ∷ older) = omega arith in
    subst (λ (n : ℕ). EventsFit (map (event_of n (key_now h)) changes)) next (shown_fit h changes (omega arith) fits)

matching_fit : (watched : Watched) (es : List Event) → EventsFit es → EventsFit (matching watched es)
matching_fit watched [] fits = tt
matching_fit watched (e ∷ es) fits = grind (arith, nat_tests, matching_fit watched es fits.1)

-- ---- what is reported

abbrev AllReportedFit : List PendingRevision → Type 0
AllReportedFit [] = Unit {0}
AllReportedFit (t ∷ ts) = EventsFit t.events × AllReportedFit ts

reported_at_fits : (number : ℕ) (es : List Event) → EventsFit es → AllReportedFit (pending_of_revision number es)
reported_at_fits number es fits = grind (arith, nat_tests)

reported_append : (ts us : List PendingRevision) → AllReportedFit ts → AllReportedFit us → AllReportedFit (ts ++ us)
reported_append [] us first second = second
reported_append (t ∷ ts) us first second = (first.0, reported_append ts us first.1 second)

reported_fit : (opening : Opening) (seen : ℕ) (watched : Watched) (revisions : List (List Change)) → number_of_last opening revisions ≤ HIGHEST_REVISION
    → RevisionsFit revisions → AllReportedFit (pending_above opening seen watched revisions)
reported_fit opening seen watched [] bounded fits = tt
reported_fit opening seen watched (changes ∷ older) bounded fits =
    let number = number_of_last opening (changes ∷ older) in
    let here = pending_of_revision number (matching watched (events_above opening changes older)) in
    reported_append (pending_above opening seen watched older) (cond (nat_lt seen number) here [])
    (reported_fit opening seen watched older (omega arith) fits.1)
    (elim (nat_lt seen number) as (λ b. AllReportedFit (cond b here [])) [
      | true ↦ reported_at_fits number (matching watched (events_above opening changes older))
          (matching_fit watched (events_above opening changes older) (above_fit opening changes older bounded fits.0))
      | false ↦ tt
    ])

taken_fit : (most : ℕ) (ts : List PendingRevision) → AllReportedFit ts → AllReportedFit (take most ts)
taken_fit zero ts fits = tt
taken_fit (suc most) [] fits = tt
taken_fit (suc most) (t ∷ ts) fits = (fits.0, taken_fit most ts fits.1)

events_append : (es fs : List Event) → EventsFit es → EventsFit fs → EventsFit (es ++ fs)
events_append [] fs first second = second
events_append (e ∷ es) fs first second = (first.0, events_append es fs first.1 second)

all_events_fit : (ts : List PendingRevision) → AllReportedFit ts → EventsFit (pending_events ts)
all_events_fit [] fits = tt
all_events_fit (t ∷ ts) fits = events_append t.events (pending_events ts) fits.0 (all_events_fit ts fits.1)

-- ---- a batch

pub batch_fits : (s next : Standing) (id most : ℕ) (b : Batch) → now s.history ≤ HIGHEST_REVISION → LeasesFit s.history
    → polled s id most ≡ Ok record { answer = b; next = next } → EventsFit b.events
batch_fits s next id most b bounded fits is = grind (arith, nat_tests, all_events_fit, taken_fit, reported_fit)
