-- A hall is locked after each call, and goes on from what it was.
use Rattle.std.proofs.Common.{◌≡◌, ◌⊎◌, inl, inr, ℕ, ◌≤◌, List, [], ◌∷◌, Option, Some, None, Result, Ok, Err, IfOk, IfErr, refl, sym, subst}
use Rattle.stm_history.specs.declared.key_state.ReadAnswer.{ReadAnswer}
use Rattle.stm_history.specs.History.{now, key_now}
use Rattle.stm_outcome.specs.declared.txn.Txn.{Txn}
use Rattle.stm_outcome.specs.declared.answer.TxnAnswer.{TxnAnswer}
use Rattle.stm_outcome.specs.declared.answer.FailedCompare.{FailedCompare}
use Rattle.stm_outcome.specs.declared.advance.Expired.{Expired}
use Rattle.stm_outcome.specs.declared.advance.AdvanceRefused.{AdvanceRefused}
use Rattle.stm_outcome.specs.declared.refusal.Refusal.{Refusal}
use Rattle.stm_outcome.specs.Checks.{fault_of}
use Rattle.stm_outcome.specs.Compares.{first_failed}
use Rattle.stm_outcome.specs.Outcome.{Done, outcome}
use Rattle.stm_outcome.specs.Terms.{most_operations}
use Rattle.stm_txn.specs.Standing.{Standing, with_history, step_of, terms_of}
use Rattle.stm_attempt.specs.ReadyRun.{ReadyRun, IsRunOnItsAnswers}
use Rattle.stm_entries.specs.declared.entry.Entry.{Entry}
use Rattle.stm_entries.specs.Entered.{if_changed, expiries}
use Rattle.stm_journal.specs.declared.verdict.Verdict.{Verdict}
use Rattle.stm_journal.specs.declared.refusal.CommitRefusal.{CommitRefusal}
use Rattle.stm_journal.specs.JournalState.{JournalState, JournalStep, gone_on, JournalReturns}
use Rattle.stm_hall.specs.Locked.{IsLocked}
use Rattle.stm_hall.specs.Laws.{GoesOn, ChangesAsAlone}
use Rattle.stm_journal.specs.Verdicts.{txn_of, entry_of, first_unvouched, taken, taken_by_store, refused_by_store, unless_unvouched, by_compares, unless_at_fault, verdict_of, CommitReturns}
use Rattle.stm_journal.specs.Entering.{entered, made, IsAdvanced, IsCutShort, HasStopped}
use Rattle.stm_hall.proofs.Opening.{Follows, stays_locked, goes_on, goes_nowhere}
use Rattle.stm_hall.proofs.CommitEntries.{commit_follows}
use Rattle.stm_hall.proofs.CallLemmas.{txn_follows, come_follows, advance_follows}

-- the hall after a call is locked, and goes on from the one before
pub record Keeps (before after : JournalState) : Type 0 where
  pub locked : IsLocked after
  pub goes : GoesOn before after

pub keeps_same : (before after : JournalState) → IsLocked before → after ≡ before → Keeps before after
keeps_same before after locked same = subst (λ (x : JournalState). Keeps before x) (sym same) (record { locked = locked; goes = goes_nowhere before })

keeps_more : (hall : JournalState) (after : Standing) (more : List Entry) → IsLocked hall → Follows hall.standing after more → Keeps hall (gone_on hall after more)
keeps_more hall after more locked f = record { locked = stays_locked hall after more locked f; goes = goes_on hall after more locked f }

-- what a definition leads to
abbrev KeptBy : {A E : Type 0} → JournalState → Result (JournalStep A) E → Type 0
KeptBy hall (Ok step) = Keeps hall step.next
KeptBy hall (Err cause) = Unit {0}

-- ---- a commit

-- what its verdict leads to, which is what the program alone does
abbrev CommitBy : JournalState → ReadyRun → Result (JournalStep Verdict) CommitRefusal → Type 0
CommitBy hall ready (Ok step) = Keeps hall step.next × ChangesAsAlone ready step.answer hall step.next
CommitBy hall ready (Err cause) = Unit {0}

by_outcome : (hall : JournalState) (ready : ReadyRun) (o : Result Done Refusal) → IsLocked hall → IsRunOnItsAnswers ready → fault_of (terms_of hall.standing).limit (txn_of ready) ≡ None →
    first_failed (key_now hall.standing.history) 0 (txn_of ready).compares ≡ None → first_unvouched hall.standing.history ready.level ready.answers ≡ None →
    outcome (terms_of hall.standing) (txn_of ready) ≡ o → CommitBy hall ready (refused_by_store (taken hall ready o))
by_outcome hall ready (Ok done) locked kept right none vouched is =
    let after : Standing = with_history hall.standing done.history in
    let more : List Entry = entry_of ready (now done.history) ∷ [] in
    let follows : Follows hall.standing after more =
    commit_follows hall.standing ready done kept (record { right = right; no_conflict = none; vouched = vouched; took = is }) in
    (keeps_more hall after more locked follows, record { there = follows.there.0; leads = follows.replays })
by_outcome hall ready (Err cause) locked kept right none vouched is = tt

by_value : (hall : JournalState) (ready : ReadyRun) (o : Option ReadAnswer) → IsLocked hall → IsRunOnItsAnswers ready →
    fault_of (terms_of hall.standing).limit (txn_of ready) ≡ None →
    first_failed (key_now hall.standing.history) 0 (txn_of ready).compares ≡ None → first_unvouched hall.standing.history ready.level ready.answers ≡ o →
    CommitBy hall ready (unless_unvouched o (refused_by_store (taken_by_store hall ready)))
by_value hall ready None locked kept right none is =
    by_outcome hall ready (outcome (terms_of hall.standing) (txn_of ready)) locked kept right none is refl
by_value hall ready (Some a) locked kept right none is = tt

by_failed : (hall : JournalState) (ready : ReadyRun) (o : Option FailedCompare) → IsLocked hall → IsRunOnItsAnswers ready → fault_of (terms_of hall.standing).limit (txn_of ready) ≡ None →
    first_failed (key_now hall.standing.history) 0 (txn_of ready).compares ≡ o → CommitBy hall ready (by_compares hall ready o)
by_failed hall ready None locked kept right is =
    by_value hall ready (first_unvouched hall.standing.history ready.level ready.answers) locked kept right is refl
by_failed hall ready (Some failed) locked kept right is = (keeps_same hall hall locked refl, refl)

by_fault : (hall : JournalState) (ready : ReadyRun) (o : Option Refusal) → IsLocked hall → IsRunOnItsAnswers ready → fault_of (terms_of hall.standing).limit (txn_of ready) ≡ o →
    CommitBy hall ready (unless_at_fault o (by_compares hall ready (first_failed (key_now hall.standing.history) 0 (txn_of ready).compares)))
by_fault hall ready None locked kept is =
    by_failed hall ready (first_failed (key_now hall.standing.history) 0 (txn_of ready).compares) locked kept is refl
by_fault hall ready (Some cause) locked kept is = tt

-- whatever the verdict
by_verdict : (before after : JournalState) (ready : ReadyRun) (verdict : Verdict) → IsLocked before → IsRunOnItsAnswers ready →
    verdict_of before ready ≡ Ok record { answer = verdict; next = after } → CommitBy before ready (Ok record { answer = verdict; next = after })
by_verdict before after ready verdict locked kept reported =
    subst (λ (o : Result (JournalStep Verdict) CommitRefusal). CommitBy before ready o) reported
    (by_fault before ready (fault_of (terms_of before.standing).limit (txn_of ready)) locked kept refl)

pub commit_keeps : (before after : JournalState) (ready : ReadyRun) (result : Result Verdict CommitRefusal) → IsLocked before → IsRunOnItsAnswers ready →
    CommitReturns (verdict_of before ready) before result after → Keeps before after
commit_keeps before after ready (Ok verdict) locked kept reported = (by_verdict before after ready verdict locked kept reported).0
commit_keeps before after ready (Err cause) locked kept reported = keeps_same before after locked reported.1

-- a commit changes the store as its program alone does
pub commit_alone : (before after : JournalState) (ready : ReadyRun) (result : Result Verdict CommitRefusal) → IsLocked before → IsRunOnItsAnswers ready →
    CommitReturns (verdict_of before ready) before result after → IfOk result (λ (verdict : Verdict). ChangesAsAlone ready verdict before after)
commit_alone before after ready (Ok verdict) locked kept reported = (by_verdict before after ready verdict locked kept reported).1
commit_alone before after ready (Err cause) locked kept reported = tt

-- ---- a foreign transaction

by_done : (hall : JournalState) (txn : Txn) (o : Result Done Refusal) → IsLocked hall → hall.standing.limit ≤ most_operations → outcome (terms_of hall.standing) txn ≡ o →
    KeptBy hall (entered hall txn (step_of hall.standing o))
by_done hall txn (Ok done) locked few is =
    keeps_more hall (with_history hall.standing done.history) (if_changed hall.standing (with_history hall.standing done.history) txn) locked
    (txn_follows hall.standing txn done few is)
by_done hall txn (Err cause) locked few is = tt

pub made_keeps : (before after : JournalState) (txn : Txn) (result : Result TxnAnswer Refusal) → IsLocked before →
    before.standing.limit ≤ most_operations → JournalReturns (made before txn) before result after → Keeps before after
made_keeps before after txn (Ok answer) locked few reported =
    subst (λ (o : Result (JournalStep TxnAnswer) Refusal). KeptBy before o) reported
    (by_done before txn (outcome (terms_of before.standing) txn) locked few refl)
made_keeps before after txn (Err cause) locked few reported = keeps_same before after locked reported.1

-- ---- an advance

pub advanced_keeps : (before after : JournalState) (moment : ℕ) (expired : List Expired) (cause : Option Refusal) → IsLocked before →
    IsAdvanced before moment expired cause after → Keeps before after
advanced_keeps before after moment expired cause locked a =
    subst (λ (x : JournalState). Keeps before x) (sym a.journal)
    (keeps_more before after.standing (expiries expired) locked (advance_follows before.standing after.standing moment expired cause a.advance))

cut_keeps : (before after : JournalState) (moment : ℕ) (expired : List Expired) → IsLocked before → IsCutShort before moment expired after → Keeps before after
cut_keeps before after moment expired locked cut =
    subst (λ (x : JournalState). Keeps before x) (sym cut.journal)
    (keeps_more before after.standing (expiries expired) locked (come_follows before.standing after.standing moment expired cut.come))

want_keeps : (before after : JournalState) (moment : ℕ) (expired : List Expired) → IsLocked before →
    (((expired ≡ []) × (after ≡ before)) ⊎ IsCutShort before moment expired after) → Keeps before after
want_keeps before after moment expired locked (inl same) = keeps_same before after locked same.1
want_keeps before after moment expired locked (inr cut) = cut_keeps before after moment expired locked cut

pub stopped_keeps : (before after : JournalState) (moment : ℕ) (expired : List Expired) (cause : Refusal) → IsLocked before →
    HasStopped before moment expired cause after → Keeps before after
stopped_keeps before after moment expired cause locked (inl a) = advanced_keeps before after moment expired (Some cause) locked a
stopped_keeps before after moment expired cause locked (inr want) = want_keeps before after moment expired locked want.left

-- as the code reports it
pub advance_keeps : {X : Type 0} (items : X → List Expired) (before after : JournalState) (moment : ℕ) (result : Result X AdvanceRefused) → IsLocked before →
    IfOk result (λ (x : X). IsAdvanced before moment (items x) None after) →
    IfErr result (λ (stopped : AdvanceRefused). HasStopped before moment stopped.expired stopped.cause after) → Keeps before after
advance_keeps items before after moment (Ok x) locked ok refused = advanced_keeps before after moment (items x) None locked ok
advance_keeps items before after moment (Err stopped) locked ok refused = stopped_keeps before after moment stopped.expired stopped.cause locked refused
