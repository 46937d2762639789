-- What the events that are calls of the journal return and leave.
use Rattle.std.proofs.Common.{◌≡◌, ◌≢◌, ◌⊎◌, inl, inr, ℕ, List, [], Option, None, Some, Result, Ok, Err, subst, arith}
use Rattle.std.specs.Prelude.{IsOk}
use Rattle.std.proofs.lemmas.Bool.{ltb-true, Decides.nat_tests}
use Rattle.std.proofs.lemmas.List.{append-nil}
use Rattle.stm_outcome.specs.declared.txn.Txn.{Txn as StoreTxn}
use Rattle.stm_outcome.specs.declared.answer.TxnAnswer.{TxnAnswer}
use Rattle.stm_outcome.specs.declared.advance.Expired.{Expired}
use Rattle.stm_outcome.specs.declared.refusal.Refusal.{Refusal as StoreRefusal}
use Rattle.stm_outcome.specs.declared.refusal.Refusal.TheVariants.{OutOfMemory}
use Rattle.stm_txn.specs.Standing.{Standing, Step as StoreStep, Advance as StoreAdvance, advanced}
use Rattle.stm_entries.specs.declared.entry.Entry.{Entry}
use Rattle.stm_entries.specs.Entered.{if_taken, if_changed}
use Rattle.stm_journal.specs.JournalState.{JournalState, JournalStep, with_store}
use Rattle.stm_journal.specs.Entering.{entered, one_entry, IsAdvanced, IsCutShort as JournalCutShort, HasStopped}
use Rattle.stm_events.specs.declared.event.WorldEvent.{WorldEvent}
use Rattle.stm_events.specs.declared.event.WorldEvent.TheVariants.{Advance}
use Rattle.stm_events.specs.declared.reply.Reply.{Reply}
use Rattle.stm_events.specs.declared.reply.Reply.TheVariants.{Advanced}
use Rattle.stm_events.specs.declared.refusal.Denied.{Denied}
use Rattle.stm_events.specs.Replies.{txn_reply, event_refusal, denied, reply_to, store_after_call, advance_reply}
use Rattle.stm_world.specs.World.{World, Slot, Stepped, after_call, step}
use Rattle.stm_world.proofs.Wants.{NeverWants, NoOutOfMemory, advanced_never}
use Rattle.stm_retry.specs.Returns.{IsStep, IsUnchanged, IsCutShort, OutOfMemoryReturns, RefusalReturns, Returns}
use Rattle.stm_retry.specs.WorldOf.{world_of}
use Rattle.stm_retry.specs.CallReturns.{CallReturns}

-- ---- refusals ----

-- what is reported of a refusal, whether it is that memory ran out or not
pub refusal_reports : (event : WorldEvent) (d : Denied) (cause : StoreRefusal) (old new : World) →
    (cause ≡ OutOfMemory → OutOfMemoryReturns event d.expired old new) → (cause ≢ OutOfMemory → IsStep (step event old) (Err d) new) →
    RefusalReturns (event_refusal cause) event d old new
refusal_reports event d cause old new want other = grind (arith, nat_tests)

-- ---- a call that is entered ----

-- what the world's step makes of a call of the journal, by what the call comes to
abbrev pub stepped_as : {A : Type 0} → (A → Reply) → JournalState → List Slot → Result (JournalStep A) StoreRefusal → Stepped
stepped_as report j runners (Ok done) = record { reply = Ok (report done.answer); next = world_of done.next runners }
stepped_as report j runners (Err cause) = record { reply = denied (event_refusal cause); next = world_of j runners }

-- the world's step at an event is this call of the journal
abbrev pub IsCall : {A : Type 0} → WorldEvent → (A → Reply) → JournalState → Result (JournalStep A) StoreRefusal → Type 0
IsCall event report j o = (runners : List Slot) → step event (world_of j runners) ≡ stepped_as report j runners o

-- that memory ran out may be reported of the event where the step takes it
abbrev pub MayRunOut : WorldEvent → JournalState → Type 0
MayRunOut event j = (runners : List Slot) → IsOk (step event (world_of j runners)).reply →
    OutOfMemoryReturns event [] (world_of j runners) (world_of j runners)

-- one that was taken
pub call_taken : {A : Type 0} (event : WorldEvent) (report : A → Reply) (before after : JournalState) (o : Result (JournalStep A) StoreRefusal) (answer : A)
    (reply : Result Reply Denied) → IsCall event report before o → o ≡ Ok record { answer = answer; next = after } → reply ≡ Ok (report answer) →
    CallReturns event reply before after
call_taken event report before after o answer reply call taken replied runners = grind (arith, nat_tests)

never_is : {A : Type 0} (o : Result A StoreRefusal) (cause : StoreRefusal) → NeverWants o → o ≡ Err cause → cause ≢ OutOfMemory
never_is o cause never is = subst NeverWants is never

refused_by : {A : Type 0} (event : WorldEvent) (report : A → Reply) (j : JournalState) (o : Result (JournalStep A) StoreRefusal) (cause : StoreRefusal) →
    IsCall event report j o → MayRunOut event j → NeverWants o → (o ≡ Err cause) ⊎ ((cause ≡ OutOfMemory) × IsOk o) → CallReturns event (denied (event_refusal cause)) j j
refused_by event report j o cause call may never h9 runners = grind (arith, nat_tests, refusal_reports, never_is)

-- one that was refused, by the store or since memory ran out
pub call_refused : {A : Type 0} (event : WorldEvent) (report : A → Reply) (before after : JournalState) (o : Result (JournalStep A) StoreRefusal)
    (cause : StoreRefusal) (reply : Result Reply Denied) → IsCall event report before o → MayRunOut event before → NeverWants o →
    ((o ≡ Err cause) ⊎ ((cause ≡ OutOfMemory) × IsOk o)) × (after ≡ before) → reply ≡ denied (event_refusal cause) → CallReturns event reply before after
call_refused event report before after o cause reply call may never h11 replied runners = grind (arith, nat_tests, refused_by)

-- ---- which calls these are ----

pub entry_is_call : {A : Type 0} (report : A → Reply) (j : JournalState) (runners : List Slot) (entry : Entry) (o : Result (StoreStep A) StoreRefusal) →
    after_call (reply_to report o) (store_after_call j.standing o) (if_taken o entry) (world_of j runners) ≡ stepped_as report j runners (one_entry j entry o)
entry_is_call report j runners entry o = grind (arith, nat_tests, append-nil)

pub entry_never : {A : Type 0} (j : JournalState) (entry : Entry) (o : Result (StoreStep A) StoreRefusal) → NeverWants o → NeverWants (one_entry j entry o)
entry_never j entry o never = grind (arith, nat_tests)

none_changed : (s : Standing) (txn : StoreTxn) → if_changed s s txn ≡ []
none_changed s txn = grind (arith, nat_tests, ltb-true)

pub txn_is_call : (j : JournalState) (txn : StoreTxn) (runners : List Slot) (o : Result (StoreStep TxnAnswer) StoreRefusal) →
    after_call (reply_to txn_reply o) (store_after_call j.standing o) (if_changed j.standing (store_after_call j.standing o) txn) (world_of j runners)
    ≡ stepped_as txn_reply j runners (entered j txn o)
txn_is_call j txn runners o = grind (arith, nat_tests, none_changed, append-nil)

pub txn_never : (j : JournalState) (txn : StoreTxn) (o : Result (StoreStep TxnAnswer) StoreRefusal) → NeverWants o → NeverWants (entered j txn o)
txn_never j txn o never = grind (arith, nat_tests)

-- ---- an advance ----

-- what an advance comes to
advance_is : (before after : JournalState) (moment : ℕ) (expired : List Expired) (cause : Option StoreRefusal) (runners : List Slot) →
    IsAdvanced before moment expired cause after →
    IsStep (step (Advance moment) (world_of before runners)) (advance_reply moment expired cause) (world_of after runners)
advance_is before after moment expired cause runners x = grind (arith, nat_tests)

-- one that the store took
pub advance_taken : (before after : JournalState) (moment : ℕ) (expired reported : List Expired) → reported ≡ expired →
    IsAdvanced before moment expired None after → CallReturns (Advance moment) (Ok (Advanced moment reported)) before after
advance_taken before after moment expired reported same x runners = grind (arith, nat_tests, advance_is)

left_by : (before after : JournalState) (moment : ℕ) (expired : List Expired) (runners : List Slot) →
    ((expired ≡ []) × (after ≡ before)) ⊎ JournalCutShort before moment expired after →
    IsUnchanged expired (world_of before runners) (world_of after runners) ⊎ IsCutShort moment expired (world_of before runners) (world_of after runners)
left_by before after moment expired runners h6 = grind (arith, nat_tests)

cause_of_advance : (s : Standing) (moment : ℕ) (expired : List Expired) (next : Standing) (cause : StoreRefusal) →
    advanced s moment ≡ record { expired = expired; leaves = next; cause = Some cause } → cause ≢ OutOfMemory
cause_of_advance s moment expired next cause is = subst (λ (a : StoreAdvance). NoOutOfMemory a.cause) is (advanced_never s moment)

-- an advance that stopped, for its definition's cause or since memory ran out
pub advance_stopped : (before after : JournalState) (moment : ℕ) (expired : List Expired) (cause : StoreRefusal) →
    HasStopped before moment expired cause after → CallReturns (Advance moment) (Err record { cause = event_refusal cause; expired = expired }) before after
advance_stopped before after moment expired cause (inl x) runners =
    refusal_reports (Advance moment) (record { cause = event_refusal cause; expired = expired }) cause (world_of before runners) (world_of after runners)
    (λ want. absurd (cause_of_advance before.standing moment expired after.standing cause x.advance want))
    (λ other. advance_is before after moment expired (Some cause) runners x)
advance_stopped before after moment expired cause (inr x) runners =
    refusal_reports (Advance moment) (record { cause = event_refusal cause; expired = expired }) cause (world_of before runners) (world_of after runners)
    (λ want. (x.forward, left_by before after moment expired runners x.left))
    (λ other. absurd (other x.is_want))

-- ---- a call that is not entered ----

-- the world with this store
abbrev pub world_with : List Slot → Standing → List Entry → World
world_with runners s es = record { standing = s; runners = runners; entries = es }

-- the event, which is no entry, has this reply in every world that has this store
abbrev pub QuietReturns : WorldEvent → Result Reply Denied → Standing → Standing → Type 0
QuietReturns event reply s next = (es : List Entry) (runners : List Slot) → Returns event reply (world_with runners s es) (world_with runners next es)

pub quiet_returns : (event : WorldEvent) (reply : Result Reply Denied) (before after : JournalState) → after ≡ with_store before after.standing →
    QuietReturns event reply before.standing after.standing → CallReturns event reply before after
quiet_returns event reply before after same reports runners = grind (arith, nat_tests)
