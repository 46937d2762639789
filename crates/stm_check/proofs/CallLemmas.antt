-- The reply that a call comes to, and the store that its reply leads to.
use Rattle.std.proofs.Common.{◌≡◌, ◌≢◌, ◌↔◌, inl, inr, ℕ, ◌≤◌, List, Bool, Some, Ok, Err, refl, sym, ◌∙◌, ap, subst}
use Rattle.std.specs.Prelude.{Result, IsTrue, IfOk, OnOk}
use Rattle.std.specs.declared.alloc.AllocError.{AllocError}
use Rattle.stm_history.specs.History.{now}
use Rattle.stm_outcome.specs.declared.advance.Expired.{Expired}
use Rattle.stm_outcome.specs.declared.refusal.Refusal.{Refusal}
use Rattle.stm_outcome.specs.declared.refusal.Refusal.TheVariants.{OutOfMemory}
use Rattle.stm_outcome.specs.declared.txn.Txn.{Txn as TxnMade}
use Rattle.stm_outcome.specs.Terms.{most_operations}
use Rattle.stm_txn.specs.Standing.{Standing, Step, IsRefusalOf, IsCutShort, advanced}
use Rattle.stm_entries.specs.declared.entry.Entry.{Entry}
use Rattle.stm_entries.specs.Replayed.{without_moment}
use Rattle.stm_entries.specs.Replay.{replay}
use Rattle.stm_events.specs.declared.event.WorldEvent.{WorldEvent}
use Rattle.stm_events.specs.declared.refusal.Denied.{Denied}
use Rattle.stm_events.specs.declared.reply.Reply.{Reply}
use Rattle.stm_events.specs.Replies.{event_refusal, denied}
use Rattle.stm_events.specs.Called.{Call, Txn, Watch, Poll, Cancel, Asked, Calls, Called, asked, plainly, called, entered, entered_by}
use Rattle.stm_events.proofs.CallReplies.{entered_is}
use Rattle.stm_events.proofs.CallEnters.{Enters, IsReplayed, call_enters}
use Rattle.stm_check.specs.declared.runner.Runner.{Runner}
use Rattle.stm_check.specs.Point.{left_by, with_replayed, standing_called, standing_asked, standing_after}
use Rattle.stm_check.specs.Replays.{CallReplays, AskedReplays, Replays}

-- ---- the store that a right reply to a call leads to

-- a store that entries lead to
led : (s next : Standing) (entries : List Entry) → Enters s next entries → with_replayed (replay entries (without_moment s)) next ≡ next
led s next entries follow = λ k. record next { history = (follow.replays k).history; live = (follow.replays k).live }

-- what a right reply to a call is entered as
pub right_entries : (s : Standing) (c : Call) (replied : Result Reply Denied) → CallReplays s c replied → entered_by c s (called s c).next replied ≡ entered s c
right_entries s (Watch keys from) replied right = refl
right_entries s (Poll watcher most) replied right = refl
right_entries s (Cancel watcher) replied right = refl
right_entries s c replied right = ap (λ (x : Result Reply Denied). entered_by c s (called s c).next x) (sym right) ∙ sym (entered_is s c)

entries_lead : (s : Standing) (c : Call) (entries : List Entry) → IsReplayed s c → entries ≡ entered s c →
    with_replayed (replay entries (without_moment s)) (called s c).next ≡ (called s c).next
entries_lead s c entries few are =
    ap (λ (es : List Entry). with_replayed (replay es (without_moment s)) (called s c).next) are ∙ led s (called s c).next (entered s c) (call_enters s c few)

pub call_led : (s : Standing) (c : Call) (replied : Result Reply Denied) → IsReplayed s c → CallReplays s c replied → standing_called s c replied ≡ left_by c s
call_led s (Watch keys from) replied few right = refl
call_led s (Poll watcher most) replied few right = refl
call_led s (Cancel watcher) replied few right = refl
call_led s c replied few right = entries_lead s c (entered_by c s (called s c).next replied) few (right_entries s c replied right)

-- so the counter after a transaction is the store's
pub txn_counter : (s next : Standing) (rs : List Runner) (event : WorldEvent) (replied : Result Reply Denied) (txn : TxnMade) → s.limit ≤ most_operations →
    Replays s rs event replied → next ≡ standing_after s rs event replied → asked event ≡ Calls (Txn txn) →
    now (called s (Txn txn)).next.history ≡ now next.history
txn_counter s next rs event replied txn few right reached is =
    let made : CallReplays s (Txn txn) replied = subst (λ (a : Asked). AskedReplays s rs a replied) is right in
    let leads : next ≡ standing_called s (Txn txn) replied =
    reached ∙ ap (λ (a : Asked). standing_asked s rs a replied) is in
    sym (ap (λ (x : Standing). now x.history) (leads ∙ call_led s (Txn txn) replied few made))

-- ---- calls that a check makes, by what a reply was compared with

-- a test says whether a reply is the one of a call, and then the store is the one that it leads to
abbrev IsTested : Standing → Call → Result Reply Denied → Standing → Result Bool AllocError → Type 0
IsTested s c replied next r =
    IfOk r (λ b. IsTrue b ↔ (called s c).reply ≡ replied) × IfOk r (λ b. IsTrue b → next ≡ standing_called s c replied)

-- that a check makes a call: what it asks of the reply, and what it leaves, are the call's
pub record IsMade (s : Standing) (c : Call) : Type 0 where
  pub asks : (replied : Result Reply Denied) → (called s c).reply ≡ replied → CallReplays s c replied
  pub leaves : left_by c s ≡ (called s c).next
  pub few : IsReplayed s c

-- the call was taken
pub taken : (b : Bool) (s next : Standing) (c : Call) (told replied : Result Reply Denied) → IsMade s c → called s c ≡ record { reply = told; next = next } →
    (IsTrue b ↔ told ≡ replied) → IsTested s c replied next (Ok b)
taken b s next c told replied made is test =
    let same : (called s c).reply ≡ told = ap (λ (d : Called). d.reply) is in (
      ((λ t. same ∙ test.0 t), (λ e. test.1 (sym same ∙ e))),
      λ t. sym (call_led s c replied made.few (made.asks replied (same ∙ test.0 t)) ∙ made.leaves ∙ ap (λ (d : Called). d.next) is),
    )

-- the same where that is known of a test that was made
pub tested : {P : Type 0} (r : Result Bool AllocError) (s next : Standing) (c : Call) (told replied : Result Reply Denied) → IsMade s c →
    (P → called s c ≡ record { reply = told; next = next }) → OnOk r P → IfOk r (λ b. IsTrue b ↔ told ≡ replied) → IsTested s c replied next r
tested {P} (Ok b) s next c told replied made is known test = taken b s next c told replied made (is known) test
tested {P} (Err e) s next c told replied made is known test = (tt, tt)

-- why a call was refused, where it did not run out of memory
pub refused_for : {T : Type 0} (r : Result T Refusal) (cause : Refusal) → IsRefusalOf r cause → cause ≢ OutOfMemory → r ≡ Err cause
refused_for (Ok done) cause is other = absurd (other is)
refused_for (Err c) cause is other = ap Err (sym is)

-- the call was refused
pub refused : {A : Type 0} (r : Result Bool AllocError) (report : A → Reply) (s next : Standing) (c : Call) (o : Result (Step A) Refusal) (cause : Refusal)
    (replied : Result Reply Denied) → IsMade s c → called s c ≡ plainly report s o → (cause ≢ OutOfMemory → o ≡ Err cause) → next ≡ s →
    OnOk r (cause ≢ OutOfMemory) → IfOk r (λ b. IsTrue b ↔ denied (event_refusal cause) ≡ replied) → IsTested s c replied next r
refused {A} r report s next c o cause replied made as_plain is stays known test =
    tested r s next c (denied (event_refusal cause)) replied made
    (λ other. as_plain ∙ ap (λ (x : Result (Step A) Refusal). plainly report s x) (is other)
    ∙ ap (λ (x : Standing). record { reply = denied (event_refusal cause); next = x }) (sym stays)) known test

-- why an advance was cut short, where it did not run out of memory
pub cut_short : (s left : Standing) (moment : ℕ) (expired : List Expired) (cause : Refusal) → IsCutShort (advanced s moment) expired cause left →
    cause ≢ OutOfMemory → advanced s moment ≡ record { expired = expired; leaves = left; cause = Some cause }
cut_short s left moment expired cause (inl whole) other = whole
cut_short s left moment expired cause (inr stopped) other = absurd (other stopped.0)
