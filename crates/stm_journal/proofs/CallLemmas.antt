-- What the calls of a journal that are no commit report.
use Rattle.std.proofs.Common.{◌≡◌, inl, inr, ℕ, ◌<◌, ◌≤◌, zero, suc, List, [], ◌∷◌, ◌++◌, length, length-append, Option, Some, None, Result, Ok, Err}
use Rattle.std.proofs.Common.{Bool, cond, refl, sym, ◌∙◌, ap, subst, arith}
use Rattle.std.proofs.lemmas.Bool.{ltb-false, Decides.nat_tests}
use Rattle.std.proofs.lemmas.List.{append-nil}
use Rattle.std.specs.Prelude.{nat_lt}
use Rattle.std.specs.FinMap as finmap
use Rattle.stm_leases.specs.DueFirst.{first_due}
use Rattle.stm_outcome.specs.declared.txn.Txn.{Txn}
use Rattle.stm_outcome.specs.declared.answer.TxnAnswer.{TxnAnswer}
use Rattle.stm_outcome.specs.declared.advance.Expired.{Expired}
use Rattle.stm_outcome.specs.declared.refusal.Refusal.{Refusal}
use Rattle.stm_outcome.specs.declared.refusal.Refusal.TheVariants.{OutOfMemory, TimeGoesBack}
use Rattle.stm_txn.specs.Standing.{Standing, Step, Advance, IsRefusalOf, refusal_of, transacted, ended}
use Rattle.stm_txn.specs.Standing.{at_moment, after, expired_in, expire_up_to, expire_all, advanced, HasCome, IsCutShort as StoreCutShort}
use Rattle.stm_entries.specs.declared.entry.Entry.{Entry}
use Rattle.stm_entries.specs.Entered.{if_changed}
use Rattle.stm_journal.specs.JournalState.{JournalState, JournalStep, journal_of, gone_on, JournalReturns}
use Rattle.stm_journal.specs.Entering.{entered, made, one_entry, or_out_of_memory, after_expiries, HasStopped}

-- ---- a transaction

-- the journal is as it was
pub same_journal : (s next : Standing) (es more : List Entry) (start : ℕ) → next ≡ s → more ≡ es → journal_of next more start ≡ journal_of s es start
same_journal s next es more start same kept = grind (arith, nat_tests)

made_as : TxnAnswer → JournalState → Result (JournalStep TxnAnswer) Refusal
made_as answer next = Ok record { answer = answer; next = next }

-- the store took it
pub reports_made : (journal after : JournalState) (txn : Txn) (answer : TxnAnswer) (next : Standing) →
    transacted journal.standing txn ≡ Ok record { answer = answer; next = next } → after ≡ gone_on journal next (if_changed journal.standing next txn) →
    made journal txn ≡ Ok record { answer = answer; next = after }
unfolding made_as
reports_made journal after txn answer next is left = ap (entered journal txn) is ∙ ap (made_as answer) (sym left)

-- it was refused, by the store or for want of room
pub reports_refused : (journal after : JournalState) (txn : Txn) (cause : Refusal) → IsRefusalOf (transacted journal.standing txn) cause → after ≡ journal →
    JournalReturns (made journal txn) journal (Err cause) after
reports_refused journal after txn cause is same = grind (arith, nat_tests)

-- the refusal of a call for which room could not be made
pub wanted : {A : Type 0} (o : Result A Refusal) (found : Option Refusal) → found ≡ refusal_of o → IsRefusalOf o (or_out_of_memory found)
wanted o found is = grind (arith, nat_tests)

-- as the code reports it
pub reports_wanted : (journal after : JournalState) (txn : Txn) (found : Option Refusal) (reported : Refusal) → found ≡ refusal_of (transacted journal.standing txn) →
    reported ≡ or_out_of_memory found → after ≡ journal → JournalReturns (made journal txn) journal (Err reported) after
reports_wanted journal after txn found reported is same kept = grind (arith, nat_tests, reports_refused, wanted)

-- ---- a call that is one entry where it is taken

entered_as : {A : Type 0} → A → JournalState → Result (JournalStep A) Refusal
entered_as answer next = Ok record { answer = answer; next = next }

-- the store took it
pub reports_entered : {A : Type 0} (journal after : JournalState) (entry : Entry) (o : Result (Step A) Refusal) (answer : A) (next : Standing) →
    o ≡ Ok record { answer = answer; next = next } → after ≡ gone_on journal next (entry ∷ []) →
    one_entry journal entry o ≡ Ok record { answer = answer; next = after }
unfolding entered_as
reports_entered journal after entry o answer next is left = ap (λ x. one_entry journal entry x) is ∙ ap (entered_as answer) (sym left)

-- it was refused, by the store or for want of room
pub reports_refused_entry : {A : Type 0} (journal after : JournalState) (entry : Entry) (o : Result (Step A) Refusal) (cause : Refusal) → IsRefusalOf o cause →
    after ≡ journal → JournalReturns (one_entry journal entry o) journal (Err cause) after
reports_refused_entry journal after entry o cause is same = grind (arith, nat_tests)

-- as the code reports it, where room could not be made
pub reports_wanted_entry : {A : Type 0} (journal after : JournalState) (entry : Entry) (o : Result (Step A) Refusal) (found : Option Refusal) (reported : Refusal) →
    found ≡ refusal_of o → reported ≡ or_out_of_memory found → after ≡ journal → JournalReturns (one_entry journal entry o) journal (Err reported) after
reports_wanted_entry journal after entry o found reported is same kept = grind (arith, nat_tests, reports_refused_entry, wanted)

-- ---- how an advance goes

abbrev pub advance_ended : ℕ → Standing → ℕ → Result Standing Refusal → Advance
advance_ended many s id o =
    elim o [
      | Err cause ↦ record { expired = []; leaves = s; cause = Some cause }
      | Ok next ↦ after (expired_in id next ∷ []) (expire_up_to many next)
    ]

abbrev pub advance_due : ℕ → Standing → Option ℕ → Advance
advance_due many s o =
    elim o [
      | None ↦ record { expired = []; leaves = s; cause = None }
      | Some id ↦ advance_ended many s id (ended s id)
    ]

abbrev pub advance_back : Standing → ℕ → Bool → Advance
advance_back s moment back = cond back (record { expired = []; leaves = s; cause = Some TimeGoesBack }) (expire_all (at_moment s moment))

-- ---- an advance

-- it stopped on its way, for its definition's cause or since memory ran out
pub reports_stopped : (before after : JournalState) (moment : ℕ) (expired : List Expired) (cause : Refusal) → before.standing.moment ≤ moment →
    StoreCutShort (advanced before.standing moment) expired cause after.standing →
    (before.standing.moment ≤ moment → HasCome (at_moment before.standing moment) expired after.standing) →
    after ≡ after_expiries before after.standing expired → HasStopped before moment expired cause after
reports_stopped before after moment expired cause forward h7 come left = grind (arith, nat_tests)

back_by : (s : Standing) (moment : ℕ) (back : Bool) → nat_lt moment s.moment ≡ back → moment < s.moment →
    advance_back s moment back ≡ record { expired = []; leaves = s; cause = Some TimeGoesBack }
back_by s moment back is below = grind (arith, nat_tests, ltb-false)

nothing_more : (journal : JournalState) → journal ≡ after_expiries journal journal.standing []
nothing_more journal = ap (λ (es : List Entry). journal_of journal.standing es journal.start) (sym (append-nil journal.entries))

-- it went back
pub reports_back : (before : JournalState) (moment : ℕ) → moment < before.standing.moment → HasStopped before moment [] TimeGoesBack before
reports_back before moment below = inl (record {
  advance = back_by before.standing moment (nat_lt moment before.standing.moment) refl below;
  journal = nothing_more before;
})

-- room for its entries could not be made
pub reports_no_room : (before after : JournalState) (moment : ℕ) → before.standing.moment ≤ moment → after ≡ before → HasStopped before moment [] OutOfMemory after
reports_no_room before after moment forward same = inr (record { is_want = refl; forward = forward; left = inl (refl, same) })

-- ---- no more leases expire than are live

abbrev reported_in : Advance → ℕ
reported_in a = length a.expired

due_within : (n : ℕ) (s : Standing) (o : Option ℕ) → ((next : Standing) → reported_in (expire_up_to n next) ≤ n) → reported_in (advance_due n s o) ≤ suc n
due_within n s o rest = grind (arith, nat_tests)

expiries_within : (n : ℕ) (s : Standing) → reported_in (expire_up_to n s) ≤ n
expiries_within zero s = omega arith
expiries_within (suc n) s = due_within n s (first_due s.live s.moment) (λ next. expiries_within n next)

advance_within : (s : Standing) (moment : ℕ) → length (advanced s moment).expired ≤ finmap.len s.live
advance_within s moment = grind (arith, nat_tests, expiries_within)

pub taken_within : (s left : Standing) (moment : ℕ) (expired : List Expired) (cause : Option Refusal) →
    advanced s moment ≡ record { expired = expired; leaves = left; cause = cause } → length expired ≤ finmap.len s.live
taken_within s left moment expired cause is = subst (λ (a : Advance). length a.expired ≤ finmap.len s.live) is (advance_within s moment)

pub cut_within : (s left : Standing) (moment : ℕ) (expired : List Expired) (cause : Refusal) → StoreCutShort (advanced s moment) expired cause left →
    length expired ≤ finmap.len s.live
cut_within s left moment expired cause (inl is) = taken_within s left moment expired (Some cause) is
cut_within s left moment expired cause (inr (_, stopped)) =
    let whole : length (expired ++ (expire_all left).expired) ≤ finmap.len s.live =
    subst (λ (a : Advance). length a.expired ≤ finmap.len s.live) stopped.so_far (advance_within s moment) in
    omega (arith, length-append expired (expire_all left).expired)
