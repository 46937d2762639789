-- What the transaction of a commit comes to in a world.
use Rattle.std.proofs.Common.{◌≡◌, ◌⊎◌, ◌≤◌, ◌∙◌, inl, inr, ap, sym, subst, refl, ℕ, Bool, true, false, List, [], ◌∷◌, ◌++◌, Option, Some, None, Result, Ok, Err, All, append-nil, arith}
use Rattle.std.specs.Prelude.{nat_lt, is_none, if◌then◌else◌}
use Rattle.std.proofs.lemmas.Bool.Decides.{nat_tests}
use Rattle.stm_history.specs.declared.key_state.ReadAnswer.{ReadAnswer}
use Rattle.stm_history.specs.History.{History, now}
use Rattle.stm_program.specs.declared.level.Level.{Level}
use Rattle.stm_history.specs.declared.change.Change.{Change}
use Rattle.stm_outcome.specs.declared.txn.Txn.{Txn as TxnOf}
use Rattle.stm_outcome.specs.declared.answer.TxnAnswer.{TxnAnswer}
use Rattle.stm_outcome.specs.declared.answer.FailedCompare.{FailedCompare}
use Rattle.stm_outcome.specs.declared.refusal.Refusal.{Refusal}
use Rattle.stm_txn.specs.Standing.{Standing, Step as StoreStep, transacted, kept}
use Rattle.stm_compile.specs.CommitTxn.{commit_of}
use Rattle.stm_compaction.specs.Kept.{kept_step}
use Rattle.stm_compaction.proofs.Calls.{transacted_kept}
use Rattle.stm_entries.specs.Entered.{if_changed}
use Rattle.stm_entries.specs.declared.entry.Entry.{Entry}
use Rattle.stm_entries.specs.declared.entry.Entry.TheVariants.{Foreign}
use Rattle.stm_events.specs.declared.event.WorldEvent.TheVariants.{Txn}
use Rattle.stm_events.specs.declared.reply.Reply.{Reply}
use Rattle.stm_events.specs.declared.refusal.Denied.{Denied}
use Rattle.stm_events.specs.Replies.{txn_reply, reply_to, store_after_call}
use Rattle.stm_world.specs.World.{World, Stepped, after_call, step}
use Rattle.stm_hall.specs.Showing.{IsShown}
use Rattle.stm_retry.specs.Returns.{IsStep, OutOfMemoryReturns, Returns, is_out_of_memory}
use Rattle.stm_retry.proofs.WorldLemmas.{refusal_cases}
use Rattle.stm_closures.specs.Committing.{IsCommitted}
use Rattle.stm_closures.proofs.Commits.{is_committed, turned_down_leaves, succeeds_where_none_failed}
use Rattle.stm_driving.specs.WorldCommits.{has_held, IsTaken, IsCommittedInWorld}

-- the step of a transaction, by what the store makes of it
abbrev stepped_by : World → TxnOf → Result (StoreStep TxnAnswer) Refusal → Stepped
stepped_by w txn o = after_call (reply_to txn_reply o) (store_after_call w.standing o) (if_changed w.standing (store_after_call w.standing o) txn) w

taken_by : (w after : World) (txn : TxnOf) (reply : Reply) (o : Result (StoreStep TxnAnswer) Refusal) → transacted w.standing txn ≡ o
    → (stepped_by w txn o).reply ≡ Ok reply → (stepped_by w txn o).next ≡ after → (step (Txn txn) w).next ≡ after → IsTaken w txn (has_held reply) after
taken_by w after txn reply (Ok made) is replied next left = record {
  made = made;
  is_made = is;
  held_is = let same : txn_reply made.answer ≡ reply = cc (replied) in ap has_held same;
  left = left;
  standing = sym (ap (λ (x : World). x.standing) next);
}
taken_by w after txn reply (Err cause) is replied next left = absurd (cc (replied))

-- a transaction that was replied to was taken
pub is_taken : (w after : World) (txn : TxnOf) (reply : Reply) → IsStep (step (Txn txn) w) (Ok reply) after → IsTaken w txn (has_held reply) after
is_taken w after txn reply is = taken_by w after txn reply (transacted w.standing txn) refl is.reply_is is.next_is is.next_is

-- ---- what leaves a world as it was

not_below : (n : ℕ) → nat_lt n n ≡ false
not_below n = grind (arith, nat_tests)

abbrev entry_if : Bool → TxnOf → List Entry
entry_if b txn = if b then Foreign txn ∷ [] else []

gone_nowhere : (w : World) (txn : TxnOf) (s : Standing) → s ≡ w.standing
    → record { standing = s; runners = w.runners; entries = w.entries ++ if_changed w.standing s txn } ≡ w
gone_nowhere w txn s is =
    ap (λ (k : Standing). record w { standing = k; entries = w.entries ++ if_changed w.standing k txn }) is
    ∙ ap (λ (b : Bool). record w { entries = w.entries ++ entry_if b txn }) (not_below (now w.standing.history))
    ∙ ap (λ (es : List Entry). record w { entries = es }) (append-nil w.entries)

refused_by : (w after : World) (txn : TxnOf) (d : Denied) (o : Result (StoreStep TxnAnswer) Refusal) → (stepped_by w txn o).reply ≡ Err d
    → (stepped_by w txn o).next ≡ after → after ≡ w
refused_by w after txn d (Ok made) replied next = absurd (cc (replied))
refused_by w after txn d (Err cause) replied next = sym next ∙ gone_nowhere w txn w.standing refl

by_cause : (w after : World) (txn : TxnOf) (d : Denied)
    → ((is_out_of_memory d.cause ≡ true) × OutOfMemoryReturns (Txn txn) d.expired w after) ⊎ ((is_out_of_memory d.cause ≡ false) × IsStep (step (Txn txn) w) (Err d) after)
    → after ≡ w
by_cause w after txn d (inl want) = want.1.0.1
by_cause w after txn d (inr is) = refused_by w after txn d (transacted w.standing txn) is.1.reply_is is.1.next_is

-- one that was refused
pub refused_leaves : (w after : World) (txn : TxnOf) (d : Denied) → Returns (Txn txn) (Err d) w after → after ≡ w
refused_leaves w after txn d returned = by_cause w after txn d (refusal_cases d.cause (Txn txn) d w after returned)

-- one of which a compare failed
pub turned_down_in_world : (w after : World) (level : Level) (reads : List ReadAnswer) (writes : List Change) (txn : TxnOf) → txn ≡ commit_of level reads writes
    → IsTaken w txn false after → after ≡ w
turned_down_in_world w after level reads writes txn same taken =
    let it : TxnOf = commit_of level reads writes in
    let is : transacted w.standing it ≡ Ok taken.made = ap (λ (t : TxnOf). transacted w.standing t) (sym same) ∙ taken.is_made in
    let failed = succeeds_where_none_failed w.standing it taken.made is ∙ taken.held_is in
    let stays : taken.made.next ≡ w.standing = turned_down_leaves w.standing level reads writes taken.made is failed in
    let made : (step (Txn txn) w).next ≡ (stepped_by w txn (Ok taken.made)).next =
    ap (λ (o : Result (StoreStep TxnAnswer) Refusal). (stepped_by w txn o).next) taken.is_made
    in
    sym taken.left ∙ made ∙ gone_nowhere w txn taken.made.next stays

-- ---- a commit that was made

none_of : (o : Option FailedCompare) → is_none o ≡ true → o ≡ None
none_of None is = refl
none_of (Some failed) is = absurd (cc (is))

pub committed_in_world : (w after : World) (level : Level) (reads : List ReadAnswer) (writes : List Change) (txn : TxnOf) (h : History)
    → w.standing.floor ≤ now w.standing.history → h ≡ (kept w.standing).history → txn ≡ commit_of level reads writes → All (IsShown h) reads
    → IsTaken w txn true after → IsCommittedInWorld w level reads writes after
committed_in_world w after level reads writes txn h reached of_store same shown taken =
    let it : TxnOf = commit_of level reads writes in
    let is : transacted w.standing it ≡ Ok taken.made = ap (λ (t : TxnOf). transacted w.standing t) (sym same) ∙ taken.is_made in
    let left : StoreStep TxnAnswer = record { answer = taken.made.answer; next = kept taken.made.next } in
    let is_kept : transacted (kept w.standing) it ≡ Ok left =
    transacted_kept w.standing reached it ∙ ap (λ (o : Result (StoreStep TxnAnswer) Refusal). kept_step o) is
    in
    let none = none_of taken.made.answer.failed (succeeds_where_none_failed w.standing it taken.made is ∙ taken.held_is) in
    let committed : IsCommitted (kept w.standing) level reads writes (kept taken.made.next) =
    is_committed (kept w.standing) level reads writes left is_kept none (subst (λ (k : History). All (IsShown k) reads) of_store shown)
    in
    record {
      committed = subst (λ (s : Standing). IsCommitted (kept w.standing) level reads writes (kept s)) (sym taken.standing) committed;
      stepped = ap (λ (t : TxnOf). (step (Txn t) w).next) (sym same) ∙ taken.left;
    }
