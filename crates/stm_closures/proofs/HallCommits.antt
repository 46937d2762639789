-- What the transaction of a commit comes to in a hall.
use Rattle.std.proofs.Common.{◌≡◌, ◌∙◌, ap, sym, subst, refl, ℕ, Bool, false, List, [], ◌∷◌, None, Result, Ok, Err, All, append-nil, arith}
use Rattle.std.specs.Prelude.{nat_lt, is_none, if◌then◌else◌}
use Rattle.std.proofs.lemmas.Bool.Decides.{nat_tests}
use Rattle.stm_history.specs.declared.key_state.ReadAnswer.{ReadAnswer}
use Rattle.stm_history.specs.History.{now}
use Rattle.stm_program.specs.declared.level.Level.{Level}
use Rattle.stm_history.specs.declared.change.Change.{Change}
use Rattle.stm_outcome.specs.declared.txn.Txn.{Txn}
use Rattle.stm_outcome.specs.declared.answer.TxnAnswer.{TxnAnswer}
use Rattle.stm_outcome.specs.declared.refusal.Refusal.{Refusal}
use Rattle.stm_txn.specs.Standing.{Standing, Step, transacted}
use Rattle.stm_compile.specs.CommitTxn.{commit_of}
use Rattle.stm_entries.specs.Entered.{if_changed}
use Rattle.stm_entries.specs.declared.entry.Entry.{Entry}
use Rattle.stm_entries.specs.declared.entry.Entry.TheVariants.{Foreign}
use Rattle.stm_journal.specs.JournalState.{JournalState, JournalStep, gone_on}
use Rattle.stm_journal.specs.Entering.{entered, made}
use Rattle.stm_hall.specs.Showing.{IsShown}
use Rattle.stm_closures.specs.Committing.{IsCommittedInHall}
use Rattle.stm_closures.proofs.Commits.{is_committed, turned_down_leaves}

record IsMade (journal : JournalState) (txn : Txn) (o : Result (Step TxnAnswer) Refusal) (jstep : JournalStep TxnAnswer) : Type 0 where
  pub step : Step TxnAnswer
  pub is_step : o ≡ Ok step
  pub came : record { answer = step.answer; next = gone_on journal step.next (if_changed journal.standing step.next txn) } ≡ jstep

of_made : (journal : JournalState) (txn : Txn) (o : Result (Step TxnAnswer) Refusal) (jstep : JournalStep TxnAnswer) → entered journal txn o ≡ Ok jstep
    → IsMade journal txn o jstep
of_made journal txn (Err cause) jstep is = absurd (cc)
of_made journal txn (Ok step) jstep is = record { step = step; is_step = refl; came = cc }

not_below : (n : ℕ) → nat_lt n n ≡ false
not_below n = grind (arith, nat_tests)

abbrev entry_if : Bool → Txn → List Entry
entry_if b txn = if b then Foreign txn ∷ [] else []

-- the journal with its store as it was, and no entry more
gone_nowhere : (journal : JournalState) (txn : Txn) (s : Standing) → s ≡ journal.standing
    → gone_on journal s (if_changed journal.standing s txn) ≡ journal
gone_nowhere journal txn s is =
    let same : gone_on journal s (if_changed journal.standing s txn) ≡ gone_on journal journal.standing (if_changed journal.standing journal.standing txn) =
    ap (λ (k : Standing). gone_on journal k (if_changed journal.standing k txn)) is
    in
    let no_entry : gone_on journal journal.standing (if_changed journal.standing journal.standing txn) ≡ gone_on journal journal.standing [] =
    ap (λ (b : Bool). gone_on journal journal.standing (entry_if b txn)) (not_below (now journal.standing.history))
    in
    same ∙ no_entry ∙ ap (λ (es : List Entry). record journal { entries = es }) (append-nil journal.entries)

pub turned_down_in_hall : (journal : JournalState) (level : Level) (reads : List ReadAnswer) (writes : List Change) (txn : Txn) (jstep : JournalStep TxnAnswer)
    → txn ≡ commit_of level reads writes → made journal txn ≡ Ok jstep → is_none jstep.answer.failed ≡ false → jstep.next ≡ journal
turned_down_in_hall journal level reads writes txn jstep same is none =
    let it : Txn = commit_of level reads writes in
    let one = of_made journal it (transacted journal.standing it) jstep (ap (λ (t : Txn). made journal t) (sym same) ∙ is) in
    let failed : is_none one.step.answer.failed ≡ false = ap (λ (j : JournalStep TxnAnswer). is_none j.answer.failed) one.came ∙ none in
    sym (ap (λ (j : JournalStep TxnAnswer). j.next) one.came)
    ∙ gone_nowhere journal it one.step.next (turned_down_leaves journal.standing level reads writes one.step one.is_step failed)

pub committed_in_hall : (journal : JournalState) (level : Level) (reads : List ReadAnswer) (writes : List Change) (txn : Txn) (jstep : JournalStep TxnAnswer)
    → txn ≡ commit_of level reads writes → made journal txn ≡ Ok jstep → jstep.answer.failed ≡ None → All (IsShown journal.standing.history) reads
    → IsCommittedInHall journal level reads writes jstep.next
committed_in_hall journal level reads writes txn jstep same is none shown =
    let it : Txn = commit_of level reads writes in
    let one = of_made journal it (transacted journal.standing it) jstep (ap (λ (t : Txn). made journal t) (sym same) ∙ is) in
    let failed : one.step.answer.failed ≡ None = ap (λ (j : JournalStep TxnAnswer). j.answer.failed) one.came ∙ none in
    let by_step : IsCommittedInHall journal level reads writes (gone_on journal one.step.next (if_changed journal.standing one.step.next it)) = record {
      committed = is_committed journal.standing level reads writes one.step one.is_step failed shown;
      entered = refl;
    } in
    subst (λ (j : JournalStep TxnAnswer). IsCommittedInHall journal level reads writes j.next) one.came by_step
