-- What the transaction of a commit comes to in a store.
use Rattle.std.proofs.Common.{◌≡◌, ◌∙◌, ap, sym, subst, refl, false, List, [], ◌∷◌, Option, Some, None, Result, Ok, Err, All}
use Rattle.std.specs.Prelude.{is_none}
use Rattle.std.specs.List.{AllByRecursion}
use Rattle.std.proofs.lemmas.List.Elements.{recursion_from_All}
use Rattle.stm_history.specs.declared.key_state.ReadAnswer.{ReadAnswer}
use Rattle.stm_history.specs.History.{History, key_now}
use Rattle.stm_program.specs.declared.level.Level.{Level}
use Rattle.stm_history.specs.declared.change.Change.{Change}
use Rattle.stm_outcome.specs.declared.txn.Txn.{Txn}
use Rattle.stm_outcome.specs.declared.answer.FailedCompare.{FailedCompare}
use Rattle.stm_outcome.specs.declared.answer.TxnAnswer.{TxnAnswer}
use Rattle.stm_outcome.specs.declared.refusal.Refusal.{Refusal}
use Rattle.stm_outcome.specs.Compares.{first_failed}
use Rattle.stm_outcome.specs.Outcome.{Done, outcome}
use Rattle.stm_outcome.specs.Commits.{turned_down}
use Rattle.stm_outcome.proofs.Applying.{is_done, failed_compare_reads}
use Rattle.stm_txn.specs.Standing.{Standing, Step, terms_of, step_of, transacted, with_history}
use Rattle.stm_compile.specs.Answers.{AreTrue}
use Rattle.stm_compile.specs.CommitTxn.{commit_of, reread_keys}
use Rattle.stm_compile.proofs.AgreeLemmas.{true_reads_are_now}
use Rattle.stm_hall.specs.Showing.{IsShown}
use Rattle.stm_closures.specs.Committing.{IsCommitted}

record IsStepOf (s : Standing) (o : Result Done Refusal) (step : Step TxnAnswer) : Type 0 where
  pub done : Done
  pub is_done : o ≡ Ok done
  pub came : record { answer = done.answer; next = with_history s done.history } ≡ step

of_step : (s : Standing) (o : Result Done Refusal) (step : Step TxnAnswer) → step_of s o ≡ Ok step → IsStepOf s o step
of_step s (Err cause) step is = absurd (cc)
of_step s (Ok done) step is = record { done = done; is_done = refl; came = cc }

-- a transaction has succeeded where none of its compares failed
pub succeeds_where_none_failed : (s : Standing) (txn : Txn) (step : Step TxnAnswer) → transacted s txn ≡ Ok step
    → is_none step.answer.failed ≡ step.answer.succeeded
succeeds_where_none_failed s txn step is =
    let one = of_step s (outcome (terms_of s) txn) step is in
    let made = (is_done (terms_of s) txn one.done one.is_done).made in
    sym (ap (λ (x : Step TxnAnswer). is_none x.answer.failed) one.came)
    ∙ sym (ap (λ (x : Done). is_none x.answer.failed) made)
    ∙ ap (λ (x : Done). x.answer.succeeded) made
    ∙ ap (λ (x : Step TxnAnswer). x.answer.succeeded) one.came

-- the compare that failed is the first that fails
failed_is : (s : Standing) (txn : Txn) (step : Step TxnAnswer) → transacted s txn ≡ Ok step → first_failed (key_now s.history) 0 txn.compares ≡ step.answer.failed
failed_is s txn step is =
    let one = of_step s (outcome (terms_of s) txn) step is in
    ap (λ (x : Done). x.answer.failed) (is_done (terms_of s) txn one.done one.is_done).made ∙ ap (λ (x : Step TxnAnswer). x.answer.failed) one.came

are_true : (h : History) (reads : List ReadAnswer) → AllByRecursion (IsShown h) reads → AreTrue h reads
are_true h [] shown = tt
are_true h (a ∷ reads) (one, others) = (one.1, are_true h reads others)

-- where none failed, what was read is what the keys hold
pub is_committed : (s : Standing) (level : Level) (reads : List ReadAnswer) (writes : List Change) (step : Step TxnAnswer)
    → transacted s (commit_of level reads writes) ≡ Ok step → step.answer.failed ≡ None → All (IsShown s.history) reads
    → IsCommitted s level reads writes step.next
is_committed s level reads writes step is none shown = record {
  shown = shown;
  answer = step.answer;
  is_made = is;
  none_failed = none;
  now_so = λ comparing.
      true_reads_are_now s.history level reads writes comparing (are_true s.history reads (recursion_from_All (IsShown s.history) reads shown))
      (failed_is s (commit_of level reads writes) step is ∙ none);
}

turned_down_by : (s : Standing) (level : Level) (reads : List ReadAnswer) (writes : List Change) (step : Step TxnAnswer) (failed : FailedCompare)
    → transacted s (commit_of level reads writes) ≡ Ok step → step.answer.failed ≡ Some failed → step.next ≡ s
turned_down_by s level reads writes step failed is f =
    let txn : Txn = commit_of level reads writes in
    let one = of_step s (outcome (terms_of s) txn) step is in
    let d = is_done (terms_of s) txn one.done one.is_done in
    let down = failed_compare_reads (terms_of s) txn (reread_keys level reads) failed refl d.right (failed_is s txn step is ∙ f) in
    let same : turned_down s.history failed (reread_keys level reads) ≡ one.done = let both = sym down ∙ one.is_done in cc in
    sym (ap (λ (x : Step TxnAnswer). x.next) one.came) ∙ sym (ap (λ (x : Done). with_history s x.history) same)

by_option : (s : Standing) (level : Level) (reads : List ReadAnswer) (writes : List Change) (step : Step TxnAnswer) (o : Option FailedCompare)
    → transacted s (commit_of level reads writes) ≡ Ok step → step.answer.failed ≡ o → is_none o ≡ false → step.next ≡ s
by_option s level reads writes step None is f none = absurd (cc)
by_option s level reads writes step (Some failed) is f none = turned_down_by s level reads writes step failed is f

-- where one failed, the store is as it was
pub turned_down_leaves : (s : Standing) (level : Level) (reads : List ReadAnswer) (writes : List Change) (step : Step TxnAnswer)
    → transacted s (commit_of level reads writes) ≡ Ok step → is_none step.answer.failed ≡ false → step.next ≡ s
turned_down_leaves s level reads writes step is none = by_option s level reads writes step step.answer.failed is refl none

-- the same, of a transaction that is that of a commit
pub is_committed_by : (s : Standing) (h : History) (level : Level) (reads : List ReadAnswer) (writes : List Change) (txn : Txn) (step : Step TxnAnswer)
    → h ≡ s.history → txn ≡ commit_of level reads writes → transacted s txn ≡ Ok step → step.answer.failed ≡ None → All (IsShown h) reads
    → IsCommitted s level reads writes step.next
is_committed_by s h level reads writes txn step of_store same is none shown =
    is_committed s level reads writes step (ap (λ (t : Txn). transacted s t) (sym same) ∙ is) none
    (subst (λ (k : History). All (IsShown k) reads) of_store shown)

pub turned_down_leaves_by : (s : Standing) (level : Level) (reads : List ReadAnswer) (writes : List Change) (txn : Txn) (step : Step TxnAnswer)
    → txn ≡ commit_of level reads writes → transacted s txn ≡ Ok step → is_none step.answer.failed ≡ false → step.next ≡ s
turned_down_leaves_by s level reads writes txn step same is none =
    turned_down_leaves s level reads writes step (ap (λ (t : Txn). transacted s t) (sym same) ∙ is) none
