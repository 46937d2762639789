-- The replies to a transaction, and the room for them.
use Rattle.std.proofs.Common.{◌≡◌, ◌≤◌, ◌⊎◌, ℕ, suc, List, [], ◌∷◌, length, Result, Ok, Err, IsOk, refl, sym, ap, subst, arith}
use Rattle.std.proofs.lemmas.Bool.Decides.{nat_tests}
use Rattle.stm_history.specs.History.{History}
use Rattle.stm_outcome.specs.declared.txn.Txn.{Txn}
use Rattle.stm_outcome.specs.declared.txn.Op.{Op}
use Rattle.stm_outcome.specs.declared.answer.TxnAnswer.{TxnAnswer}
use Rattle.stm_outcome.specs.declared.refusal.Refusal.{Refusal}
use Rattle.stm_outcome.specs.declared.refusal.Refusal.TheVariants.{OutOfMemory}
use Rattle.stm_outcome.specs.Terms.{Terms}
use Rattle.stm_outcome.specs.Branches.{Progress, answers_after, with_change_made, change_made}
use Rattle.stm_outcome.specs.Outcome.{Done, outcome}
use Rattle.stm_outcome.proofs.Applying.{is_done}
use Rattle.stm_txn.specs.Standing.{step_of, terms_of, transacted, refusal_of}
use Rattle.stm_journal.specs.JournalState.{JournalState, JournalStep}
use Rattle.stm_journal.specs.Entering.{made, entered, or_out_of_memory}

-- ---- the replies

-- ---- the room

one_answer_each : (h : History) (p : Progress) (ops : List Op) → length (answers_after h p ops) ≡ length ops
one_answer_each h p [] = refl
one_answer_each h p (op ∷ ops) = ap (λ n. suc n) (one_answer_each h (with_change_made h p (change_made p op)) ops)

done_fits : (terms : Terms) (txn : Txn) (done : Done) (n : ℕ) → outcome terms txn ≡ Ok done → length txn.success ≤ n → length txn.failure ≤ n →
    length done.answer.answers ≤ n
done_fits terms txn done n is success failure = grind (arith, nat_tests, is_done, one_answer_each)

-- the answer of a call that was taken
abbrev IsAnswered : Result (JournalStep TxnAnswer) Refusal → TxnAnswer → Type 0
IsAnswered (Ok step) answer = step.answer ≡ answer
IsAnswered (Err cause) answer = ⊥

made_fits : (j next : JournalState) (txn : Txn) (answer : TxnAnswer) (o : Result Done Refusal) (n : ℕ) → outcome (terms_of j.standing) txn ≡ o →
    IsAnswered (entered j txn (step_of j.standing o)) answer → length txn.success ≤ n → length txn.failure ≤ n → length answer.answers ≤ n
made_fits j next txn answer (Ok done) n is same success failure =
    subst (λ (a : TxnAnswer). length a.answers ≤ n) same (done_fits (terms_of j.standing) txn done n is success failure)
made_fits j next txn answer (Err cause) n is same success failure = absurd same

-- room for the longer branch is room for the replies
pub answers_fit : (j next : JournalState) (txn : Txn) (answer : TxnAnswer) (n : ℕ) → made j txn ≡ Ok record { answer = answer; next = next } →
    length txn.success ≤ n → length txn.failure ≤ n → length answer.answers ≤ n
answers_fit j next txn answer n taken success failure =
    made_fits j next txn answer (outcome (terms_of j.standing) txn) n refl
    (subst (λ (r : Result (JournalStep TxnAnswer) Refusal). IsAnswered r answer) (sym taken) refl) success failure

-- ---- no room

-- it is refused for the store's cause, or since memory ran out where the store would take it
pub refused_without_room : (j : JournalState) (txn : Txn) (cause : Refusal) → cause ≡ or_out_of_memory (refusal_of (transacted j.standing txn)) →
    (made j txn ≡ Err cause) ⊎ ((cause ≡ OutOfMemory) × IsOk (made j txn))
refused_without_room j txn cause is = grind (arith, nat_tests)
