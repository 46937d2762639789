-- Transactions as steps of a store.
use Rattle.std.proofs.Common.{◌≡◌, ℕ, ◌<◌, false, List, length, Option, Some, None, sym, ◌∙◌, ap, subst, arith}
use Rattle.std.specs.Prelude.{Result, Ok, IfOk, IfErr, IfSome}
use Rattle.std.proofs.lemmas.Bool.Decides.{nat_tests}
use Rattle.stm_history.specs.declared.key_state.KeyState.{KeyState}
use Rattle.stm_history.specs.History.{key_now}
use Rattle.stm_outcome.specs.declared.txn.Txn.{Txn}
use Rattle.stm_outcome.specs.declared.txn.Compare.{Compare}
use Rattle.stm_outcome.specs.declared.txn.Op.{Op}
use Rattle.stm_outcome.specs.declared.answer.FailedCompare.{FailedCompare}
use Rattle.stm_outcome.specs.declared.refusal.Refusal.{Refusal}
use Rattle.stm_outcome.specs.Compares.{first_failed}
use Rattle.stm_outcome.specs.Checks.{has_clash, fault_of}
use Rattle.stm_outcome.specs.Outcome.{Done, chosen, branch_outcome, outcome}
use Rattle.stm_outcome.specs.declared.answer.TxnAnswer.{TxnAnswer}
use Rattle.stm_txn.specs.Standing.{Standing, Step, IsRefusalOf, Returns, with_history, step_of, transacted, terms_of}
use Rattle.stm_outcome.proofs.Folding.{by_look_up}
use Rattle.stm_outcome.specs.LookUps.{outcome_copied}
use Rattle.stm_outcome.specs.Terms.{Terms}
use Rattle.stm_outcome.proofs.Applying.{chosen_apart, failed_has_its_place, is_done, judged}

-- a failed compare's place in what a transaction comes to
pub failed_case : (s : Standing) (outcome_of : Result Done Refusal) (a : TxnAnswer) (next : Standing) →
    step_of s outcome_of ≡ Ok record { answer = a; next = next } →
    (done : Done) × (outcome_of ≡ Ok done) × (done.answer ≡ a)
failed_case s outcome_of a next is = grind (arith, nat_tests)

answered_failed : (terms : Terms) (txn : Txn) (done : Done) → outcome terms txn ≡ Ok done →
    done.answer.failed ≡ first_failed (key_now terms.history) 0 txn.compares
answered_failed terms txn done is = sym (ap (λ (d : Done). d.answer.failed) (is_done terms txn done is).made)

place_within : (state : List ℕ → Option KeyState) (cs : List Compare) (failed : Option FailedCompare) → failed ≡ first_failed state 0 cs →
    IfSome failed (λ (f : FailedCompare). f.index < length cs)
place_within state cs None is = tt
place_within state cs (Some f) is = (failed_has_its_place state cs f (sym is)).within

pub placed : (s next : Standing) (txn : Txn) (a : TxnAnswer) → transacted s txn ≡ Ok record { answer = a; next = next } →
    IfSome a.failed (λ (f : FailedCompare). f.index < length txn.compares)
placed s next txn a is =
    let found : (done : Done) × (outcome (terms_of s) txn ≡ Ok done) × (done.answer ≡ a) =
    failed_case s (outcome (terms_of s) txn) a next is in
    place_within (key_now s.history) txn.compares a.failed
    (sym (ap (λ (x : TxnAnswer). x.failed) found.2) ∙ answered_failed (terms_of s) txn found.0 found.1)

-- what holds of each answer that is defined holds of a result that returns it
pub of_answer : {P : TxnAnswer → Type 0} (s next : Standing) (txn : Txn) (r : Result TxnAnswer Refusal) → Returns (transacted s txn) r next →
    ((a : TxnAnswer) → transacted s txn ≡ Ok record { answer = a; next = next } → P a) → IfOk r P
of_answer s next txn r reports each = grind (arith, nat_tests)

same_but_history : (s next : Standing) → next.floor ≡ s.floor → next.limit ≡ s.limit → next.live ≡ s.live → next.moment ≡ s.moment
    → next.watchers ≡ s.watchers → with_history s next.history ≡ next
same_but_history s next floor limit live moment watchers = grind (arith, nat_tests)

abbrev answered : TxnAnswer → Standing → Result (Step TxnAnswer) Refusal
answered a next = Ok record { answer = a; next = next }

pub as_run : (s : Standing) (txn : Txn) (failed : Option FailedCompare) (ops : List Op) → fault_of (terms_of s).limit txn ≡ None →
    first_failed (key_now s.history) 0 txn.compares ≡ failed → chosen failed txn ≡ ops →
    outcome (terms_of s) txn ≡ outcome_copied (terms_of s) failed ops
as_run s txn failed ops whole first branch =
    judged (terms_of s) txn failed whole first
    ∙ ap (branch_outcome (terms_of s) failed) branch
    ∙ by_look_up (terms_of s) failed ops (subst (λ l. has_clash l ≡ false) branch (chosen_apart (terms_of s).limit txn failed whole))

pub came : (s next : Standing) (txn : Txn) (failed : Option FailedCompare) (ops : List Op) (r : Result TxnAnswer Refusal) →
    fault_of (terms_of s).limit txn ≡ None → first_failed (key_now s.history) 0 txn.compares ≡ failed → chosen failed txn ≡ ops →
    IfOk r (λ a. outcome_copied (terms_of s) failed ops ≡ Ok record { answer = a; history = next.history }) →
    IfErr r (IsRefusalOf (outcome_copied (terms_of s) failed ops)) → next.floor ≡ s.floor → next.limit ≡ s.limit → next.live ≡ s.live
    → next.moment ≡ s.moment → next.watchers ≡ s.watchers → Returns (transacted s txn) r next
came s next txn failed ops r whole first branch ok refused floor limit live moment watchers = grind (arith, nat_tests, as_run, same_but_history)
