use Rattle.std.proofs.Common.{◌≡◌, ℕ, Option, None, sym, ◌∙◌, ap, arith}
use Rattle.stm_history.specs.History.{History}
use Rattle.stm_outcome.specs.declared.refusal.Refusal.{Refusal}
use Rattle.stm_outcome.specs.Checks.{fault_of}
use Rattle.stm_txn.specs.Standing.{Standing}
use Rattle.stm_attempt.specs.ReadyRun.{ReadyRun}
use Rattle.stm_journal.specs.Causes.{cause_compared, cause_wrong}
use Rattle.stm_journal.specs.Verdicts.{txn_of}
use Rattle.stm_journal.proofs.WholeFaults.{compares_within}
use Rattle.stm_journal.proofs.causes.find_cause.Goals as goal

-- nothing is wrong with it as a whole
pub find_failure-requires : goal.find_failure-requires
find_failure-requires c =
    let ready : ReadyRun = c.args.ready.now in
    let right : fault_of c.limit-most.result (txn_of ready) ≡ None = sym c.find_fault.ensures ∙ c.in-None.is in
    omega (arith, compares_within c.limit-most.result (txn_of ready) right, c.limit-most.ensures.limit, c.limit-most.ensures.few)

pub returns-in-None : goal.returns-in-None
returns-in-None c =
    let ready : ReadyRun = c.args.ready.now in
    let s : Standing = c.args.store.now.standing in
    c.find_failure.ensures
    ∙ ap (λ (h : History). cause_compared h ready) c.keys.ensures.history
    ∙ ap (λ (o : Option Refusal). cause_wrong o (cause_compared s.history ready))
    (sym c.in-None.is ∙ c.find_fault.ensures ∙ ap (λ (n : ℕ). fault_of n (txn_of ready)) c.limit-most.ensures.limit)

pub returns-in-Some : goal.returns-in-Some
returns-in-Some c =
    let ready : ReadyRun = c.args.ready.now in
    let s : Standing = c.args.store.now.standing in
    ap (λ (o : Option Refusal). cause_wrong o (cause_compared s.history ready))
    (sym c.in-Some.is ∙ c.find_fault.ensures ∙ ap (λ (n : ℕ). fault_of n (txn_of ready)) c.limit-most.ensures.limit)
