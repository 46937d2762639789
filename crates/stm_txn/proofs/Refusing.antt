-- Why transactions are refused, found before they are made.
use Rattle.std.proofs.Common.{◌≡◌, ◌∙◌, ℕ, List, [], Option, None, sym, ap}
use Rattle.stm_history.specs.History.{History, key_now}
use Rattle.stm_leases.specs.Live.{Live}
use Rattle.stm_outcome.specs.declared.txn.Op.{Op}
use Rattle.stm_outcome.specs.declared.txn.Txn.{Txn}
use Rattle.stm_outcome.specs.declared.answer.FailedCompare.{FailedCompare}
use Rattle.stm_outcome.specs.declared.refusal.Refusal.{Refusal}
use Rattle.stm_outcome.specs.Terms.{most_operations, terms_at, terms_above}
use Rattle.stm_outcome.specs.Checks.{fault_of}
use Rattle.stm_outcome.specs.Compares.{first_failed}
use Rattle.stm_outcome.specs.LookUps.{outcome_copied}
use Rattle.stm_outcome.specs.Outcome.{outcome, chosen}
use Rattle.stm_txn.specs.Standing.{Standing, refusal_of}
use Rattle.stm_txn.proofs.Limits.{same_copied}
use Rattle.stm_txn.proofs.Transacting.{as_run}

-- a transaction with no fault of the whole at a limit is refused as the branch that its compares pick, which no limit refuses
pub chosen_refused : (limit floor : ℕ) (h : History) (live : Live) (txn : Txn) (failed : Option FailedCompare) (ops : List Op) (reported : Option Refusal) →
    fault_of limit txn ≡ None → first_failed (key_now h) 0 txn.compares ≡ failed → chosen failed txn ≡ ops →
    reported ≡ refusal_of (outcome_copied (terms_above floor h live) failed ops) → reported ≡ refusal_of (outcome (terms_at limit floor h live) txn)
chosen_refused limit floor h live txn failed ops reported whole first branch is =
    let s : Standing = record { history = h; floor = floor; limit = limit; live = live; moment = 0; watchers = [] } in
    is
    ∙ ap refusal_of (same_copied most_operations limit floor h live failed ops)
    ∙ sym (ap refusal_of (as_run s txn failed ops whole first branch))
