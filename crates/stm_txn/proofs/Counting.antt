-- Whether a transaction changes something, found before it is made, and the revision that it then makes.
use Rattle.std.proofs.Common.{◌≡◌, ℕ, ◌+◌, Bool, true, cond, List, [], ◌∷◌, ◌++◌, Option, Some, None, Result, Ok, Err, refl, arith}
use Rattle.std.specs.Prelude.{IfOk}
use Rattle.std.proofs.lemmas.Bool.Decides.{nat_tests}
use Rattle.stm_history.specs.declared.change.Change.{Change}
use Rattle.stm_history.specs.History.{History, now}
use Rattle.stm_outcome.specs.declared.answer.FailedCompare.{FailedCompare}
use Rattle.stm_outcome.specs.declared.answer.OpAnswer.{OpAnswer}
use Rattle.stm_outcome.specs.declared.refusal.Refusal.{Refusal}
use Rattle.stm_outcome.specs.declared.refusal.Refusal.TheVariants.{RevisionsUsedUp}
use Rattle.stm_outcome.specs.declared.txn.Op.{Op}
use Rattle.stm_outcome.specs.declared.txn.Op.TheVariants.{Get, Put, Del}
use Rattle.stm_outcome.specs.declared.txn.Txn.{Txn}
use Rattle.stm_outcome.specs.Branches.{Progress, with_change, with_change_made, change_made, progress_after, changes_of_branch, has_changes}
use Rattle.stm_outcome.specs.LookUps.{changes_copied}
use Rattle.stm_outcome.specs.Outcome.{Done, with_changes, answer_of, outcome, would_change}
use Rattle.stm_txn.specs.Standing.{Standing, transacted}
use Rattle.stm_outcome.specs.Terms.{Terms}
use Rattle.stm_outcome.proofs.Branching.{stays_changed}

-- ---- by the look-up, also where operations clash: the first change decides

pushed_some : (cs : List Change) (c : Change) → has_changes (cs ++ c ∷ []) ≡ true
pushed_some [] c = refl
pushed_some (d ∷ ds) c = refl

-- a branch that has changed something has done so to its end
goes_on_changed : (h : History) (p : Progress) (ops : List Op) → has_changes p.changes ≡ true → has_changes (progress_after h p ops).changes ≡ true
goes_on_changed h p [] changed = changed
goes_on_changed h p (op ∷ ops) changed =
    elim (change_made p op) as (λ m. has_changes (progress_after h (with_change_made h p m) ops).changes ≡ true) [
      | None ↦ goes_on_changed h p ops changed
      | Some c ↦ goes_on_changed h (with_change h p c) ops (pushed_some p.changes c)
    ]

pub changes_alike : (h : History) (ops : List Op) → has_changes (changes_copied h [] ops) ≡ has_changes (changes_of_branch h ops)
changes_alike h [] = refl
changes_alike h (Get key rev ∷ ops) = changes_alike h ops
changes_alike h (Put key value lease ∷ ops) = grind (arith, nat_tests, stays_changed, goes_on_changed)
changes_alike h (Del key ∷ ops) = grind (arith, nat_tests, stays_changed, goes_on_changed, changes_alike h ops)

-- ---- the revision of a transaction

-- the counter after what a transaction comes to is higher by a number
abbrev IsHigherBy : History → ℕ → Result Done Refusal → Type 0
IsHigherBy h more o = IfOk o (λ (d : Done). now d.history ≡ now h + more)

higher : (h : History) (failed : Option FailedCompare) (changes : List Change) (answers : List OpAnswer) (used : Bool) →
    IsHigherBy h (cond (has_changes changes) 1 0)
    (cond used (Err RevisionsUsedUp) (Ok record { answer = answer_of h failed changes answers; history = with_changes h changes }))
higher h failed changes answers used = grind (arith, nat_tests)

outcome_higher : (terms : Terms) (txn : Txn) → IsHigherBy terms.history (cond (would_change terms.history txn) 1 0) (outcome terms txn)
outcome_higher terms txn = grind (arith, nat_tests, higher)

-- what is reported of it is one revision more, or none
pub reported_revision : (s : Standing) (txn : Txn) (reported : Bool) → reported ≡ would_change s.history txn →
    IfOk (transacted s txn) (λ step. now step.next.history ≡ now s.history + cond reported 1 0)
reported_revision s txn reported is = grind (arith, nat_tests, outcome_higher)
