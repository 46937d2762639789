-- A store that opens with a limit, and what does not look at it.
use Rattle.std.proofs.Common.{◌≡◌, ℕ, ◌≤◌, List, [], ◌∷◌, Option, refl, arith}
use Rattle.std.proofs.Math.Nat.{min-eq_left}
use Rattle.std.proofs.lemmas.Bool.Decides.{nat_tests}
use Rattle.stm_history.specs.History.{History}
use Rattle.stm_leases.specs.Live.{Live}
use Rattle.stm_outcome.specs.declared.txn.Op.{Op}
use Rattle.stm_outcome.specs.declared.answer.FailedCompare.{FailedCompare}
use Rattle.stm_outcome.specs.Terms.{most_operations, terms_at}
use Rattle.stm_outcome.specs.Branches.{op_refusal, branch_refusal}
use Rattle.stm_outcome.specs.LookUps.{outcome_copied}
use Rattle.stm_txn.specs.Standing.{Standing, at_revision, opening}

-- a limit that is at most the highest is the store's
pub opens_with_limit : (start limit : ℕ) → limit ≤ most_operations →
    (let s : Standing = record (opening (at_revision start)) { limit = limit } in s) ≡ opening (record { revision = start; limit = limit })
opens_with_limit start limit few = grind (arith, nat_tests, min-eq_left)

-- no operation is refused for the limit
one_refusal : (limit other floor : ℕ) (h : History) (live : Live) (op : Op) →
    op_refusal (terms_at limit floor h live) op ≡ op_refusal (terms_at other floor h live) op
one_refusal limit other floor h live op = grind (arith, nat_tests)

-- so no branch is
pub same_refusal : (limit other floor : ℕ) (h : History) (live : Live) (ops : List Op) →
    branch_refusal (terms_at limit floor h live) ops ≡ branch_refusal (terms_at other floor h live) ops
same_refusal limit other floor h live [] = refl
same_refusal limit other floor h live (op ∷ ops) = grind (arith, nat_tests, one_refusal, same_refusal limit other floor h live ops)

pub same_copied : (limit other floor : ℕ) (h : History) (live : Live) (failed : Option FailedCompare) (ops : List Op) →
    outcome_copied (terms_at limit floor h live) failed ops ≡ outcome_copied (terms_at other floor h live) failed ops
same_copied limit other floor h live failed ops = grind (arith, nat_tests, same_refusal)
