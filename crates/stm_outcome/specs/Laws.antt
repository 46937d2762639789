-- The laws of transactions, each carried by a function of `src/laws.rt`.
use Rattle.std.specs.Prelude.{◌≡◌, ◌↔◌, ℕ, ◌+◌, ◌<◌, ◌≤◌, true, false, if◌then◌else◌, List, [], length, map, Option, Some, None, Ok, slice_get}
use Rattle.std.specs.List.{list_all}
use Rattle.stm_history.specs.declared.change.Change.{Change}
use Rattle.stm_history.specs.declared.key_state.KeyState.{KeyState}
use Rattle.stm_history.specs.History.{History, now, key_now, key_of, mod_of, change_of, after_change, HasDistinctKeys}
use Rattle.stm_outcome.specs.declared.txn.Txn.{Txn}
use Rattle.stm_outcome.specs.declared.txn.Compare.{Compare}
use Rattle.stm_outcome.specs.declared.answer.FailedCompare.{FailedCompare}
use Rattle.stm_outcome.specs.declared.refusal.Refusal.TheVariants.{TooManyOps}
use Rattle.stm_outcome.specs.Compares.{holds, first_failed}
use Rattle.stm_outcome.specs.Checks.{has_too_many, has_clash, fault_of}
use Rattle.stm_outcome.specs.declared.txn.Op.{Op}
use Rattle.stm_outcome.specs.Branches.{begun, progress_after, changes_of_branch}
use Rattle.stm_outcome.specs.Effect.{op_of}
use Rattle.stm_outcome.specs.Outcome.{Done, outcome, branch_outcome, with_changes}
use Rattle.stm_outcome.specs.Commits.{mod_is, mod_is_below, applied, Read, read_op, read_now, AreReached, AreNamed, read_out, turned_down}
use Rattle.stm_outcome.specs.Terms.{Terms}

-- Writes of distinct keys come to these writes, where nothing of the whole transaction is wrong and every compare holds.
abbrev pub WritesApply : Type 0
WritesApply =
    (terms : Terms) (txn : Txn) (writes : List Change) → txn.success ≡ map op_of writes → HasDistinctKeys writes
    → fault_of terms.limit txn ≡ None → first_failed (key_now terms.history) 0 txn.compares ≡ None → outcome terms txn ≡ applied terms writes

-- A branch of writes of distinct keys, with nothing compared, comes to these writes.
abbrev pub BranchApplies : Type 0
BranchApplies = (terms : Terms) (writes : List Change) → HasDistinctKeys writes → branch_outcome terms None (map op_of writes) ≡ applied terms writes

-- Where a compare fails and the failure list reads, the answer has the compare and the reads, and nothing changes.
abbrev pub FailedCompareReads : Type 0
FailedCompareReads =
    (terms : Terms) (txn : Txn) (keys : List (List ℕ)) (failed : FailedCompare) → txn.failure ≡ map read_now keys → fault_of terms.limit txn ≡ None
    → first_failed (key_now terms.history) 0 txn.compares ≡ Some failed → outcome terms txn ≡ Ok (turned_down terms.history failed keys)

-- A transaction of reads alone, none above the counter, answers each key at its revision and changes nothing.
abbrev pub ReadsChangeNothing : Type 0
ReadsChangeNothing =
    (terms : Terms) (txn : Txn) (reads : List Read) → txn.compares ≡ [] → txn.success ≡ map read_op reads
    → fault_of terms.limit txn ≡ None → AreReached terms reads → outcome terms txn ≡ Ok (read_out terms.history None reads)

-- Of writes of distinct keys and reads, whose keys are not empty, nothing can be wrong as a whole but their number.
abbrev pub NumberAloneIsWrong : Type 0
NumberAloneIsWrong =
    (limit : ℕ) (txn : Txn) (writes : List Change) (keys : List (List ℕ)) → txn.success ≡ map op_of writes → txn.failure ≡ map read_now keys
    → HasDistinctKeys writes → AreNamed (map (λ (c : Compare). c.key) txn.compares) → AreNamed (map key_of writes) → AreNamed keys
    → fault_of limit txn ≡ (if has_too_many limit txn then Some TooManyOps else None)

-- A compare of a modification revision holds where the numbers are equal, and one of "below" where it is below.
pub record ModCompares : Type 0 where
  pub equal : (key : List ℕ) (number : ℕ) (s : Option KeyState) → (holds (mod_is key number) s ≡ true) ↔ (mod_of s ≡ number)
  pub below : (key : List ℕ) (number : ℕ) (s : Option KeyState) → (holds (mod_is_below key number) s ≡ true) ↔ (mod_of s < number)

-- No compare failed exactly where all hold.
abbrev pub NoneFailed : Type 0
NoneFailed =
    (state : List ℕ → Option KeyState) (compares : List Compare) →
    (first_failed state 0 compares ≡ None) ↔ (list_all (λ (c : Compare). holds c (state c.key)) compares ≡ true)

-- The compare that failed stands at the reported place, below their number, does not hold, and its key's modification
-- revision is the reported one.
pub record FailsAt (state : List ℕ → Option KeyState) (compares : List Compare) (failed : FailedCompare) : Type 0 where
  pub within : failed.index < length compares
  pub compare : Compare
  pub stands : slice_get compares failed.index ≡ Some compare
  pub fails : holds compare (state compare.key) ≡ false
  pub reported : failed.mod_rev ≡ mod_of (state compare.key)

abbrev pub FailedHasItsPlace : Type 0
FailedHasItsPlace =
    (state : List ℕ → Option KeyState) (compares : List Compare) (failed : FailedCompare) →
    first_failed state 0 compares ≡ Some failed → FailsAt state compares failed

-- Whatever a transaction comes to, its history is the old one with some changes of distinct keys, or as it was.
abbrev pub HistoryGrows : Type 0
HistoryGrows =
    (terms : Terms) (txn : Txn) (done : Done) → outcome terms txn ≡ Ok done
    → (changes : List Change) × HasDistinctKeys changes × (done.history ≡ with_changes terms.history changes)

-- A transaction that is taken at a floor and a limit is taken where there is no floor and a limit that is as high, and comes to the same.
abbrev pub WiderTermsTake : Type 0
WiderTermsTake =
    (terms : Terms) (limit : ℕ) (txn : Txn) (done : Done) → terms.limit ≤ limit → outcome terms txn ≡ Ok done
    → outcome (record terms { floor = 0; limit = limit }) txn ≡ Ok done

-- Where no two operations of a branch clash, what a key is by now is what its change in the list makes of it.
abbrev pub LookUpIsTheState : Type 0
LookUpIsTheState =
    (h : History) (ops : List Op) (key : List ℕ) → has_clash ops ≡ false
    → (progress_after h (begun h) ops).state key ≡ after_change (now h + 1) (change_of key (changes_of_branch h ops)) (key_now h key)
