-- The checks over a whole transaction, whichever branch would run.
--
-- etcd's API reference, "Transaction", refuses a branch that puts one key twice, or puts and deletes it, and its server
-- an empty key and more operations of a list than its limit. Which of these refusals comes first is this store's own choice,
-- and so is that two deletions of one key are allowed in one branch.
use Rattle.std.specs.Prelude.{ℕ, Bool, false, ◌||◌, nat_lt, nat_eq, if◌then◌else◌, List, [], ◌∷◌, length, Option, Some, None}
use Rattle.std.specs.List.{list_any}
use Rattle.stm_outcome.specs.declared.txn.Txn.{Txn}
use Rattle.stm_outcome.specs.declared.txn.Op.{Op}
use Rattle.stm_outcome.specs.declared.refusal.Refusal.{Refusal}
use Rattle.stm_outcome.specs.declared.refusal.Refusal.TheVariants.{TooManyOps, EmptyKey, DuplicateKey}
use Rattle.stm_outcome.specs.Operations.{key_of_op, clash}

-- one of the three lists has more elements than the limit
abbrev pub has_too_many : ℕ → Txn → Bool
has_too_many limit t = nat_lt limit (length t.compares) || nat_lt limit (length t.success) || nat_lt limit (length t.failure)

abbrev pub is_empty_key : List ℕ → Bool
is_empty_key key = nat_eq (length key) 0

abbrev pub has_empty_key : Txn → Bool
has_empty_key t =
    list_any (λ c. is_empty_key c.key) t.compares
    || list_any (λ op. is_empty_key (key_of_op op)) t.success
    || list_any (λ op. is_empty_key (key_of_op op)) t.failure

-- an operation of a branch clashes with a later one
abbrev pub has_clash : List Op → Bool
has_clash [] = false
has_clash (op ∷ later) = list_any (clash op) later || has_clash later

-- the refusal of the whole transaction at a limit of operations, if there is one
abbrev pub fault_of : ℕ → Txn → Option Refusal
fault_of limit t =
    if has_too_many limit t then Some TooManyOps else (
    if has_empty_key t then Some EmptyKey else (
    if has_clash t.success || has_clash t.failure then Some DuplicateKey else None))
