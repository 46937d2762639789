-- Reading a transaction: what data spell, or the first fault. A value is looked at before its elements, and these from the
-- first to the last.
use Rattle.std.specs.Prelude.{ℕ, List, Option, Some, None, Ok, if◌then◌else◌, codes}
use Rattle.serde_json.specs.Data.{Data, Items}
use Rattle.serde_json.specs.Find.{as_str, as_array}
use Rattle.stm_history.specs.declared.revisions.TheConstants.{HIGHEST_NUMBER}
use Rattle.stm_json.specs.declared.cause.Cause.TheVariants.{Shape}
use Rattle.stm_json.specs.Outcome.{Outcome, bad, ◌>>=◌, within}
use Rattle.stm_json.specs.Elements.{worded, one_of, two_of, three_of, number_up_to}
use Rattle.stm_outcome.specs.declared.txn.Compare.{Compare}
use Rattle.stm_outcome.specs.declared.txn.Op.{Op}
use Rattle.stm_outcome.specs.declared.txn.Op.TheVariants.{Get, Put, Del}
use Rattle.stm_outcome.specs.declared.txn.Order.{Order}
use Rattle.stm_outcome.specs.declared.txn.Target.{Target}
use Rattle.stm_outcome.specs.declared.txn.Target.TheVariants.{Version, Create, Mod, Lease, Value}
use Rattle.stm_outcome.specs.declared.txn.Txn.{Txn}
use Rattle.stm_txn_json.specs.declared.words.TargetWord.{TargetWord}
use Rattle.stm_txn_json.specs.declared.words.TargetWord.TheVariants as word
use Rattle.stm_json.specs.Parts.{same, list_of, on_text, text_of}
use Rattle.stm_txn_json.specs.Words.{order_named, target_named}

-- ---- parts

unfoldable pub order_of : Data → Outcome Order
order_of d = on_text order_named (as_str d)

-- ---- compares

-- what a compare looks at, with the compare's side
abbrev pub target_of : TargetWord → Data → Outcome Target
target_of word.Version d = number_up_to HIGHEST_NUMBER d >>= λ n. Ok (Version n)
target_of word.Create d = number_up_to HIGHEST_NUMBER d >>= λ n. Ok (Create n)
target_of word.Mod d = number_up_to HIGHEST_NUMBER d >>= λ n. Ok (Mod n)
target_of word.Lease d = number_up_to HIGHEST_NUMBER d >>= λ n. Ok (Lease n)
target_of word.Value d = text_of d >>= λ s. Ok (Value s)

abbrev pub compare_parts : TargetWord → Option (Data × Data × Data) → Outcome Compare
compare_parts w None = bad Shape
compare_parts w (Some p) =
    within 1 (text_of p.0) >>= λ key. within 2 (order_of p.1) >>= λ order. within 3 (target_of w p.2) >>= λ target. Ok
    (record { key = key; target = target; order = order })

abbrev pub compare_worded : Option (List ℕ × Items) → Outcome Compare
compare_worded None = bad Shape
compare_worded (Some p) = target_named p.0 >>= λ w. compare_parts w (three_of p.1)

unfoldable pub compare_of : Data → Outcome Compare
compare_of d = compare_worded (worded d)

-- ---- operations

abbrev pub get_of : Option (Data × Data) → Outcome Op
get_of None = bad Shape
get_of (Some p) = within 1 (text_of p.0) >>= λ key. within 2 (number_up_to HIGHEST_NUMBER p.1) >>= λ rev. Ok (Get key rev)

abbrev pub put_of : Option (Data × Data × Data) → Outcome Op
put_of None = bad Shape
put_of (Some p) =
    within 1 (text_of p.0) >>= λ key. within 2 (text_of p.1) >>= λ value. within 3 (number_up_to HIGHEST_NUMBER p.2) >>= λ lease. Ok
    (Put key value lease)

abbrev pub del_of : Option Data → Outcome Op
del_of None = bad Shape
del_of (Some d) = within 1 (text_of d) >>= λ key. Ok (Del key)

abbrev pub operation_worded : Option (List ℕ × Items) → Outcome Op
operation_worded None = bad Shape
operation_worded (Some p) =
    if same p.0 (codes "get") then get_of (two_of p.1)
    else (if same p.0 (codes "put") then put_of (three_of p.1)
    else (if same p.0 (codes "del") then del_of (one_of p.1)
    else bad Shape))

unfoldable pub operation_of : Data → Outcome Op
operation_of d = operation_worded (worded d)

-- ---- lists

unfoldable pub compares_of : Data → Outcome (List Compare)
compares_of d = list_of compare_of (as_array d)

unfoldable pub operations_of : Data → Outcome (List Op)
operations_of d = list_of operation_of (as_array d)

-- ---- transactions

abbrev pub txn_parts : Option (Data × Data × Data) → Outcome Txn
txn_parts None = bad Shape
txn_parts (Some p) =
    within 1 (compares_of p.0) >>= λ compares. within 2 (operations_of p.1) >>= λ success. within 3 (operations_of p.2) >>= λ failure. Ok
    (record { compares = compares; success = success; failure = failure })

abbrev pub txn_worded : Option (List ℕ × Items) → Outcome Txn
txn_worded None = bad Shape
txn_worded (Some p) = if same p.0 (codes "txn") then txn_parts (three_of p.1) else bad Shape

-- the transaction that data spell, or the first fault
unfoldable pub txn_of : Data → Outcome Txn
txn_of d = txn_worded (worded d)
