use Rattle.std.proofs.Common.{◌≡◌, drop}
use Rattle.serde_json.specs.View.{items_view}
use Rattle.stm_json.specs.Parts.{each_from}
use Rattle.stm_txn_json.specs.Reading.{operation_of}
use Rattle.stm_json.proofs.ListLemmas.{with_front}
use Rattle.stm_txn_json.proofs.operations.each_operation.Given as goal

-- those so far, and then what is read of the rest
abbrev pub invariant-loop-index : goal.invariant-loop-index
invariant-loop-index l =
    with_front l.operations.items (each_from operation_of l.index (items_view (drop l.index l.values)))
    ≡ each_from operation_of 0 (items_view l.values)
