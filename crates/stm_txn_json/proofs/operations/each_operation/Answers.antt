use Rattle.std.proofs.Common.{◌≡◌, [], drop, arith}
use Rattle.std.proofs.lemmas.List.{drop_all}
use Rattle.std.proofs.lemmas.Result.{err_from_is_err_and}
use Rattle.serde_json.specs.View.{items_view}
use Rattle.stm_json.specs.Parts.{each_from}
use Rattle.stm_txn_json.specs.Reading.{operation_of}
use Rattle.stm_json.proofs.ListLemmas.{goes_on, ends, is_done}
use Rattle.stm_txn_json.proofs.operations.each_operation.Goals as goal

pub returns-in_err-operation : goal.returns-in_err-operation
returns-in_err-operation c =
    let p = err_from_is_err_and c.from_residual-in_err-operation.result c.from_residual-in_err-operation.ensures.1 in
    rw (p.1, p.2) (ends operation_of c.in_err-operation.field-0.0 c.loop-index.operations.items c.args.values.now c.loop-index.index c.index-values-index.result
    (each_from operation_of 0 (items_view c.args.values.now)) c.loop-index-test.true c.index-values-index.is c.in_err-operation.ensures c.loop-index.invariant)

pub loop-index-preserved : goal.loop-index-preserved
loop-index-preserved c =
    rw c.in_ok-push.ensures.items (goes_on operation_of c.loop-index.operations.items c.args.values.now c.loop-index.index
    c.index-values-index.result c.in_ok-operation.operation (each_from operation_of 0 (items_view c.args.values.now))
    c.loop-index-test.true c.index-values-index.is c.in_ok-operation.ensures c.loop-index.invariant)

pub returns : goal.returns
returns c =
    let none : drop c.loop-index.index c.args.values.now ≡ [] = drop_all c.loop-index.index c.args.values.now (omega arith) in
    is_done operation_of c.loop-index.operations.items c.args.values.now c.loop-index.index
    (each_from operation_of 0 (items_view c.args.values.now)) none c.loop-index.invariant
