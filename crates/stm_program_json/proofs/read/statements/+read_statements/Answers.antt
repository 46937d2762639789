use Rattle.std.proofs.Common.{◌<◌, arith}
use Rattle.std.proofs.lemmas.List.{drop_all}
use Rattle.std.proofs.lemmas.Result.{err_from_is_err_and}
use Rattle.serde_json.specs.View.{items_view}
use Rattle.stm_program_json.specs.Reading.{statement_at, statements_from}
use Rattle.stm_program_json.proofs.BlockLemmas.{goes_on, ends, is_done}
use Rattle.stm_program_json.proofs.ReadLemmas.{statement_at-deep, statement_at-full, statement_at-step}
use Rattle.stm_program_json.proofs.read.statements.+read_statements.Goals as goal

pub statement-returns-then-levels-eq0 : goal.statement-returns-then-levels-eq0
statement-returns-then-levels-eq0 t c = statement_at-deep _ _ _ _ c.if-levels-eq0.true c.fault.ensures

pub statement-returns-then-room-eq0 : goal.statement-returns-then-room-eq0
statement-returns-then-room-eq0 t c = statement_at-full _ _ _ _ (omega arith) c.if-room-eq0.true c.fault-then-room-eq0.ensures

pub statement-returns : goal.statement-returns
statement-returns t c =
    let levels : 0 < c.args.levels = omega arith in
    let room : 0 < c.args.room = omega arith in
    rw statement_at-step c.statement_array.ensures

pub statement_list-returns-in_err-statement : goal.statement_list-returns-in_err-statement
statement_list-returns-in_err-statement t c =
    let p = err_from_is_err_and c.from_residual.result c.from_residual.ensures.1 in
    rw (p.1, p.2) (ends c.in_err-statement.field-0.0 (statement_at c.args.levels) c.loop-index.statements.items c.args.values.now c.args.first c.loop-index.index
    c.loop-index.left c.index-values-index.result
    (statements_from (statement_at c.args.levels) c.args.first c.args.room (items_view c.args.values.now)) c.loop-index-test.true c.index-values-index.is
    c.in_err-statement.ensures c.loop-index.invariant)

pub statement_list-loop-index-preserved : goal.statement_list-loop-index-preserved
statement_list-loop-index-preserved t c =
    rw c.in_ok-push.ensures.items
    (goes_on (statement_at c.args.levels) c.loop-index.statements.items c.args.values.now c.args.first c.loop-index.index c.loop-index.left c.in_ok-statement.rest
    c.index-values-index.result c.in_ok-statement.statement
    (statements_from (statement_at c.args.levels) c.args.first c.args.room (items_view c.args.values.now)) c.loop-index-test.true c.index-values-index.is
    c.in_ok-statement.ensures c.loop-index.invariant)

pub statement_list-returns : goal.statement_list-returns
statement_list-returns t c =
    is_done (statement_at c.args.levels) c.loop-index.statements.items c.args.values.now c.args.first c.loop-index.index c.loop-index.left
    (statements_from (statement_at c.args.levels) c.args.first c.args.room (items_view c.args.values.now)) (drop_all c.loop-index.index c.args.values.now (omega arith))
    c.loop-index.invariant
