use Rattle.std.proofs.Common.{◌∙◌, ap, map, arith}
use Rattle.serde_json.specs.Data.{array}
use Rattle.serde_json.specs.View.{view}
use Rattle.serde_json.proofs.Views.{view-Array}
use Rattle.stm_program.specs.BlockView.{block_of}
use Rattle.stm_program_json.specs.Writing.{items_after, written_statements}
use Rattle.stm_program_json.proofs.WriteLoop.{goes_on, is_done, item_weight}
use Rattle.stm_program_json.proofs.spell.statements.+write_statements.Goals as goal

pub statements_after-statement_value-requires : goal.statements_after-statement_value-requires
statements_after-statement_value-requires t c = (
  omega (
    arith,
    c.decreases,
    item_weight c.args.statements.now c.loop-statement.statement-index c.statement-item.result c.loop-statement-test.true
        c.statement-item.is,
  ),
  tt,
)

pub statements_after-loop-statement-preserved : goal.statements_after-loop-statement-preserved
statements_after-loop-statement-preserved t c =
    goes_on c.loop-statement.values.items c.push.new.self.items c.args.statements.now c.loop-statement.statement-index c.statement-item.result
    c.in_ok-value.value
    (items_after (map view c.args.before.items) (written_statements (block_of c.args.statements.now))) c.loop-statement-test.true c.statement-item.is c.in_ok-value.ensures c.in_ok-push.ensures.items
    c.loop-statement.invariant

pub statements_after-returns : goal.statements_after-returns
statements_after-returns t c =
    view-Array c.loop-statement.values ∙ ap array (is_done c.loop-statement.values.items c.args.statements.now c.loop-statement.statement-index
    (items_after (map view c.args.before.items) (written_statements (block_of c.args.statements.now))) (omega arith) c.loop-statement.invariant)
