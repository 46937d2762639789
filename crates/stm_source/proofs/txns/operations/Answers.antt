use Rattle.std.proofs.Common.{◌≡◌, ◌<◌, [], length, Some, None, arith, rules}
use Rattle.std.proofs.lemmas.Result.{err_from_is_err_and}
use Rattle.stm_tokens.specs.declared.token.Symbol.TheVariants.{RightBrace}
use Rattle.stm_terms.specs.Cursor.{after_symbol}
use Rattle.stm_source.specs.Txns.{operations_from}
use Rattle.stm_source.proofs.StepLemmas.{operations_closed, operations_fault, operations_more, operations_over}
use Rattle.stm_source.proofs.txns.operations.Goals as goal

pub returns-in-Some : goal.returns-in-Some
returns-in-Some c =
    let n = length c.args.tokens.now in
    let less : c.loop-turn._turn < n = omega arith in
    let closed : after_symbol RightBrace c.loop-turn.rest.now ≡ Some c.in-Some.behind.now = search rules in
    operations_closed c.args.constants.now n c.loop-turn._turn c.loop-turn.operations.items c.loop-turn.rest.now c.in-Some.behind.now
    (operations_from c.args.constants.now n [] c.args.tokens.now) less closed c.loop-turn.invariant

pub returns-in_err-operation : goal.returns-in_err-operation
returns-in_err-operation c =
    let p = err_from_is_err_and c.from_residual.result c.from_residual.ensures.1 in
    let n = length c.args.tokens.now in
    let less : c.loop-turn._turn < n = omega arith in
    let unclosed : after_symbol RightBrace c.loop-turn.rest.now ≡ None = search rules in
    rw (p.1, p.2) (operations_fault c.in_err-operation.field-0.0 c.args.constants.now n c.loop-turn._turn c.loop-turn.operations.items c.loop-turn.rest.now
    (operations_from c.args.constants.now n [] c.args.tokens.now) less unclosed c.in_err-operation.ensures c.loop-turn.invariant)

pub loop-turn-preserved : goal.loop-turn-preserved
loop-turn-preserved c =
    let n = length c.args.tokens.now in
    let less : c.loop-turn._turn < n = omega arith in
    let unclosed : after_symbol RightBrace c.loop-turn.rest.now ≡ None = search rules in
    rw (c.in_ok-push.ensures.items, c.skip_semicolon-rest.ensures) (operations_more c.args.constants.now n c.loop-turn._turn c.loop-turn.operations.items c.in_ok-operation.operation
    c.loop-turn.rest.now c.in_ok-operation.behind.now (operations_from c.args.constants.now n [] c.args.tokens.now) less unclosed c.in_ok-operation.ensures c.loop-turn.invariant)

pub returns : goal.returns
returns c =
    let n = length c.args.tokens.now in
    operations_over c.unexpected.result c.args.constants.now n c.loop-turn._turn c.loop-turn.operations.items c.loop-turn.rest.now (operations_from c.args.constants.now n [] c.args.tokens.now)
    (omega arith) c.unexpected.ensures c.loop-turn.invariant
