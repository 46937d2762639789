use Rattle.std.proofs.Common.{◌≡◌, ◌<◌, [], length, Some, None, arith, rules}
use Rattle.std.proofs.lemmas.Result.{err_from_is_err_and}
use Rattle.stm_tokens.specs.declared.token.Symbol.TheVariants.{And}
use Rattle.stm_terms.specs.Cursor.{after_symbol}
use Rattle.stm_source.specs.Txns.{compares_from}
use Rattle.stm_source.proofs.StepLemmas.{compares_fault, compares_more, compares_last, compares_over}
use Rattle.stm_source.proofs.txns.compares.Goals as goal

pub returns-in_err-compare : goal.returns-in_err-compare
returns-in_err-compare c =
    let p = err_from_is_err_and c.from_residual.result c.from_residual.ensures.1 in
    let n = length c.args.tokens.now in
    let less : c.loop-turn._turn < n = omega arith in
    rw (p.1, p.2) (compares_fault c.in_err-compare.field-0.0 c.args.constants.now n c.loop-turn._turn c.loop-turn.compares.items c.loop-turn.rest.now
    (compares_from c.args.constants.now n [] c.args.tokens.now) less c.in_err-compare.ensures c.loop-turn.invariant)

pub returns-in_default : goal.returns-in_default
returns-in_default c =
    let n = length c.args.tokens.now in
    let less : c.loop-turn._turn < n = omega arith in
    let ends : after_symbol And c.in_ok-compare.behind.now ≡ None = search rules in
    rw c.in_ok-push.ensures.items (compares_last c.args.constants.now n c.loop-turn._turn c.loop-turn.compares.items c.in_ok-compare.compare c.loop-turn.rest.now
    c.in_ok-compare.behind.now (compares_from c.args.constants.now n [] c.args.tokens.now) less c.in_ok-compare.ensures ends c.loop-turn.invariant)

pub loop-turn-preserved : goal.loop-turn-preserved
loop-turn-preserved c =
    let n = length c.args.tokens.now in
    let less : c.loop-turn._turn < n = omega arith in
    let follows : after_symbol And c.in_ok-compare.behind.now ≡ Some c.in-Some.next.now = search rules in
    rw c.in_ok-push.ensures.items (compares_more c.args.constants.now n c.loop-turn._turn c.loop-turn.compares.items c.in_ok-compare.compare c.loop-turn.rest.now
    c.in_ok-compare.behind.now c.in-Some.next.now (compares_from c.args.constants.now n [] c.args.tokens.now) less c.in_ok-compare.ensures follows c.loop-turn.invariant)

pub returns : goal.returns
returns c =
    let n = length c.args.tokens.now in
    compares_over c.unexpected.result c.args.constants.now n c.loop-turn._turn c.loop-turn.compares.items c.loop-turn.rest.now (compares_from c.args.constants.now n [] c.args.tokens.now) (omega arith)
    c.unexpected.ensures c.loop-turn.invariant
