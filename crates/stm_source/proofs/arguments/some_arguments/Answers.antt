use Rattle.std.proofs.Common.{◌≡◌, ◌<◌, [], length, Some, None, arith, rules}
use Rattle.std.proofs.lemmas.Result.{err_from_is_err_and}
use Rattle.stm_tokens.specs.declared.token.Symbol.TheVariants.{Comma}
use Rattle.stm_terms.specs.Cursor.{after_symbol}
use Rattle.stm_source.specs.Definitions.{arguments_from}
use Rattle.stm_source.proofs.StepLemmas.{arguments_fault, arguments_more, arguments_last, arguments_unclosed, arguments_over}
use Rattle.stm_source.proofs.arguments.some_arguments.Goals as goal

pub returns-in_err-argument : goal.returns-in_err-argument
returns-in_err-argument c =
    let p = err_from_is_err_and c.from_residual.result c.from_residual.ensures.1 in
    let n = length c.args.tokens.now in
    let less : c.loop-turn._turn < n = omega arith in
    rw (p.1, p.2) (arguments_fault c.in_err-argument.field-0.0 c.args.constants.now n c.loop-turn._turn c.loop-turn.given c.loop-turn.rest.now
    (arguments_from c.args.constants.now n [] c.args.tokens.now) less c.in_err-argument.ensures c.loop-turn.invariant)

pub returns-in_err-rest : goal.returns-in_err-rest
returns-in_err-rest c =
    let p = err_from_is_err_and c.from_residual-in_err-rest.result c.from_residual-in_err-rest.ensures.1 in
    let n = length c.args.tokens.now in
    let less : c.loop-turn._turn < n = omega arith in
    let ends : after_symbol Comma c.in_ok-argument.behind.now ≡ None = search rules in
    rw (p.1, p.2) (arguments_unclosed c.in_err-rest.field-0.0 c.args.constants.now n c.loop-turn._turn c.loop-turn.given c.in_ok-argument.argument c.loop-turn.rest.now
    c.in_ok-argument.behind.now (arguments_from c.args.constants.now n [] c.args.tokens.now) less c.in_ok-argument.ensures ends c.in_err-rest.ensures c.loop-turn.invariant)

pub returns-in_default : goal.returns-in_default
returns-in_default c =
    let n = length c.args.tokens.now in
    let less : c.loop-turn._turn < n = omega arith in
    let ends : after_symbol Comma c.in_ok-argument.behind.now ≡ None = search rules in
    rw c.in_ok-push.ensures.ok (arguments_last c.args.constants.now n c.loop-turn._turn c.loop-turn.given c.in_ok-argument.argument c.loop-turn.rest.now
    c.in_ok-argument.behind.now c.in_ok-rest.rest.now (arguments_from c.args.constants.now n [] c.args.tokens.now) less c.in_ok-argument.ensures ends c.in_ok-rest.ensures
    c.loop-turn.invariant)

pub loop-turn-preserved : goal.loop-turn-preserved
loop-turn-preserved c =
    let n = length c.args.tokens.now in
    let less : c.loop-turn._turn < n = omega arith in
    let follows : after_symbol Comma c.in_ok-argument.behind.now ≡ Some c.in-Some.next.now = search rules in
    rw c.in_ok-push.ensures.ok (arguments_more c.args.constants.now n c.loop-turn._turn c.loop-turn.given c.in_ok-argument.argument c.loop-turn.rest.now
    c.in_ok-argument.behind.now c.in-Some.next.now (arguments_from c.args.constants.now n [] c.args.tokens.now) less c.in_ok-argument.ensures follows c.loop-turn.invariant)

pub returns : goal.returns
returns c =
    let n = length c.args.tokens.now in
    arguments_over c.unexpected.result c.args.constants.now n c.loop-turn._turn c.loop-turn.given c.loop-turn.rest.now (arguments_from c.args.constants.now n [] c.args.tokens.now)
    (omega arith) c.unexpected.ensures c.loop-turn.invariant
