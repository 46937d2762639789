use Rattle.std.proofs.Common.{◌≡◌, ◌<◌, length, Some, None, arith, rules}
use Rattle.std.proofs.lemmas.Result.{err_from_is_err_and}
use Rattle.stm_tokens.specs.declared.token.Symbol.TheVariants.{Comma}
use Rattle.stm_terms.specs.Cursor.{after_symbol}
use Rattle.stm_source.specs.Constants.{parameters_from}
use Rattle.stm_source.proofs.StepLemmas.{given_fault, given_more, given_last, given_unclosed, given_over}
use Rattle.stm_source.proofs.constants.some_parameters.Goals as goal

pub returns-in_err-inner : goal.returns-in_err-inner
returns-in_err-inner c =
    let p = err_from_is_err_and c.from_residual.result c.from_residual.ensures.1 in
    let n = length c.args.tokens.now in
    let less : c.loop-turn._turn < n = omega arith in
    rw (p.1, p.2) (given_fault c.in_err-inner.field-0.0 n c.loop-turn._turn c.loop-turn.outer c.loop-turn.rest.now
    (parameters_from n c.args.scope c.args.tokens.now) less c.in_err-inner.ensures c.loop-turn.invariant)

pub returns-in_err-rest : goal.returns-in_err-rest
returns-in_err-rest c =
    let p = err_from_is_err_and c.from_residual-in_err-rest.result c.from_residual-in_err-rest.ensures.1 in
    let n = length c.args.tokens.now in
    let less : c.loop-turn._turn < n = omega arith in
    let ends : after_symbol Comma c.in_ok-inner.behind.now ≡ None = search rules in
    rw (p.1, p.2) (given_unclosed c.in_err-rest.field-0.0 n c.loop-turn._turn c.loop-turn.outer c.in_ok-inner.inner c.loop-turn.rest.now
    c.in_ok-inner.behind.now (parameters_from n c.args.scope c.args.tokens.now) less c.in_ok-inner.ensures ends c.in_err-rest.ensures c.loop-turn.invariant)

pub returns-in_default : goal.returns-in_default
returns-in_default c =
    let n = length c.args.tokens.now in
    let less : c.loop-turn._turn < n = omega arith in
    let ends : after_symbol Comma c.in_ok-inner.behind.now ≡ None = search rules in
    given_last n c.loop-turn._turn c.loop-turn.outer c.in_ok-inner.inner c.loop-turn.rest.now
    c.in_ok-inner.behind.now c.in_ok-rest.rest.now (parameters_from n c.args.scope c.args.tokens.now) less c.in_ok-inner.ensures ends c.in_ok-rest.ensures
    c.loop-turn.invariant

pub loop-turn-preserved : goal.loop-turn-preserved
loop-turn-preserved c =
    let n = length c.args.tokens.now in
    let less : c.loop-turn._turn < n = omega arith in
    let follows : after_symbol Comma c.in_ok-inner.behind.now ≡ Some c.in-Some.next.now = search rules in
    given_more n c.loop-turn._turn c.loop-turn.outer c.in_ok-inner.inner c.loop-turn.rest.now
    c.in_ok-inner.behind.now c.in-Some.next.now (parameters_from n c.args.scope c.args.tokens.now) less c.in_ok-inner.ensures follows c.loop-turn.invariant

pub returns : goal.returns
returns c =
    let n = length c.args.tokens.now in
    given_over c.unexpected.result n c.loop-turn._turn c.loop-turn.outer c.loop-turn.rest.now (parameters_from n c.args.scope c.args.tokens.now)
    (omega arith) c.unexpected.ensures c.loop-turn.invariant
