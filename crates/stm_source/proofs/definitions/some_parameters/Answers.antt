use Rattle.std.proofs.Common.{◌≡◌, ◌<◌, [], length, Some, None, arith, rules}
use Rattle.std.proofs.lemmas.Result.{err_from_is_err_and}
use Rattle.stm_tokens.specs.declared.token.Symbol.TheVariants.{Comma}
use Rattle.stm_terms.specs.Cursor.{after_symbol}
use Rattle.stm_source.specs.Definitions.{parameters_from}
use Rattle.stm_source.proofs.StepLemmas.{parameters_fault, parameters_more, parameters_last, parameters_unclosed, parameters_over}
use Rattle.stm_source.proofs.definitions.some_parameters.Goals as goal

pub returns-in_err-name : goal.returns-in_err-name
returns-in_err-name c =
    let p = err_from_is_err_and c.from_residual.result c.from_residual.ensures.1 in
    let n = length c.args.tokens.now in
    let less : c.loop-turn._turn < n = omega arith in
    rw (p.1, p.2) (parameters_fault c.in_err-name.field-0.0 c.args.constants.now n c.loop-turn._turn c.loop-turn.names c.loop-turn.rest.now
    (parameters_from c.args.constants.now n [] c.args.tokens.now) less c.in_err-name.ensures.is c.loop-turn.invariant)

pub returns-in_err-is_list : goal.returns-in_err-is_list
returns-in_err-is_list c =
    let p = err_from_is_err_and c.from_residual-in_err-is_list.result c.from_residual-in_err-is_list.ensures.1 in
    let n = length c.args.tokens.now in
    let less : c.loop-turn._turn < n = omega arith in
    let ends : after_symbol Comma c.in_ok-name.behind.now ≡ None = search rules in
    rw (p.1, p.2) (parameters_unclosed c.in_err-is_list.field-0.0 c.args.constants.now n c.loop-turn._turn c.loop-turn.names c.in_ok-name.name.now c.loop-turn.rest.now
    c.in_ok-name.behind.now (parameters_from c.args.constants.now n [] c.args.tokens.now) less c.in_ok-name.ensures.is ends c.in_err-is_list.ensures c.loop-turn.invariant)

pub returns-in_default : goal.returns-in_default
returns-in_default c =
    let n = length c.args.tokens.now in
    let less : c.loop-turn._turn < n = omega arith in
    let ends : after_symbol Comma c.in_ok-name.behind.now ≡ None = search rules in
    rw c.in_ok-push.ensures (parameters_last c.args.constants.now n c.loop-turn._turn c.loop-turn.names c.in_ok-name.name.now c.in_ok-is_list.is_list c.loop-turn.rest.now
    c.in_ok-name.behind.now c.in_ok-is_list.rest.now (parameters_from c.args.constants.now n [] c.args.tokens.now) less c.in_ok-name.ensures.is ends c.in_ok-is_list.ensures
    c.loop-turn.invariant)

pub loop-turn-preserved : goal.loop-turn-preserved
loop-turn-preserved c =
    let n = length c.args.tokens.now in
    let less : c.loop-turn._turn < n = omega arith in
    let follows : after_symbol Comma c.in_ok-name.behind.now ≡ Some c.in-Some.next.now = search rules in
    rw c.in_ok-push.ensures (parameters_more c.args.constants.now n c.loop-turn._turn c.loop-turn.names c.in_ok-name.name.now c.loop-turn.rest.now
    c.in_ok-name.behind.now c.in-Some.next.now (parameters_from c.args.constants.now n [] c.args.tokens.now) less c.in_ok-name.ensures.is follows c.loop-turn.invariant)

pub returns : goal.returns
returns c =
    let n = length c.args.tokens.now in
    parameters_over c.unexpected.result c.args.constants.now n c.loop-turn._turn c.loop-turn.names c.loop-turn.rest.now (parameters_from c.args.constants.now n [] c.args.tokens.now)
    (omega arith) c.unexpected.ensures c.loop-turn.invariant
