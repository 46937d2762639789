use Rattle.std.proofs.Common.{◌≡◌, ◌<◌, length, Some, None, arith, rules}
use Rattle.std.proofs.lemmas.Result.{err_from_is_err_and}
use Rattle.stm_tokens.specs.declared.token.Symbol.TheVariants.{Comma}
use Rattle.stm_terms.specs.Cursor.{after_symbol}
use Rattle.stm_source.specs.Events.{names_from}
use Rattle.stm_source.proofs.StepLemmas.{names_fault, names_more, names_last, names_over}
use Rattle.stm_source.proofs.starts.new_names.Goals as goal

pub returns-in_err-name : goal.returns-in_err-name
returns-in_err-name c =
    let p = err_from_is_err_and c.from_residual.result c.from_residual.ensures.1 in
    let n = length c.args.tokens.now in
    let less : c.loop-done.done < n = omega arith in
    rw (p.1, p.2) (names_fault c.in_err-name.field-0.0 n c.loop-done.done c.loop-done.names c.loop-done.rest.now
    (names_from n 0 c.args.names.now c.args.tokens.now) less c.in_err-name.ensures.is c.loop-done.invariant)

pub returns-in_default : goal.returns-in_default
returns-in_default c =
    let n = length c.args.tokens.now in
    let less : c.loop-done.done < n = omega arith in
    let ends : after_symbol Comma c.in_ok-name.behind.now ≡ None = search rules in
    rw c.in_ok-push.ensures (names_last n c.loop-done.done c.loop-done.names c.in_ok-name.name.now c.loop-done.rest.now
    c.in_ok-name.behind.now (names_from n 0 c.args.names.now c.args.tokens.now) less c.in_ok-name.ensures.is ends c.loop-done.invariant)

pub loop-done-preserved : goal.loop-done-preserved
loop-done-preserved c =
    let n = length c.args.tokens.now in
    let less : c.loop-done.done < n = omega arith in
    let follows : after_symbol Comma c.in_ok-name.behind.now ≡ Some c.in-Some.next.now = search rules in
    rw c.in_ok-push.ensures (names_more n c.loop-done.done c.loop-done.names c.in_ok-name.name.now c.loop-done.rest.now
    c.in_ok-name.behind.now c.in-Some.next.now (names_from n 0 c.args.names.now c.args.tokens.now) less c.in_ok-name.ensures.is follows
    c.loop-done.invariant)

pub returns : goal.returns
returns c =
    let n = length c.args.tokens.now in
    names_over c.unexpected.result n c.loop-done.done c.loop-done.names c.loop-done.rest.now
    (names_from n 0 c.args.names.now c.args.tokens.now) (omega arith) c.unexpected.ensures c.loop-done.invariant
