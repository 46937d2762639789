use Rattle.std.proofs.Common.{◌≡◌, ◌<◌, [], length, Some, None, arith, rules}
use Rattle.std.proofs.lemmas.Result.{err_from_is_err_and}
use Rattle.stm_tokens.specs.declared.token.Symbol.TheVariants.{Comma}
use Rattle.stm_terms.specs.declared.kinds.Kind.TheVariants.{Either}
use Rattle.stm_terms.specs.Cursor.{after_symbol}
use Rattle.stm_terms.specs.Items.{items_as, items_from}
use Rattle.stm_terms.proofs.ItemLemmas.{items_fault, items_more, items_last, items_over}
use Rattle.stm_terms.proofs.items.list_of_items.Goals as goal

pub returns-in_err-found : goal.returns-in_err-found
returns-in_err-found c =
    let p = err_from_is_err_and c.from_residual.result c.from_residual.ensures.1 in
    let n = length c.args.tokens.now in
    let less : c.loop-turn._turn < n = omega arith in
    rw (p.1, p.2) (items_fault c.in_err-found.field-0.0 c.args.scope.now c.args.lists n c.loop-turn._turn c.loop-turn.before c.loop-turn.rest.now
    (items_from c.args.scope.now c.args.lists n (items_as [] Either) c.args.tokens.now) less c.in_err-found.ensures c.loop-turn.invariant)

pub returns-in_default : goal.returns-in_default
returns-in_default c =
    let n = length c.args.tokens.now in
    let less : c.loop-turn._turn < n = omega arith in
    let ends : after_symbol Comma c.in_ok-found.behind.now ≡ None = search rules in
    items_last c.args.scope.now c.args.lists n c.loop-turn._turn c.loop-turn.before c.in_ok-found.found c.loop-turn.rest.now
    c.in_ok-found.behind.now (items_from c.args.scope.now c.args.lists n (items_as [] Either) c.args.tokens.now) less c.in_ok-found.ensures ends
    c.loop-turn.invariant

pub loop-turn-preserved : goal.loop-turn-preserved
loop-turn-preserved c =
    let n = length c.args.tokens.now in
    let less : c.loop-turn._turn < n = omega arith in
    let follows : after_symbol Comma c.in_ok-found.behind.now ≡ Some c.in-Some.next.now = search rules in
    items_more c.args.scope.now c.args.lists n c.loop-turn._turn c.loop-turn.before c.in_ok-found.found c.loop-turn.rest.now
    c.in_ok-found.behind.now c.in-Some.next.now (items_from c.args.scope.now c.args.lists n (items_as [] Either) c.args.tokens.now) less
    c.in_ok-found.ensures follows c.loop-turn.invariant

pub returns : goal.returns
returns c =
    let n = length c.args.tokens.now in
    items_over c.unexpected.result c.args.scope.now c.args.lists n c.loop-turn._turn c.loop-turn.before c.loop-turn.rest.now
    (items_from c.args.scope.now c.args.lists n (items_as [] Either) c.args.tokens.now) (omega arith) c.unexpected.ensures c.loop-turn.invariant
