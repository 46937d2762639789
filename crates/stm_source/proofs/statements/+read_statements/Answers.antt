use Rattle.std.proofs.Common.{◌≡◌, ◌<◌, ◌+◌, ◌-◌, suc, length, true, false, Some, None, arith, rules}
use Rattle.std.proofs.lemmas.Result.{err_from_is_err_and}
use Rattle.stm_tokens.specs.declared.token.Symbol.TheVariants.{RightBrace}
use Rattle.stm_terms.specs.Cursor.{after_symbol}
use Rattle.stm_source.proofs.BlockLemmas.{block_none, block_some, choice_none, choice_some, closes, faults, goes_on, is_behind, runs_out}
use Rattle.stm_source.specs.Leaving.{is_left}
use Rattle.stm_source.specs.Statements.{block_at, statement_by, statements_at}
use Rattle.stm_source.proofs.statements.+read_statements.Goals as goal

pub block-returns-then-levels-eq0 : goal.block-returns-then-levels-eq0
block-returns-then-levels-eq0 t c = block_none _ _ _ _ _ c.if-levels-eq0.true c.unexpected.ensures

pub block-returns : goal.block-returns
block-returns t c =
    let some : 0 < c.args.levels = omega arith in
    rw (block_some c.args.levels c.args.around c.args.scope.now c.args.tokens.now some) c.block_between.ensures

pub choice-returns-then-more-eq0 : goal.choice-returns-then-more-eq0
choice-returns-then-more-eq0 t c = choice_none _ _ _ _ _ _ _ c.if-more-eq0.true c.fault.ensures

pub choice-returns : goal.choice-returns
choice-returns t c =
    let some : 0 < c.args.more = omega arith in
    rw (choice_some c.args.around (block_at c.args.levels c.args.around) c.args.levels c.args.more c.args.scope.now c.args.tokens.now some) c.choice_between.ensures

-- ---- the statements of a block

pub statements-returns-in-Some : goal.statements-returns-in-Some
statements-returns-in-Some t c =
    let n = length c.args.tokens.now in
    let some : n - c.loop-turn._turn ≡ suc (n - (c.loop-turn._turn + 1)) = omega arith in
    let closed : after_symbol RightBrace c.loop-turn.rest.now ≡ Some c.in-Some.behind.now = search rules in
    closes c.args.around (statement_by (block_at c.args.levels) c.args.levels c.args.around) c.loop-turn.parts.items c.loop-turn.ending (n - c.loop-turn._turn)
    (n - (c.loop-turn._turn + 1)) c.loop-turn.scope c.loop-turn.rest.now c.in-Some.behind.now (statements_at c.args.levels c.args.around c.args.outer.now c.args.tokens.now)
    some closed c.loop-turn.invariant

pub statements-returns-then-is_left : goal.statements-returns-then-is_left
statements-returns-then-is_left t c =
    let n = length c.args.tokens.now in
    let some : n - c.loop-turn._turn ≡ suc (n - (c.loop-turn._turn + 1)) = omega arith in
    let unclosed : after_symbol RightBrace c.loop-turn.rest.now ≡ None = search rules in
    let left : is_left c.loop-turn.ending ≡ true = search rules in
    rw c.unexpected.ensures (is_behind c.args.around (statement_by (block_at c.args.levels) c.args.levels c.args.around) c.loop-turn.parts.items c.loop-turn.ending
    (n - c.loop-turn._turn) (n - (c.loop-turn._turn + 1)) c.loop-turn.scope c.loop-turn.rest.now
    (statements_at c.args.levels c.args.around c.args.outer.now c.args.tokens.now) some unclosed left c.loop-turn.invariant)

pub statements-returns-in_err-statement : goal.statements-returns-in_err-statement
statements-returns-in_err-statement t c =
    let p = err_from_is_err_and c.from_residual-in_err-statement.result c.from_residual-in_err-statement.ensures.1 in
    let n = length c.args.tokens.now in
    let some : n - c.loop-turn._turn ≡ suc (n - (c.loop-turn._turn + 1)) = omega arith in
    let unclosed : after_symbol RightBrace c.loop-turn.rest.now ≡ None = search rules in
    let comes : is_left c.loop-turn.ending ≡ false = search rules in
    rw (p.1, p.2) (faults c.in_err-statement.field-0.0 c.args.around (statement_by (block_at c.args.levels) c.args.levels c.args.around) c.loop-turn.parts.items
    c.loop-turn.ending (n - c.loop-turn._turn) (n - (c.loop-turn._turn + 1)) c.loop-turn.scope c.loop-turn.rest.now
    (statements_at c.args.levels c.args.around c.args.outer.now c.args.tokens.now) some unclosed comes c.in_err-statement.ensures c.loop-turn.invariant)

pub statements-loop-turn-preserved : goal.statements-loop-turn-preserved
statements-loop-turn-preserved t c =
    let n = length c.args.tokens.now in
    let some : n - c.loop-turn._turn ≡ suc (n - (c.loop-turn._turn + 1)) = omega arith in
    let unclosed : after_symbol RightBrace c.loop-turn.rest.now ≡ None = search rules in
    let comes : is_left c.loop-turn.ending ≡ false = search rules in
    rw (c.in_ok-push_up.ensures, c.in_ok-more.ensures.same, c.in_ok-more.ensures.left, c.skip_semicolon-rest.ensures) (goes_on c.args.around (statement_by (block_at c.args.levels) c.args.levels c.args.around) c.loop-turn.parts.items
    c.loop-turn.ending c.in_ok-statement.next (n - c.loop-turn._turn) (n - (c.loop-turn._turn + 1)) c.loop-turn.scope c.statement.new.scope c.loop-turn.rest.now
    c.in_ok-statement.behind.now c.in_ok-statement.statement (statements_at c.args.levels c.args.around c.args.outer.now c.args.tokens.now) some unclosed comes
    c.in_ok-statement.ensures c.loop-turn.invariant)

pub statements-returns : goal.statements-returns
statements-returns t c =
    let n = length c.args.tokens.now in
    let none : n - c.loop-turn._turn ≡ 0 = omega arith in
    rw c.unexpected-2.ensures (runs_out c.args.around (statement_by (block_at c.args.levels) c.args.levels c.args.around) c.loop-turn.parts.items c.loop-turn.ending
    (n - c.loop-turn._turn) c.loop-turn.scope c.loop-turn.rest.now (statements_at c.args.levels c.args.around c.args.outer.now c.args.tokens.now) none c.loop-turn.invariant)
