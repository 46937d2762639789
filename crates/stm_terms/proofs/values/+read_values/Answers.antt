use Rattle.std.proofs.Common.{◌≡◌, ◌+◌, ◌<◌, [], length, Some, None, sym, arith, rules}
use Rattle.std.proofs.lemmas.Result.{err_from_is_err_and}
use Rattle.stm_terms.proofs.ValueLemmas.{behind_none, behind_some, chain_goes, chain_ends, chain_out, chain_fails, bracketed_none, bracketed_some, within_none, within_some, uses_none, uses_some, uses_fault, uses_refused, uses_more, uses_last, uses_unclosed, uses_over}
use Rattle.stm_tokens.specs.declared.token.Symbol.TheVariants.{Comma}
use Rattle.stm_terms.specs.Cursor.{after_symbol}
use Rattle.stm_terms.specs.Values.{bracketed_at, uses_at, uses_from, operand_at, tier_at, joined_right, chain, next_join}
use Rattle.stm_terms.proofs.values.+read_values.Goals as goal

pub joined_behind-returns-then-tier-eq0 : goal.joined_behind-returns-then-tier-eq0
joined_behind-returns-then-tier-eq0 t c =
    behind_none (operand_at c.args.levels c.args.scope.now) c.args.scope.now c.args.tier c.args.at c.args.first c.args.tokens.now c.if-tier-eq0.true

pub joined_behind-returns : goal.joined_behind-returns
joined_behind-returns t c =
    let some : 0 < c.args.tier = omega arith in
    rw (behind_some (operand_at c.args.levels c.args.scope.now) c.args.scope.now c.args.tier c.args.at c.args.first c.args.tokens.now some)
    c.next_tier.ensures

pub operand_within-returns-then-more-eq0 : goal.operand_within-returns-then-more-eq0
operand_within-returns-then-more-eq0 t c = within_none _ _ _ _ _ _ _ c.if-more-eq0.true c.fault.ensures

pub operand_within-returns : goal.operand_within-returns
operand_within-returns t c =
    let some : 0 < c.args.more = omega arith in
    rw (within_some c.args.levels (bracketed_at c.args.levels c.args.scope.now) (uses_at c.args.levels c.args.scope.now) c.args.scope.now c.args.more c.args.tokens.now some) c.operand.ensures

pub bracketed-returns-then-levels-eq0 : goal.bracketed-returns-then-levels-eq0
bracketed-returns-then-levels-eq0 t c = bracketed_none _ _ _ _ _ c.if-levels-eq0.true c.unexpected.ensures

pub bracketed-returns : goal.bracketed-returns
bracketed-returns t c =
    let some : 0 < c.args.levels = omega arith in
    rw (bracketed_some c.args.levels c.args.scope.now c.args.wanted c.args.tokens.now some) c.value_between.ensures

pub chain-returns-in_default : goal.chain-returns-in_default
chain-returns-in_default t c =
    let right = joined_right c.args.scope.now c.args.at (tier_at c.args.levels c.args.scope.now c.args.tier) in
    let less : c.loop-done.done < length c.args.tokens.now = omega arith in
    let none : next_join (c.args.tier + 1) c.loop-done.rest.now ≡ None = search rules in
    chain_ends right (c.args.tier + 1) (length c.args.tokens.now) c.loop-done.done c.loop-done.left
    c.loop-done.rest.now _ less none c.loop-done.invariant

pub chain-returns-in_err-joined : goal.chain-returns-in_err-joined
chain-returns-in_err-joined t c =
    let p = err_from_is_err_and c.from_residual.result c.from_residual.ensures.1 in
    let right = joined_right c.args.scope.now c.args.at (tier_at c.args.levels c.args.scope.now c.args.tier) in
    let n = length c.args.tokens.now in
    let less : c.loop-done.done < n = omega arith in
    rw (p.1, p.2) (chain_fails c.in_err-joined.field-0.0 right (c.args.tier + 1) n c.loop-done.done c.loop-done.left c.in-Some.join c.loop-done.rest.now
    c.in-Some.behind.now (chain right (c.args.tier + 1) n 0 c.args.left c.args.tokens.now) less (sym c.in-Some.ensures) c.in_err-joined.ensures
    c.loop-done.invariant)

pub chain-loop-done-preserved : goal.chain-loop-done-preserved
chain-loop-done-preserved t c =
    let right = joined_right c.args.scope.now c.args.at (tier_at c.args.levels c.args.scope.now c.args.tier) in
    let n = length c.args.tokens.now in
    let less : c.loop-done.done < n = omega arith in
    chain_goes right (c.args.tier + 1) n c.loop-done.done c.loop-done.left c.in_ok-joined.joined c.in-Some.join c.loop-done.rest.now
    c.in-Some.behind.now c.in_ok-joined.behind.now (chain right (c.args.tier + 1) n 0 c.args.left c.args.tokens.now) less (sym c.in-Some.ensures)
    c.in_ok-joined.ensures c.loop-done.invariant

pub chain-returns : goal.chain-returns
chain-returns t c =
    chain_out (joined_right c.args.scope.now c.args.at (tier_at c.args.levels c.args.scope.now c.args.tier)) (c.args.tier + 1)
    (length c.args.tokens.now) c.loop-done.done c.loop-done.left c.loop-done.rest.now _ (omega arith) c.loop-done.invariant

-- ---- values in brackets

pub uses-returns-then-levels-eq0 : goal.uses-returns-then-levels-eq0
uses-returns-then-levels-eq0 t c = uses_none _ _ _ _ c.if-levels-eq0.true c.unexpected.ensures

pub uses-returns : goal.uses-returns
uses-returns t c =
    let some : 0 < c.args.levels = omega arith in
    rw (uses_some c.args.levels c.args.scope.now c.args.tokens.now some) c.uses_between.ensures

pub some_uses-returns-in_err-value : goal.some_uses-returns-in_err-value
some_uses-returns-in_err-value t c =
    let p = err_from_is_err_and c.from_residual.result c.from_residual.ensures.1 in
    let n = length c.args.tokens.now in
    let value = tier_at c.args.levels c.args.scope.now 3 in
    let less : c.loop-turn._turn < n = omega arith in
    rw (p.1, p.2) (uses_fault c.in_err-value.field-0.0 c.args.scope.now value n c.loop-turn._turn c.loop-turn.values c.loop-turn.rest.now
    (uses_from c.args.scope.now value n [] c.args.tokens.now) less c.in_err-value.ensures c.loop-turn.invariant)

pub some_uses-returns-in_err-add_argument : goal.some_uses-returns-in_err-add_argument
some_uses-returns-in_err-add_argument t c =
    let p = err_from_is_err_and c.from_residual-in_err-add_argument.result c.from_residual-in_err-add_argument.ensures.1 in
    let n = length c.args.tokens.now in
    let value = tier_at c.args.levels c.args.scope.now 3 in
    let less : c.loop-turn._turn < n = omega arith in
    rw (p.1, p.2) (uses_refused c.in_err-add_argument.field-0.0 c.args.scope.now value n c.loop-turn._turn c.loop-turn.values c.in_ok-value.value
    c.loop-turn.rest.now c.in_ok-value.behind.now (uses_from c.args.scope.now value n [] c.args.tokens.now) less c.in_ok-value.ensures
    c.in_err-add_argument.ensures c.loop-turn.invariant)

pub some_uses-returns-in_err-rest : goal.some_uses-returns-in_err-rest
some_uses-returns-in_err-rest t c =
    let p = err_from_is_err_and c.from_residual-in_err-rest.result c.from_residual-in_err-rest.ensures.1 in
    let n = length c.args.tokens.now in
    let value = tier_at c.args.levels c.args.scope.now 3 in
    let less : c.loop-turn._turn < n = omega arith in
    let ends : after_symbol Comma c.in_ok-value.behind.now ≡ None = search rules in
    rw (p.1, p.2) (uses_unclosed c.in_err-rest.field-0.0 c.args.scope.now value n c.loop-turn._turn c.loop-turn.values _ c.in_ok-value.value
    c.loop-turn.rest.now c.in_ok-value.behind.now (uses_from c.args.scope.now value n [] c.args.tokens.now) less c.in_ok-value.ensures
    c.in_ok-add_argument.ensures ends c.in_err-rest.ensures c.loop-turn.invariant)

pub some_uses-returns-in_default : goal.some_uses-returns-in_default
some_uses-returns-in_default t c =
    let n = length c.args.tokens.now in
    let value = tier_at c.args.levels c.args.scope.now 3 in
    let less : c.loop-turn._turn < n = omega arith in
    let ends : after_symbol Comma c.in_ok-value.behind.now ≡ None = search rules in
    uses_last c.args.scope.now value n c.loop-turn._turn c.loop-turn.values _ c.in_ok-value.value c.loop-turn.rest.now
    c.in_ok-value.behind.now c.in_ok-rest.rest.now (uses_from c.args.scope.now value n [] c.args.tokens.now) less c.in_ok-value.ensures
    c.in_ok-add_argument.ensures ends c.in_ok-rest.ensures c.loop-turn.invariant

pub some_uses-loop-turn-preserved : goal.some_uses-loop-turn-preserved
some_uses-loop-turn-preserved t c =
    let n = length c.args.tokens.now in
    let value = tier_at c.args.levels c.args.scope.now 3 in
    let less : c.loop-turn._turn < n = omega arith in
    let follows : after_symbol Comma c.in_ok-value.behind.now ≡ Some c.in-Some.next.now = search rules in
    uses_more c.args.scope.now value n c.loop-turn._turn c.loop-turn.values _ c.in_ok-value.value c.loop-turn.rest.now
    c.in_ok-value.behind.now c.in-Some.next.now (uses_from c.args.scope.now value n [] c.args.tokens.now) less c.in_ok-value.ensures
    c.in_ok-add_argument.ensures follows c.loop-turn.invariant

pub some_uses-returns : goal.some_uses-returns
some_uses-returns t c =
    let n = length c.args.tokens.now in
    let value = tier_at c.args.levels c.args.scope.now 3 in
    uses_over c.unexpected.result c.args.scope.now value n c.loop-turn._turn c.loop-turn.values c.loop-turn.rest.now
    (uses_from c.args.scope.now value n [] c.args.tokens.now) (omega arith) c.unexpected.ensures c.loop-turn.invariant
