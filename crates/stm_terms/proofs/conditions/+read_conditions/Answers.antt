use Rattle.std.proofs.Common.{◌≡◌, ◌+◌, ◌<◌, length, Some, None, sym, arith, rules}
use Rattle.std.proofs.lemmas.Result.{err_from_is_err_and}
use Rattle.stm_terms.proofs.ConditionLemmas.{connections_none, connections_some, connection_goes, connection_ends, connection_out, connection_fails, connection_refused}
use Rattle.stm_terms.proofs.ConditionLemmas.{found_is, bracket_some, condition_bracket_some}
use Rattle.stm_terms.specs.Cursor.{after_symbol}
use Rattle.stm_terms.specs.Scope.{without_else}
use Rattle.stm_terms.specs.Conditions.{primary_at, part_by, connection, connections_at, tier_symbol}
use Rattle.stm_terms.proofs.conditions.+read_conditions.Goals as goal

pub connections-returns-then-tier-eq0 : goal.connections-returns-then-tier-eq0
connections-returns-then-tier-eq0 t c =
    rw (connections_none (without_else c.args.scope.now) (primary_at c.args.levels c.args.scope.now) (primary_at c.args.levels (without_else c.args.scope.now)) c.args.tier c.args.tokens.now
    c.if-tier-eq0.true) c.primary.ensures

pub connections-returns : goal.connections-returns
connections-returns t c =
    let some : 0 < c.args.tier = omega arith in
    rw (connections_some (without_else c.args.scope.now) (primary_at c.args.levels c.args.scope.now) (primary_at c.args.levels (without_else c.args.scope.now)) c.args.tier c.args.tokens.now some)
    c.next_connections.ensures

pub found-returns : goal.found-returns
found-returns t c = rw (found_is c.args.levels c.args.scope.now c.args.tokens.now) c.connections.ensures

pub bracket-returns : goal.bracket-returns
bracket-returns t c =
    let some : 0 < c.args.levels = omega arith in
    rw (bracket_some c.args.levels c.args.scope.now c.args.tokens.now some) c.between.ensures

pub condition_bracket-returns : goal.condition_bracket-returns
condition_bracket-returns t c =
    let some : 0 < c.args.levels = omega arith in
    rw (condition_bracket_some c.args.levels c.args.scope.now c.args.tokens.now some) c.condition_between.ensures

pub connection-returns-in_default : goal.connection-returns-in_default
connection-returns-in_default t c =
    let less : c.loop-done.done < length c.args.tokens.now = omega arith in
    let none : after_symbol (tier_symbol (c.args.tier + 1)) c.loop-done.rest.now ≡ None = search rules in
    connection_ends c.args.scope.now (part_by (connections_at c.args.levels c.args.scope.now c.args.tier)) (c.args.tier + 1) (length c.args.tokens.now)
    c.loop-done.done c.loop-done.left c.loop-done.rest.now _ less none c.loop-done.invariant

pub connection-returns-in_err-right : goal.connection-returns-in_err-right
connection-returns-in_err-right t c =
    let p = err_from_is_err_and c.from_residual.result c.from_residual.ensures.1 in
    let scope = c.args.scope.now in
    let part = part_by (connections_at c.args.levels scope c.args.tier) in
    let n = length c.args.tokens.now in
    let less : c.loop-done.done < n = omega arith in
    let next : after_symbol (tier_symbol (c.args.tier + 1)) c.loop-done.rest.now ≡ Some c.in-Some.behind.now = search rules in
    rw (p.1, p.2) (connection_fails c.in_err-right.field-0.0 scope part (c.args.tier + 1) n c.loop-done.done c.loop-done.left c.loop-done.rest.now
    c.in-Some.behind.now (connection scope part (c.args.tier + 1) n 0 c.args.left c.args.tokens.now) less next c.in_err-right.ensures c.loop-done.invariant)

pub connection-returns-in_err-left : goal.connection-returns-in_err-left
connection-returns-in_err-left t c =
    let p = err_from_is_err_and c.from_residual-in_err-left.result c.from_residual-in_err-left.ensures.1 in
    let scope = c.args.scope.now in
    let part = part_by (connections_at c.args.levels scope c.args.tier) in
    let n = length c.args.tokens.now in
    let less : c.loop-done.done < n = omega arith in
    let next : after_symbol (tier_symbol (c.args.tier + 1)) c.loop-done.rest.now ≡ Some c.in-Some.behind.now = search rules in
    rw (p.1, p.2) (connection_refused c.in_err-left.field-0.0 scope part (c.args.tier + 1) n c.loop-done.done c.loop-done.left c.in_ok-right.right
    c.loop-done.rest.now c.in-Some.behind.now c.in_ok-right.next.now (connection scope part (c.args.tier + 1) n 0 c.args.left c.args.tokens.now) less next
    c.in_ok-right.ensures (rw (sym c.tier_connective-connective.ensures) c.in_err-left.ensures) c.loop-done.invariant)

pub connection-loop-done-preserved : goal.connection-loop-done-preserved
connection-loop-done-preserved t c =
    let scope = c.args.scope.now in
    let part = part_by (connections_at c.args.levels scope c.args.tier) in
    let n = length c.args.tokens.now in
    let less : c.loop-done.done < n = omega arith in
    let next : after_symbol (tier_symbol (c.args.tier + 1)) c.loop-done.rest.now ≡ Some c.in-Some.behind.now = search rules in
    connection_goes scope part (c.args.tier + 1) n c.loop-done.done c.loop-done.left c.in_ok-right.right c.in_ok-left.left c.loop-done.rest.now
    c.in-Some.behind.now c.in_ok-right.next.now (connection scope part (c.args.tier + 1) n 0 c.args.left c.args.tokens.now) less next
    c.in_ok-right.ensures (rw (sym c.tier_connective-connective.ensures) c.in_ok-left.ensures) c.loop-done.invariant

pub connection-returns : goal.connection-returns
connection-returns t c =
    connection_out c.args.scope.now (part_by (connections_at c.args.levels c.args.scope.now c.args.tier)) (c.args.tier + 1) (length c.args.tokens.now)
    c.loop-done.done c.loop-done.left c.loop-done.rest.now _ (omega arith) c.loop-done.invariant
