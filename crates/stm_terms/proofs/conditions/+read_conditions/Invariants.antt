use Rattle.std.proofs.Common.{◌≡◌, ◌+◌, ◌-◌, ◌*◌, length}
use Rattle.stm_terms.specs.Conditions.{part_by, connection, connections_at}
use Rattle.stm_terms.proofs.conditions.+read_conditions.Given as goal

abbrev pub decreases-bracket : goal.decreases-bracket
decreases-bracket l = 20 * l.levels

abbrev pub decreases-condition_bracket : goal.decreases-condition_bracket
decreases-condition_bracket l = 20 * l.levels

abbrev pub decreases-negation : goal.decreases-negation
decreases-negation l = 20 * l.levels + 1

abbrev pub decreases-bracket_or_operand : goal.decreases-bracket_or_operand
decreases-bracket_or_operand l = 20 * l.levels + 1

abbrev pub decreases-primary : goal.decreases-primary
decreases-primary l = 20 * l.levels + 2

abbrev pub decreases-connections : goal.decreases-connections
decreases-connections l = 20 * l.levels + 3 + 6 * l.tier

abbrev pub decreases-part : goal.decreases-part
decreases-part l = 20 * l.levels + 4 + 6 * l.tier

abbrev pub decreases-connection : goal.decreases-connection
decreases-connection l = 20 * l.levels + 5 + 6 * l.tier

abbrev pub decreases-connected : goal.decreases-connected
decreases-connected l = 20 * l.levels + 6 + 6 * l.tier

abbrev pub decreases-joined_from : goal.decreases-joined_from
decreases-joined_from l = 20 * l.levels + 7 + 6 * l.tier

abbrev pub decreases-next_connections : goal.decreases-next_connections
decreases-next_connections l = 20 * l.levels + 8 + 6 * l.tier

abbrev pub decreases-found : goal.decreases-found
decreases-found l = 20 * l.levels + 17

abbrev pub decreases-found_condition : goal.decreases-found_condition
decreases-found_condition l = 20 * l.levels + 18

abbrev pub decreases-between : goal.decreases-between
decreases-between l = 20 * l.levels + 19

abbrev pub decreases-condition_between : goal.decreases-condition_between
decreases-condition_between l = 20 * l.levels + 19

-- what is left of the chain leads to what all of it does
abbrev pub invariant-connection-loop-done : goal.invariant-connection-loop-done
invariant-connection-loop-done l =
    connection l.fn.scope (part_by (connections_at l.fn.levels l.fn.scope l.fn.tier)) (l.fn.tier + 1) (length l.fn.tokens - l.done) l.done l.left l.rest
    ≡ connection l.fn.scope (part_by (connections_at l.fn.levels l.fn.scope l.fn.tier)) (l.fn.tier + 1) (length l.fn.tokens) 0 l.fn.left l.fn.tokens
