use Rattle.std.proofs.Common.{◌≡◌, ◌+◌, ◌-◌, ◌*◌, [], length}
use Rattle.stm_terms.specs.Values.{uses_from, chain, joined_right, tier_at}
use Rattle.stm_terms.proofs.values.+read_values.Given as goal

abbrev pub decreases-bracketed : goal.decreases-bracketed
decreases-bracketed l = 1000 * l.levels

abbrev pub decreases-uses : goal.decreases-uses
decreases-uses l = 1000 * l.levels

abbrev pub decreases-use_arguments : goal.decreases-use_arguments
decreases-use_arguments l = 1000 * l.levels + 1

abbrev pub decreases-used : goal.decreases-used
decreases-used l = 1000 * l.levels + 2

abbrev pub decreases-not_defined : goal.decreases-not_defined
decreases-not_defined l = 1000 * l.levels + 2

abbrev pub decreases-meant : goal.decreases-meant
decreases-meant l = 1000 * l.levels + 3

abbrev pub decreases-named_operand : goal.decreases-named_operand
decreases-named_operand l = 1000 * l.levels + 4

abbrev pub decreases-uses_between : goal.decreases-uses_between
decreases-uses_between l = 1000 * l.levels + 999

abbrev pub decreases-some_uses : goal.decreases-some_uses
decreases-some_uses l = 1000 * l.levels + 998

abbrev pub decreases-value_between : goal.decreases-value_between
decreases-value_between l = 1000 * l.levels + 999

abbrev pub decreases-operand_within : goal.decreases-operand_within
decreases-operand_within l = 1000 * l.levels + 1 + 7 * l.more

abbrev pub decreases-else_behind : goal.decreases-else_behind
decreases-else_behind l = 1000 * l.levels + 2 + 7 * l.more

abbrev pub decreases-get_look_ups : goal.decreases-get_look_ups
decreases-get_look_ups l = 1000 * l.levels + 3 + 7 * l.more

abbrev pub decreases-call_look_ups : goal.decreases-call_look_ups
decreases-call_look_ups l = 1000 * l.levels + 4 + 7 * l.more

abbrev pub decreases-computed : goal.decreases-computed
decreases-computed l = 1000 * l.levels + 5 + 7 * l.more

abbrev pub decreases-signed : goal.decreases-signed
decreases-signed l = 1000 * l.levels + 1

abbrev pub decreases-operand : goal.decreases-operand
decreases-operand l = 1000 * l.levels + 6 + 7 * l.more

abbrev pub decreases-joined_behind : goal.decreases-joined_behind
decreases-joined_behind l = 1000 * l.levels + 903 + 5 * l.tier

abbrev pub decreases-operands : goal.decreases-operands
decreases-operands l = 1000 * l.levels + 904 + 5 * l.tier

abbrev pub decreases-joined_right : goal.decreases-joined_right
decreases-joined_right l = 1000 * l.levels + 905 + 5 * l.tier

abbrev pub decreases-chain : goal.decreases-chain
decreases-chain l = 1000 * l.levels + 906 + 5 * l.tier

abbrev pub decreases-next_tier : goal.decreases-next_tier
decreases-next_tier l = 1000 * l.levels + 907 + 5 * l.tier

-- what is left of the chain leads to what all of it does
abbrev pub invariant-chain-loop-done : goal.invariant-chain-loop-done
invariant-chain-loop-done l =
    chain (joined_right l.fn.scope l.fn.at (tier_at l.fn.levels l.fn.scope l.fn.tier)) (l.fn.tier + 1) (length l.fn.tokens - l.done) l.done l.left l.rest
    ≡ chain (joined_right l.fn.scope l.fn.at (tier_at l.fn.levels l.fn.scope l.fn.tier)) (l.fn.tier + 1) (length l.fn.tokens) 0 l.fn.left l.fn.tokens

-- what is left leads to all
abbrev pub invariant-some_uses-loop-turn : goal.invariant-some_uses-loop-turn
invariant-some_uses-loop-turn l =
    uses_from l.fn.scope (tier_at l.fn.levels l.fn.scope 3) (length l.fn.tokens - l._turn) l.values l.rest
    ≡ uses_from l.fn.scope (tier_at l.fn.levels l.fn.scope 3) (length l.fn.tokens) [] l.fn.tokens
