-- Conditions: the condition that tokens spell, or the first fault.
use Rattle.std.specs.Prelude.{ℕ, zero, suc, ◌+◌, ◌-◌, ◌*◌, List, [], ◌∷◌, drop, length, Bool, ◌&&◌, not, Option, Some, None, Ok, Err, is_ok, nat_eq, nat_lt, if◌then◌else◌}
use Rattle.stm_tokens.specs.declared.token.Token.{Token}
use Rattle.stm_tokens.specs.declared.token.Symbol.{Symbol}
use Rattle.stm_tokens.specs.declared.token.Symbol.TheVariants as symbol
use Rattle.stm_tokens.specs.Same.{is_symbol}
use Rattle.stm_program.specs.Syntax.{Condition, Not, And, Or}
use Rattle.stm_program.specs.declared.limits.TheConstants.{MAX_NODES}
use Rattle.stm_terms.specs.declared.faults.SourceCause.TheVariants as cause
use Rattle.stm_terms.specs.declared.scope.Scope.{Scope}
use Rattle.stm_terms.specs.declared.kinds.Valued.{Valued}
use Rattle.stm_terms.specs.declared.comparisons.Comparison.{Comparison}
use Rattle.stm_terms.specs.declared.conditions.Tested.{Tested}
use Rattle.stm_terms.specs.declared.look_ups.FrontedPair.{FrontedPair}
use Rattle.stm_terms.specs.declared.conditions.ValueOrCondition.{ValueOrCondition}
use Rattle.stm_terms.specs.declared.conditions.ValueOrCondition.TheVariants as found
use Rattle.stm_terms.specs.declared.conditions.Connective.{Connective}
use Rattle.stm_terms.specs.declared.conditions.Connective.TheVariants as connective
use Rattle.stm_terms.specs.declared.limits.TheConstants.{MOST_JOINS}
use Rattle.stm_terms.specs.Outcome.{Outcome, Read, bad, ◌>>=◌}
use Rattle.stm_terms.specs.Comparisons.{compared, next_comparison}
use Rattle.stm_terms.specs.LookUps.{pair_with_front}
use Rattle.stm_terms.specs.Cursor.{place, unexpected, after_symbol, expect_symbol}
use Rattle.stm_terms.specs.Room.{condition_room}
use Rattle.stm_terms.specs.Scope.{without_else}
use Rattle.stm_terms.specs.Values.{operand_at, value_of, value_behind}

-- ---- what begins in a condition is a value or a condition, as it turns out

-- a condition is wanted, which begins at a byte
abbrev pub wanted : ℕ → ValueOrCondition → Outcome Tested
wanted at (found.Condition c) = Ok c
wanted at (found.Value e) = bad at cause.Sort

abbrev pub condition_by : (List Token → Read ValueOrCondition) → List Token → Read Tested
condition_by read tokens = read tokens >>= λ x. wanted (place tokens) x.0 >>= λ c. Ok (c, x.1)

-- a comparison; what is set in front of it stands in front of the statement that it is a condition of
abbrev pub test_of : Comparison → FrontedPair → Tested
test_of c x = record { front = x.front; condition = compared c x.left x.right }

-- behind a value: the left side of a comparison, if one follows
abbrev pub compared_with : ℕ → Scope → Valued → List Token → Option (Comparison × List Token) → Read ValueOrCondition
compared_with levels scope left rest None = Ok (found.Value left, rest)
compared_with levels scope left rest (Some p) =
    value_of levels scope left.kind p.1 >>= λ right.
    pair_with_front scope left right.0 >>= λ x. Ok (found.Condition (test_of p.0 x), right.1)

-- behind the first operand of a value, which begins at a byte
abbrev pub behind_operand : ℕ → Scope → ℕ → Valued → List Token → Read ValueOrCondition
behind_operand levels scope at first tokens =
    value_behind levels scope at first tokens >>= λ left. compared_with levels scope left.0 left.1 (next_comparison left.1)

-- behind a bracket, which begins at a byte: a condition ends there, a value may go on
abbrev pub behind_bracket : ℕ → Scope → ℕ → ValueOrCondition → List Token → Read ValueOrCondition
behind_bracket levels scope at (found.Condition c) tokens = Ok (found.Condition c, tokens)
behind_bracket levels scope at (found.Value x) tokens = behind_operand levels scope at x tokens

-- ---- `!`

-- how many `!` stand next
abbrev pub negations : List Token → ℕ
negations [] = 0
negations (t ∷ ts) = if is_symbol symbol.Not t.kind then suc (negations ts) else 0

-- with more of them than this a condition is too deep, whatever it is
abbrev pub negated : ℕ → Condition → Condition
negated zero c = c
negated (suc n) c = negated n (Not c)

abbrev pub kept : ℕ → ℕ
kept n = if nat_lt MOST_JOINS n then MOST_JOINS else n

abbrev pub with_condition : Tested → Condition → Tested
with_condition t c = record t { condition = c }

-- a condition in brackets behind so many `!`
abbrev pub negation_by : (List Token → Read Tested) → ℕ → List Token → Read ValueOrCondition
negation_by bracket n tokens = bracket (drop n tokens) >>= λ x. Ok (found.Condition (with_condition x.0 (negated (kept n) x.0.condition)), x.1)

-- ---- what has no connective: `!` and a bracket, a bracket, or a first operand

abbrev pub bracket_or_operand : (List Token → Read ValueOrCondition) → ℕ → Scope → List Token → Option (List Token) → Read ValueOrCondition
bracket_or_operand bracket levels scope tokens (Some inner) = bracket tokens >>= λ x. behind_bracket levels scope (place tokens) x.0 x.1
bracket_or_operand bracket levels scope tokens None = operand_at levels scope tokens >>= λ x. behind_operand levels scope (place tokens) x.0 x.1

-- with so many `!` before it
abbrev pub primary_by : (List Token → Read ValueOrCondition) → (List Token → Read Tested) → ℕ → Scope → ℕ → List Token → Read ValueOrCondition
primary_by bracket condition_bracket levels scope n tokens =
    if nat_lt 0 n then negation_by condition_bracket n tokens
    else bracket_or_operand bracket levels scope tokens (after_symbol symbol.LeftParenthesis tokens)

-- ---- connectives, `&&` of tier 1 and `||` of tier 2

abbrev pub part_by : (List Token → Read ValueOrCondition) → List Token → Read Condition
part_by read tokens = condition_by read tokens >>= λ x. Ok (x.0.condition, x.1)

abbrev pub connected : Connective → Condition → Condition → Condition
connected connective.And c d = And c d
connected connective.Or c d = Or c d

abbrev pub connected_up : ℕ → Connective → Condition → Condition → Condition
connected_up done j c d = if nat_lt done MOST_JOINS then connected j c d else c

abbrev pub tier_symbol : ℕ → Symbol
tier_symbol tier = if nat_eq tier 1 then symbol.And else symbol.Or

abbrev pub tier_connective : ℕ → Connective
tier_connective tier = if nat_eq tier 1 then connective.And else connective.Or

-- a program may have so many nodes
abbrev pub fits : Condition → Bool
fits c = is_ok (condition_room (MAX_NODES + 1) MAX_NODES c)

-- of these tokens up to the rest a condition was read that has more than twice as many nodes: definitions are copied in there
abbrev pub is_copied : List Token → List Token → Condition → Bool
is_copied tokens rest c = not (is_ok (condition_room (2 * length tokens + 1) (2 * (length tokens - length rest)) c))

-- what is copied in is refused at once, where it is not kept and where there are more nodes than a program has
abbrev pub may_connect : Scope → Bool → Bool → Condition → Outcome (Unit {0})
may_connect scope kept copied c = if copied && not (kept && fits c) then bad scope.program cause.TooManyNodes else Ok tt

-- a condition that was read of these tokens up to the rest, behind another one
abbrev pub connected_right : Scope → ℕ → Connective → Condition → Condition → List Token → List Token → Outcome Condition
connected_right scope done j left right tokens rest =
    may_connect scope (nat_lt done MOST_JOINS) (is_copied tokens rest right) (connected_up done j left right) >>= λ u. Ok (connected_up done j left right)

abbrev pub connected_with : (List Token → Read Condition) → (List Token → Condition × List Token → Read Condition) → Condition → List Token
    → Option (List Token) → Read Condition
connected_with part more left tokens None = Ok (left, tokens)
connected_with part more left tokens (Some behind) = part behind >>= λ x. more behind x

-- the connectives of a tier, from left to right, behind a condition, at most so many
unfoldable pub connection : Scope → (List Token → Read Condition) → ℕ → ℕ → ℕ → Condition → List Token → Read Condition
connection scope part tier zero done left tokens = Ok (left, tokens)
connection scope part tier (suc more) done left tokens =
    connected_with part
    (λ behind x. connected_right scope done (tier_connective tier) left x.0 behind x.1 >>= λ c. connection scope part tier more (done + 1) c x.1) left tokens
    (after_symbol (tier_symbol tier) tokens)

-- those of a tier, behind a condition
abbrev pub connections_behind : Scope → (List Token → Read ValueOrCondition) → ℕ → Tested → List Token → Read ValueOrCondition
connections_behind scope part tier t tokens =
    connection scope (part_by part) (tier + 1) (length tokens) 0 t.condition tokens >>= λ x. Ok (found.Condition (with_condition t x.0), x.1)

-- behind a part, which begins at a byte
abbrev pub joined_from : Scope → (List Token → Read ValueOrCondition) → ℕ → ℕ → ValueOrCondition → List Token → Option (List Token) → Read ValueOrCondition
joined_from scope part tier at left rest None = Ok (left, rest)
joined_from scope part tier at left rest (Some behind) =
    wanted at left >>= λ t. connections_behind scope part tier t rest

-- parts of the tier below, the first of which is read otherwise than those behind the connectives of this one
abbrev pub connections_above : Scope → (List Token → Read ValueOrCondition) → (List Token → Read ValueOrCondition) → ℕ → List Token → Read ValueOrCondition
connections_above scope first part tier tokens =
    first tokens >>= λ x. joined_from scope part tier (place tokens) x.0 x.1 (after_symbol (tier_symbol (tier + 1)) x.1)

unfoldable pub connections_by : Scope → (List Token → Read ValueOrCondition) → (List Token → Read ValueOrCondition) → ℕ → List Token → Read ValueOrCondition
connections_by scope first primary zero tokens = first tokens
connections_by scope first primary (suc tier) tokens =
    connections_above scope (connections_by scope first primary tier) (connections_by scope primary primary tier) tier tokens

-- ---- brackets

abbrev pub between : {A : Type 0} → (List Token → Read A) → List Token → Read A
between inside tokens =
    expect_symbol symbol.LeftParenthesis tokens >>= λ inner.
    inside inner >>= λ x.
    expect_symbol symbol.RightParenthesis x.1 >>= λ rest. Ok (x.0, rest)

abbrev pub no_bracket : {A : Type 0} → List Token → Read A
no_bracket tokens = Err (unexpected tokens)

-- a value or a condition, where so many brackets may still be opened
unfoldable pub found_at : ℕ → Scope → List Token → Read ValueOrCondition
found_at zero scope tokens =
    connections_by (without_else scope) (λ ts. primary_by no_bracket no_bracket zero scope (negations ts) ts)
    (λ ts. primary_by no_bracket no_bracket zero (without_else scope) (negations ts) ts) 2 tokens
found_at (suc levels) scope tokens =
    connections_by (without_else scope)
    (λ ts. primary_by (between (found_at levels scope)) (between (condition_by (found_at levels scope))) (suc levels) scope (negations ts) ts)
    (λ ts. primary_by (between (found_at levels (without_else scope))) (between (condition_by (found_at levels (without_else scope)))) (suc levels)
    (without_else scope) (negations ts) ts) 2 tokens

-- in brackets, of which so many may still be opened
abbrev pub bracket_at : ℕ → Scope → List Token → Read ValueOrCondition
bracket_at zero scope tokens = no_bracket tokens
bracket_at (suc levels) scope tokens = between (found_at levels scope) tokens

abbrev pub condition_bracket_at : ℕ → Scope → List Token → Read Tested
condition_bracket_at zero scope tokens = no_bracket tokens
condition_bracket_at (suc levels) scope tokens = between (condition_by (found_at levels scope)) tokens

abbrev pub primary_at : ℕ → Scope → List Token → Read ValueOrCondition
primary_at levels scope tokens = primary_by (bracket_at levels scope) (condition_bracket_at levels scope) levels scope (negations tokens) tokens

abbrev pub connections_at : ℕ → Scope → ℕ → List Token → Read ValueOrCondition
connections_at levels scope tier = connections_by (without_else scope) (primary_at levels scope) (primary_at levels (without_else scope)) tier

-- a condition
abbrev pub condition_at : ℕ → Scope → List Token → Read Tested
condition_at levels scope tokens = condition_by (found_at levels scope) tokens
