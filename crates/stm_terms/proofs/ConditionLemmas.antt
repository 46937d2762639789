-- Reading conditions one connective after the other, as a loop does.
use Rattle.std.proofs.Common.{◌≡◌, ℕ, zero, suc, ◌-◌, ◌+◌, ◌<◌, ◌≤◌, List, Some, None, Ok, Err, refl, sym, ap, ◌∙◌, arith}
use Rattle.stm_tokens.specs.declared.token.Token.{Token}
use Rattle.stm_program.specs.Syntax.{Condition, Not}
use Rattle.stm_terms.specs.declared.scope.Scope.{Scope}
use Rattle.stm_terms.specs.declared.conditions.ValueOrCondition.{ValueOrCondition}
use Rattle.stm_terms.specs.Cursor.{after_symbol}
use Rattle.stm_terms.specs.declared.faults.SourceError.{SourceError}
use Rattle.stm_terms.specs.declared.faults.SourceError.TheVariants.{OutOfMemory, Bad}
use Rattle.stm_terms.specs.Outcome.{Read, ReturnsFault}
use Rattle.stm_terms.specs.Conditions.{tier_symbol, tier_connective, connected_right, connection, connections_above, connections_by, connections_at, negated}
use Rattle.stm_terms.specs.Conditions.{condition_by, between, found_at, bracket_at, condition_bracket_at}

pub connections_none : (scope : Scope) (first part : List Token → Read ValueOrCondition) (tier : ℕ) (tokens : List Token) → tier ≡ 0
    → connections_by scope first part tier tokens ≡ first tokens
unfolding connections_by
connections_none scope first part tier tokens none = rw none refl

pub connections_some : (scope : Scope) (first part : List Token → Read ValueOrCondition) (tier : ℕ) (tokens : List Token) → 0 < tier
    → connections_by scope first part tier tokens
    ≡ connections_above scope (connections_by scope first part (tier - 1)) (connections_by scope part part (tier - 1)) (tier - 1) tokens
unfolding connections_by
connections_some scope first part tier tokens some =
    let e : tier ≡ suc (tier - 1) = omega arith in
    ap (λ (t : ℕ). connections_by scope first part t tokens) e

-- ---- the connectives of a chain, at turn i of n

pub connection_goes : (scope : Scope) (part : List Token → Read Condition) (tier n i : ℕ) (left right joined : Condition) (tokens behind rest : List Token)
    (total : Read Condition) → i < n → after_symbol (tier_symbol tier) tokens ≡ Some behind → part behind ≡ Ok (right, rest)
    → connected_right scope i (tier_connective tier) left right behind rest ≡ Ok joined
    → connection scope part tier (n - i) i left tokens ≡ total → connection scope part tier (n - (i + 1)) (i + 1) joined rest ≡ total
unfolding connection
connection_goes scope part tier n i left right joined tokens behind rest total less next is joins so_far =
    let k : n - i ≡ suc (n - (i + 1)) = omega arith in
    let one : connection scope part tier (n - i) i left tokens ≡ connection scope part tier (n - (i + 1)) (i + 1) joined rest = rw (k, next, is, joins) refl in
    sym one ∙ so_far

pub connection_ends : (scope : Scope) (part : List Token → Read Condition) (tier n i : ℕ) (left : Condition) (tokens : List Token) (total : Read Condition) → i < n
    → after_symbol (tier_symbol tier) tokens ≡ None → connection scope part tier (n - i) i left tokens ≡ total → total ≡ Ok (left, tokens)
unfolding connection
connection_ends scope part tier n i left tokens total less next so_far =
    let k : n - i ≡ suc (n - (i + 1)) = omega arith in
    let one : connection scope part tier (n - i) i left tokens ≡ Ok (left, tokens) = rw (k, next) refl in
    sym so_far ∙ one

pub connection_out : (scope : Scope) (part : List Token → Read Condition) (tier n i : ℕ) (left : Condition) (tokens : List Token) (total : Read Condition) → n ≤ i
    → connection scope part tier (n - i) i left tokens ≡ total → total ≡ Ok (left, tokens)
unfolding connection
connection_out scope part tier n i left tokens total over so_far =
    let k : n - i ≡ 0 = omega arith in
    let one : connection scope part tier (n - i) i left tokens ≡ Ok (left, tokens) = rw k refl in
    sym so_far ∙ one

-- what a condition's error is of the chain
pub connection_fails : (e : SourceError) (scope : Scope) (part : List Token → Read Condition) (tier n i : ℕ) (left : Condition) (tokens behind : List Token)
    (total : Read Condition) → i < n → after_symbol (tier_symbol tier) tokens ≡ Some behind → ReturnsFault e (part behind)
    → connection scope part tier (n - i) i left tokens ≡ total → ReturnsFault e total
unfolding connection
connection_fails OutOfMemory scope part tier n i left tokens behind total less next is so_far = tt
connection_fails (Bad f) scope part tier n i left tokens behind total less next is so_far =
    let k : n - i ≡ suc (n - (i + 1)) = omega arith in
    let one : connection scope part tier (n - i) i left tokens ≡ Err f = rw (k, next, is) refl in
    sym so_far ∙ one

-- what the error of joining it is of the chain
pub connection_refused : (e : SourceError) (scope : Scope) (part : List Token → Read Condition) (tier n i : ℕ) (left right : Condition)
    (tokens behind rest : List Token) (total : Read Condition) → i < n → after_symbol (tier_symbol tier) tokens ≡ Some behind → part behind ≡ Ok (right, rest)
    → ReturnsFault e (connected_right scope i (tier_connective tier) left right behind rest) → connection scope part tier (n - i) i left tokens ≡ total
    → ReturnsFault e total
unfolding connection
connection_refused OutOfMemory scope part tier n i left right tokens behind rest total less next is refused so_far = tt
connection_refused (Bad f) scope part tier n i left right tokens behind rest total less next is refused so_far =
    let k : n - i ≡ suc (n - (i + 1)) = omega arith in
    let one : connection scope part tier (n - i) i left tokens ≡ Err f = rw (k, next, is, refused) refl in
    sym so_far ∙ one

-- ---- one bracket less

pub found_is : (levels : ℕ) (scope : Scope) (tokens : List Token) → found_at levels scope tokens ≡ connections_at levels scope 2 tokens
unfolding found_at
found_is zero scope tokens = refl
found_is (suc levels) scope tokens = refl

pub bracket_some : (levels : ℕ) (scope : Scope) (tokens : List Token) → 0 < levels
    → bracket_at levels scope tokens ≡ between (found_at (levels - 1) scope) tokens
bracket_some levels scope tokens some =
    let e : levels ≡ suc (levels - 1) = omega arith in
    ap (λ (n : ℕ). bracket_at n scope tokens) e

pub condition_bracket_some : (levels : ℕ) (scope : Scope) (tokens : List Token) → 0 < levels
    → condition_bracket_at levels scope tokens ≡ between (condition_by (found_at (levels - 1) scope)) tokens
condition_bracket_some levels scope tokens some =
    let e : levels ≡ suc (levels - 1) = omega arith in
    ap (λ (n : ℕ). condition_bracket_at n scope tokens) e

-- ---- `!`

pub negated_more : (n i : ℕ) (c : Condition) → i < n → negated (n - i) c ≡ negated (n - (i + 1)) (Not c)
negated_more n i c less = let k : n - i ≡ suc (n - (i + 1)) = omega arith in rw k refl

pub negated_out : (n i : ℕ) (c : Condition) → n ≤ i → negated (n - i) c ≡ c
negated_out n i c over = let k : n - i ≡ 0 = omega arith in rw k refl
