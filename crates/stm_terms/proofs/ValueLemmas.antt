-- Reading values one operator after the other, as a loop does.
use Rattle.std.proofs.Common.{◌≡◌, ℕ, suc, ◌-◌, ◌+◌, ◌<◌, ◌≤◌, List, Some, None, Ok, Err, refl, sym, ap, ◌∙◌, arith}
use Rattle.stm_tokens.specs.declared.token.Token.{Token}
use Rattle.stm_terms.specs.declared.scope.Scope.{Scope}
use Rattle.stm_terms.specs.declared.kinds.Kind.{Kind}
use Rattle.stm_terms.specs.declared.kinds.Valued.{Valued}
use Rattle.stm_terms.specs.declared.operators.Join.{Join}
use Rattle.stm_terms.specs.declared.faults.SourceCause.TheVariants.{TooDeep}
use Rattle.stm_tokens.specs.declared.token.Symbol.TheVariants.{Comma, RightParenthesis}
use Rattle.stm_terms.specs.Cursor.{unexpected, after_symbol, expect_symbol}
use Rattle.stm_terms.specs.declared.faults.SourceError.{SourceError}
use Rattle.stm_terms.specs.declared.faults.SourceError.TheVariants.{OutOfMemory, Bad}
use Rattle.stm_terms.specs.Outcome.{Read, ReturnsFault}
use Rattle.stm_terms.specs.Uses.{with_argument_added}
use Rattle.stm_terms.specs.Values.{Right, next_join, chain, behind_by, tier_behind, operand_by, operand_within, value_by, bracketed_by, bracketed_at, Bracketed, Uses, uses_by, uses_at, uses_from}

pub behind_none : (operand : List Token → Read Valued) (scope : Scope) (tier at : ℕ) (first : Valued) (tokens : List Token) → tier ≡ 0
    → behind_by operand scope tier at first tokens ≡ Ok (first, tokens)
unfolding behind_by
behind_none operand scope tier at first tokens none = rw none refl

pub behind_some : (operand : List Token → Read Valued) (scope : Scope) (tier at : ℕ) (first : Valued) (tokens : List Token) → 0 < tier
    → behind_by operand scope tier at first tokens ≡ tier_behind operand scope (tier - 1) at first tokens
unfolding behind_by
behind_some operand scope tier at first tokens some =
    let e : tier ≡ suc (tier - 1) = omega arith in
    ap (λ (t : ℕ). behind_by operand scope t at first tokens) e

-- ---- the operators of a chain, at turn i of n

pub chain_goes : (right : Right) (tier n i : ℕ) (left joined : Valued) (join : Join) (tokens behind rest : List Token)
    (total : Read Valued) → i < n → next_join tier tokens ≡ Some (join, behind) → right i join left behind ≡ Ok (joined, rest)
    → chain right tier (n - i) i left tokens ≡ total → chain right tier (n - (i + 1)) (i + 1) joined rest ≡ total
unfolding chain
chain_goes right tier n i left joined join tokens behind rest total less next is so_far =
    let k : n - i ≡ suc (n - (i + 1)) = omega arith in
    let one : chain right tier (n - i) i left tokens ≡ chain right tier (n - (i + 1)) (i + 1) joined rest = rw (k, next, is) refl in
    sym one ∙ so_far

pub chain_ends : (right : Right) (tier n i : ℕ) (left : Valued) (tokens : List Token) (total : Read Valued) → i < n
    → next_join tier tokens ≡ None → chain right tier (n - i) i left tokens ≡ total → total ≡ Ok (left, tokens)
unfolding chain
chain_ends right tier n i left tokens total less next so_far =
    let k : n - i ≡ suc (n - (i + 1)) = omega arith in
    let one : chain right tier (n - i) i left tokens ≡ Ok (left, tokens) = rw (k, next) refl in
    sym so_far ∙ one

pub chain_out : (right : Right) (tier n i : ℕ) (left : Valued) (tokens : List Token) (total : Read Valued) → n ≤ i
    → chain right tier (n - i) i left tokens ≡ total → total ≡ Ok (left, tokens)
unfolding chain
chain_out right tier n i left tokens total over so_far =
    let k : n - i ≡ 0 = omega arith in
    let one : chain right tier (n - i) i left tokens ≡ Ok (left, tokens) = rw k refl in
    sym so_far ∙ one

-- what the error of a right side is of the chain
pub chain_fails : (e : SourceError) (right : Right) (tier n i : ℕ) (left : Valued) (join : Join)
    (tokens behind : List Token) (total : Read Valued) → i < n → next_join tier tokens ≡ Some (join, behind) → ReturnsFault e (right i join left behind)
    → chain right tier (n - i) i left tokens ≡ total → ReturnsFault e total
unfolding chain
chain_fails OutOfMemory right tier n i left join tokens behind total less next is so_far = tt
chain_fails (Bad f) right tier n i left join tokens behind total less next is so_far =
    let k : n - i ≡ suc (n - (i + 1)) = omega arith in
    let one : chain right tier (n - i) i left tokens ≡ Err f = rw (k, next, is) refl in
    sym so_far ∙ one

-- ---- one bracket less

pub bracketed_none : (levels : ℕ) (scope : Scope) (wanted : Kind) (tokens : List Token) (e : SourceError) → levels ≡ 0 → e ≡ Bad (unexpected tokens)
    → ReturnsFault e (bracketed_at levels scope wanted tokens)
unfolding bracketed_at
bracketed_none levels scope wanted tokens e none is = rw (is, none) refl

pub bracketed_some : (levels : ℕ) (scope : Scope) (wanted : Kind) (tokens : List Token) → 0 < levels
    → bracketed_at levels scope wanted tokens
    ≡ bracketed_by scope (value_by (levels - 1) (bracketed_at (levels - 1) scope) (uses_at (levels - 1) scope) scope) wanted tokens
unfolding bracketed_at
bracketed_some levels scope wanted tokens some =
    let e : levels ≡ suc (levels - 1) = omega arith in
    ap (λ (n : ℕ). bracketed_at n scope wanted tokens) e

-- ---- one `else` less

pub within_none : (levels : ℕ) (bracketed : Bracketed) (uses : Uses) (scope : Scope) (more : ℕ) (tokens : List Token) (e : SourceError) → more ≡ 0
    → e ≡ Bad (record { at = scope.program; cause = TooDeep }) → ReturnsFault e (operand_within levels bracketed uses scope more tokens)
unfolding operand_within
within_none levels bracketed uses scope more tokens e none is = rw (is, none) refl

pub within_some : (levels : ℕ) (bracketed : Bracketed) (uses : Uses) (scope : Scope) (more : ℕ) (tokens : List Token) → 0 < more
    → operand_within levels bracketed uses scope more tokens ≡ operand_by levels bracketed uses (operand_within levels bracketed uses scope (more - 1)) scope tokens
unfolding operand_within
within_some levels bracketed uses scope more tokens some =
    let e : more ≡ suc (more - 1) = omega arith in
    ap (λ (n : ℕ). operand_within levels bracketed uses scope n tokens) e

-- ---- values in brackets: one bracket less, and one value after the other, at turn i of n

pub uses_none : (levels : ℕ) (scope : Scope) (tokens : List Token) (e : SourceError) → levels ≡ 0 → e ≡ Bad (unexpected tokens)
    → ReturnsFault e (uses_at levels scope tokens)
unfolding uses_at
uses_none levels scope tokens e none is = rw (is, none) refl

pub uses_some : (levels : ℕ) (scope : Scope) (tokens : List Token) → 0 < levels
    → uses_at levels scope tokens ≡ uses_by scope (value_by (levels - 1) (bracketed_at (levels - 1) scope) (uses_at (levels - 1) scope) scope) tokens
unfolding uses_at
uses_some levels scope tokens some =
    let e : levels ≡ suc (levels - 1) = omega arith in
    ap (λ (n : ℕ). uses_at n scope tokens) e

pub uses_fault : (e : SourceError) (scope : Scope) (value : List Token → Read Valued) (n i : ℕ) (xs : List Valued) (tokens : List Token) (total : Read (List Valued))
    → i < n → ReturnsFault e (value tokens) → uses_from scope value (n - i) xs tokens ≡ total → ReturnsFault e total
unfolding uses_from
uses_fault OutOfMemory scope value n i xs tokens total less is so_far = tt
uses_fault (Bad f) scope value n i xs tokens total less is so_far =
    let k : n - i ≡ suc (n - (i + 1)) = omega arith in
    let one : uses_from scope value (n - i) xs tokens ≡ Err f = rw (k, is) refl in
    sym so_far ∙ one

pub uses_refused : (e : SourceError) (scope : Scope) (value : List Token → Read Valued) (n i : ℕ) (xs : List Valued) (x : Valued) (tokens behind : List Token)
    (total : Read (List Valued)) → i < n → value tokens ≡ Ok (x, behind) → ReturnsFault e (with_argument_added scope xs tokens x behind)
    → uses_from scope value (n - i) xs tokens ≡ total → ReturnsFault e total
unfolding uses_from
uses_refused OutOfMemory scope value n i xs x tokens behind total less is refused so_far = tt
uses_refused (Bad f) scope value n i xs x tokens behind total less is refused so_far =
    let k : n - i ≡ suc (n - (i + 1)) = omega arith in
    let one : uses_from scope value (n - i) xs tokens ≡ Err f = rw (k, is, refused) refl in
    sym so_far ∙ one

pub uses_more : (scope : Scope) (value : List Token → Read Valued) (n i : ℕ) (xs ys : List Valued) (x : Valued) (tokens behind next : List Token)
    (total : Read (List Valued)) → i < n → value tokens ≡ Ok (x, behind) → with_argument_added scope xs tokens x behind ≡ Ok ys
    → after_symbol Comma behind ≡ Some next → uses_from scope value (n - i) xs tokens ≡ total → uses_from scope value (n - (i + 1)) ys next ≡ total
unfolding uses_from
uses_more scope value n i xs ys x tokens behind next total less is added follows so_far =
    let k : n - i ≡ suc (n - (i + 1)) = omega arith in
    let one : uses_from scope value (n - i) xs tokens ≡ uses_from scope value (n - (i + 1)) ys next = rw (k, is, added, follows) refl in
    sym one ∙ so_far

pub uses_over : (e : SourceError) (scope : Scope) (value : List Token → Read Valued) (n i : ℕ) (xs : List Valued) (tokens : List Token) (total : Read (List Valued))
    → n ≤ i → e ≡ Bad (unexpected tokens) → uses_from scope value (n - i) xs tokens ≡ total → ReturnsFault e total
unfolding uses_from
uses_over e scope value n i xs tokens total over is so_far =
    let k : n - i ≡ 0 = omega arith in
    let one : uses_from scope value (n - i) xs tokens ≡ Err (unexpected tokens) = rw k refl in
    rw is (sym so_far ∙ one)

pub uses_last : (scope : Scope) (value : List Token → Read Valued) (n i : ℕ) (xs ys : List Valued) (x : Valued) (tokens behind rest : List Token)
    (total : Read (List Valued)) → i < n → value tokens ≡ Ok (x, behind) → with_argument_added scope xs tokens x behind ≡ Ok ys
    → after_symbol Comma behind ≡ None → expect_symbol RightParenthesis behind ≡ Ok rest → uses_from scope value (n - i) xs tokens ≡ total → total ≡ Ok (ys, rest)
unfolding uses_from
uses_last scope value n i xs ys x tokens behind rest total less is added ends closed so_far =
    let k : n - i ≡ suc (n - (i + 1)) = omega arith in
    let one : uses_from scope value (n - i) xs tokens ≡ Ok (ys, rest) = rw (k, is, added, ends, closed) refl in
    sym so_far ∙ one

pub uses_unclosed : (e : SourceError) (scope : Scope) (value : List Token → Read Valued) (n i : ℕ) (xs ys : List Valued) (x : Valued) (tokens behind : List Token)
    (total : Read (List Valued)) → i < n → value tokens ≡ Ok (x, behind) → with_argument_added scope xs tokens x behind ≡ Ok ys
    → after_symbol Comma behind ≡ None → ReturnsFault e (expect_symbol RightParenthesis behind) → uses_from scope value (n - i) xs tokens ≡ total
    → ReturnsFault e total
unfolding uses_from
uses_unclosed OutOfMemory scope value n i xs ys x tokens behind total less is added ends unclosed so_far = tt
uses_unclosed (Bad f) scope value n i xs ys x tokens behind total less is added ends unclosed so_far =
    let k : n - i ≡ suc (n - (i + 1)) = omega arith in
    let one : uses_from scope value (n - i) xs tokens ≡ Err f = rw (k, is, added, ends, unclosed) refl in
    sym so_far ∙ one
