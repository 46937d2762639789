-- Values: the expression that tokens spell, or the first fault. A reader is given how many brackets may still be opened.
use Rattle.std.specs.Prelude.{ℕ, zero, suc, ◌+◌, ◌-◌, ◌^◌, pos, neg_ℤ, List, [], ◌∷◌, ◌++◌, length, Option, Some, None, Ok, Err, not, nat_eq, nat_le, nat_lt, if◌then◌else◌}
use Rattle.stm_tokens.specs.declared.token.Token.{Token}
use Rattle.stm_tokens.specs.declared.token.TokenKind.{TokenKind}
use Rattle.stm_tokens.specs.declared.token.TokenKind.TheVariants as kind
use Rattle.stm_tokens.specs.declared.token.Symbol.{Symbol}
use Rattle.stm_tokens.specs.declared.token.Symbol.TheVariants as symbol
use Rattle.stm_tokens.specs.declared.token.Word.{Word}
use Rattle.stm_tokens.specs.declared.token.Word.TheVariants as word
use Rattle.stm_tokens.specs.Same.{same_symbol, same_word}
use Rattle.stm_program.specs.declared.limits.TheConstants.{MAX_TEXT}
use Rattle.stm_program.specs.declared.operator.Operator.TheVariants.{Sub}
use Rattle.stm_program.specs.Operators.{operator_rank}
use Rattle.stm_program.specs.Syntax.{Expression, Text, Number, Variable, Get, Rev, Arithmetic, Cat, TextOf, NumOf}
use Rattle.stm_terms.specs.declared.faults.SourceCause.TheVariants as cause
use Rattle.stm_terms.specs.declared.scope.Scope.{Scope}
use Rattle.stm_terms.specs.declared.kinds.Kind.{Kind}
use Rattle.stm_terms.specs.declared.kinds.Kind.TheVariants as value_kind
use Rattle.stm_terms.specs.declared.kinds.Valued.{Valued}
use Rattle.stm_terms.specs.Kinds.{valued, kind_of, want}
use Rattle.stm_terms.specs.Endings.{asked_of}
use Rattle.stm_terms.specs.declared.operators.Call.{Call}
use Rattle.stm_terms.specs.declared.operators.Call.TheVariants as call
use Rattle.stm_terms.specs.declared.operators.Join.{Join}
use Rattle.stm_terms.specs.declared.operators.Join.TheVariants as join
use Rattle.stm_terms.specs.Outcome.{Outcome, Read, bad, ◌>>=◌}
use Rattle.stm_terms.specs.Cursor.{place, unexpected, after_symbol, after_word, expect_symbol, next_number}
use Rattle.stm_terms.specs.declared.look_ups.LookUp.{LookUp}
use Rattle.stm_terms.specs.LookUps.{with_look_up, with_else}
use Rattle.stm_terms.specs.declared.arguments.Argument.{Argument}
use Rattle.stm_terms.specs.declared.arguments.Argument.TheVariants as argument
use Rattle.stm_terms.specs.declared.uses.Defined.{Defined}
use Rattle.stm_terms.specs.Constants.{alone, constant_named, defined_value}
use Rattle.stm_terms.specs.Scope.{argument_named, blame, variable_of}
use Rattle.stm_terms.specs.Uses.{copied_in, may_stand, is_copied, may_join, with_argument_added}
use Rattle.stm_terms.specs.declared.limits.TheConstants.{MOST_BRACKETS, MOST_JOINS}

-- ---- operands

abbrev pub literal : Scope → ℕ → List ℕ → List Token → Read Valued
literal scope at text rest = if nat_le (length text) MAX_TEXT then Ok (valued scope (Text text) value_kind.Text [], rest) else bad at cause.TooLong

abbrev pub positive : Scope → ℕ → ℕ → List Token → Read Valued
positive scope at n rest = if nat_lt n (2 ^ 63) then Ok (valued scope (Number (pos n)) value_kind.Number [], rest) else bad at cause.Range

abbrev pub negative : Scope → ℕ → ℕ → List Token → Read Valued
negative scope at n rest = if nat_le n (2 ^ 63) then Ok (valued scope (Number (neg_ℤ (pos n))) value_kind.Number [], rest) else bad at cause.Range

-- behind a minus sign
abbrev pub negation : Scope → List Token → Option (ℕ × List Token) → Read Valued
negation scope tokens None = Err (unexpected tokens)
negation scope tokens (Some p) = negative scope (place tokens) p.0 p.1

-- where either may come, an argument is not known yet: the empty text stands for it
abbrev pub argument_value : Scope → ℕ → Argument → List Token → Read Valued
argument_value scope at argument.Either rest = Ok (valued scope (Text []) value_kind.Either [], rest)
argument_value scope at (argument.Text s) rest = literal scope at s rest
argument_value scope at (argument.Number z) rest = Ok (valued scope (Number z) value_kind.Number [], rest)

-- a name is that of a variable, or stands for a text or a number
abbrev pub named : Scope → ℕ → Option ℕ → Option Argument → ℕ → List Token → Read Valued
named scope at (Some v) a blamed rest = Ok (valued scope (Variable v) (kind_of scope v) [], rest)
named scope at None (Some a) blamed rest = argument_value scope blamed a rest
named scope at None None blamed rest = bad at cause.Name

abbrev pub named_at : Scope → ℕ → List ℕ → List Token → Read Valued
named_at scope at n rest = named scope at (variable_of scope n) (argument_named scope n) (blame scope n at) rest

-- what is computed of one value
abbrev pub call_of : Word → Option Call
call_of w =
    if same_word w word.Get then Some call.Get
    else (if same_word w word.Rev then Some call.Rev
    else (if same_word w word.NumOf then Some call.NumOf
    else (if same_word w word.TextOf then Some call.TextOf
    else None)))

abbrev pub called : Call → Expression → Expression
called call.Get e = Get e
called call.Rev e = Rev e
called call.NumOf e = NumOf e
called call.TextOf e = TextOf e

-- what it is computed of, and what comes of that
abbrev pub argument_kind : Call → Kind
argument_kind call.Get = value_kind.Text
argument_kind call.Rev = value_kind.Text
argument_kind call.NumOf = value_kind.Text
argument_kind call.TextOf = value_kind.Number

abbrev pub call_kind : Call → Kind
call_kind call.Get = value_kind.Text
call_kind call.Rev = value_kind.Number
call_kind call.NumOf = value_kind.Number
call_kind call.TextOf = value_kind.Text

-- values in brackets, with commas between them
abbrev pub Uses : Type 0
Uses = List Token → Read (List Valued)

-- the arguments of what is defined: none, where no bracket opens
abbrev pub arguments_by : Uses → List Token → Option (List Token) → Read (List Valued)
arguments_by uses tokens None = Ok ([], tokens)
arguments_by uses tokens (Some inner) = uses tokens

abbrev pub counted_in : Scope → ℕ → Defined → List Valued → Outcome Valued
counted_in scope at d arguments =
    if not (nat_eq (length arguments) d.parameters) then bad at cause.Arguments else copied_in scope at d.value arguments

-- what is defined, behind its name, which begins at a byte
abbrev pub used_at : Uses → Scope → ℕ → Defined → List Token → Read Valued
used_at uses scope at d tokens =
    may_stand scope at d.value >>= λ u.
    arguments_by uses tokens (after_symbol symbol.LeftParenthesis tokens) >>= λ x. counted_in scope at d x.0 >>= λ v. Ok (v, x.1)

-- a text or a number alone has no parameters
abbrev pub not_defined : Uses → Scope → ℕ → List ℕ → List Token → Option Argument → Read Valued
not_defined uses scope at n rest None = named_at scope at n rest
not_defined uses scope at n rest (Some a) =
    arguments_by uses rest (after_symbol symbol.LeftParenthesis rest) >>= λ x.
    if nat_lt 0 (length x.0) then bad at cause.Arguments else named_at scope at n x.1

abbrev pub meant_by : Uses → Scope → ℕ → List ℕ → List Token → Option Defined → Read Valued
meant_by uses scope at n rest None = not_defined uses scope at n rest (alone (constant_named scope.constants n))
meant_by uses scope at n rest (Some d) = used_at uses scope at d rest

-- a name is that of a variable, stands for a text or a number, or for a value that is defined
abbrev pub meant_at : Uses → Scope → ℕ → List ℕ → List Token → Read Valued
meant_at uses scope at n rest = meant_by uses scope at n rest (defined_value (constant_named scope.constants n))

-- a value of a kind in brackets
abbrev pub Bracketed : Type 0
Bracketed = Kind → List Token → Read Valued

-- what stands behind an `else`
abbrev pub Others : Type 0
Others = List Token → Read Valued

-- behind an `else`, which begins at a byte
abbrev pub else_behind : Others → Scope → ℕ → List LookUp → List Token → List Token → Read (List LookUp)
else_behind others scope at ls tokens behind =
    if scope.takes_else
    then (others behind >>= λ x.
    want scope value_kind.Text x.0.kind (place behind) >>= λ u. Ok (with_else ls at (place tokens) x.0, x.1))
    else Err (unexpected tokens)

-- the look-ups of a `get`, which begins at a byte, of a key with these
abbrev pub else_by : Others → Scope → ℕ → List LookUp → List Token → Option (List Token) → Read (List LookUp)
else_by others scope at ls tokens None = Ok (with_look_up ls at, tokens)
else_by others scope at ls tokens (Some behind) = else_behind others scope at ls tokens behind

-- the look-ups of something computed
abbrev pub call_look_ups : Others → Scope → Call → ℕ → List LookUp → List Token → Read (List LookUp)
call_look_ups others scope call.Get at ls tokens = else_by others scope at ls tokens (after_word word.Else tokens)
call_look_ups others scope call.Rev at ls tokens = Ok (with_look_up ls at, tokens)
call_look_ups others scope call.NumOf at ls tokens = Ok (ls, tokens)
call_look_ups others scope call.TextOf at ls tokens = Ok (ls, tokens)

abbrev pub call_by : Bracketed → Others → Scope → List Token → List Token → Option Call → Read Valued
call_by bracketed others scope tokens rest None = Err (unexpected tokens)
call_by bracketed others scope tokens rest (Some c) =
    bracketed (argument_kind c) rest >>= λ x.
    call_look_ups others scope c (place tokens) x.0.look_ups x.1 >>= λ ls. Ok (valued scope (called c x.0.expression) (call_kind c) ls.0, ls.1)

-- a value in brackets, a number below 0; a condition has no place here
abbrev pub signed : Bracketed → Scope → Symbol → List Token → List Token → Read Valued
signed bracketed scope s tokens rest =
    if same_symbol s symbol.LeftParenthesis then bracketed value_kind.Either tokens
    else (if same_symbol s (symbol.Arithmetic Sub) then negation scope rest (next_number rest)
    else (if same_symbol s symbol.Not then bad (place tokens) cause.Sort
    else Err (unexpected tokens)))

abbrev pub operand_kind : ℕ → Bracketed → Uses → Others → Scope → TokenKind → List Token → List Token → Read Valued
operand_kind levels bracketed uses others scope (kind.Text s) tokens rest = literal scope (place tokens) s rest
operand_kind levels bracketed uses others scope (kind.Number n) tokens rest = positive scope (place tokens) n rest
operand_kind levels bracketed uses others scope (kind.Name n) tokens rest =
    asked_of levels scope (place tokens) n (meant_at uses scope (place tokens) n rest) rest scope.runners
operand_kind levels bracketed uses others scope (kind.Word w) tokens rest = call_by bracketed others scope tokens rest (call_of w)
operand_kind levels bracketed uses others scope (kind.Symbol s) tokens rest = signed bracketed scope s tokens rest
operand_kind levels bracketed uses others scope kind.Wrong tokens rest = Err (unexpected tokens)
operand_kind levels bracketed uses others scope kind.End tokens rest = Err (unexpected tokens)

unfoldable pub operand_by : ℕ → Bracketed → Uses → Others → Scope → List Token → Read Valued
operand_by levels bracketed uses others scope [] = Err (unexpected [])
operand_by levels bracketed uses others scope (t ∷ ts) = operand_kind levels bracketed uses others scope t.kind (t ∷ ts) ts

-- in which so many may be behind an `else` within one another: one more is too deep, whatever it is
unfoldable pub operand_within : ℕ → Bracketed → Uses → Scope → ℕ → List Token → Read Valued
operand_within levels bracketed uses scope zero tokens = bad scope.program cause.TooDeep
operand_within levels bracketed uses scope (suc more) tokens =
    operand_by levels bracketed uses (operand_within levels bracketed uses scope more) scope tokens

-- ---- operators, the strongest of tier 1

abbrev pub joined : Join → Expression → Expression → Expression
joined (join.Arithmetic o) l r = Arithmetic o l r
joined join.Concatenate l r = Cat l r

-- what it joins, and what comes of that
abbrev pub join_kind : Join → Kind
join_kind (join.Arithmetic o) = value_kind.Number
join_kind join.Concatenate = value_kind.Text

-- of a tier: an operator that binds more is of a lesser one
abbrev pub join_of : ℕ → Symbol → Option Join
join_of tier (symbol.Arithmetic o) = if nat_eq tier (4 - operator_rank o) then Some (join.Arithmetic o) else None
join_of tier symbol.Concatenate = if nat_eq tier 3 then Some join.Concatenate else None
join_of tier other = None

abbrev pub join_in : ℕ → TokenKind → Option Join
join_in tier (kind.Symbol s) = join_of tier s
join_in tier _ = None

abbrev pub with_rest : List Token → Option Join → Option (Join × List Token)
with_rest rest None = None
with_rest rest (Some j) = Some (j, rest)

-- the operator of a tier that is the next token
unfoldable pub next_join : ℕ → List Token → Option (Join × List Token)
next_join tier [] = None
next_join tier (t ∷ ts) = with_rest ts (join_in tier t.kind)

-- a chain with more operators than this is too deep, whatever follows
abbrev pub joined_up : Scope → ℕ → Join → Valued → Valued → Valued
joined_up scope done j l r = if nat_lt done MOST_JOINS then valued scope (joined j l.expression r.expression) (join_kind j) (l.look_ups ++ r.look_ups) else l

-- the right side of an operator behind so many, and what it and the left one, which begins at a byte, are joined to
abbrev pub joined_right : Scope → ℕ → (List Token → Read Valued) → ℕ → Join → Valued → List Token → Read Valued
joined_right scope at operand done j left tokens =
    want scope (join_kind j) left.kind at >>= λ u.
    operand tokens >>= λ right.
    want scope (join_kind j) right.0.kind (place tokens) >>= λ v.
    may_join scope (nat_lt done MOST_JOINS) (is_copied tokens right.1 right.0) (joined_up scope done j left right.0) >>= λ w.
    Ok (joined_up scope done j left right.0, right.1)

abbrev pub Right : Type 0
Right = ℕ → Join → Valued → List Token → Read Valued

abbrev pub chained : (Join → List Token → Read Valued) → (Valued × List Token → Read Valued) → Valued → List Token → Option (Join × List Token) → Read Valued
chained right more left tokens None = Ok (left, tokens)
chained right more left tokens (Some p) = right p.0 p.1 >>= λ x. more x

-- the operators of a tier, from left to right, behind an operand, at most so many
unfoldable pub chain : Right → ℕ → ℕ → ℕ → Valued → List Token → Read Valued
chain right tier zero done left tokens = Ok (left, tokens)
chain right tier (suc more) done left tokens =
    chained (λ j ts. right done j left ts) (λ x. chain right tier more (done + 1) x.0 x.1) left tokens (next_join tier tokens)

-- behind a first operand, which begins at a byte, the operators of a tier and of the stronger ones, each with its right operand
unfoldable pub behind_by : (List Token → Read Valued) → Scope → ℕ → ℕ → Valued → List Token → Read Valued
behind_by operand scope zero at first tokens = Ok (first, tokens)
behind_by operand scope (suc tier) at first tokens =
    behind_by operand scope tier at first tokens >>= λ left.
    chain (joined_right scope at (λ ts. operand ts >>= λ x. behind_by operand scope tier (place ts) x.0 x.1)) (tier + 1) (length left.1) 0 left.0 left.1

abbrev pub tier_by : (List Token → Read Valued) → Scope → ℕ → List Token → Read Valued
tier_by operand scope tier tokens = operand tokens >>= λ x. behind_by operand scope tier (place tokens) x.0 x.1

-- those of a tier and of the stronger ones, and then those of the one above it
abbrev pub tier_behind : (List Token → Read Valued) → Scope → ℕ → ℕ → Valued → List Token → Read Valued
tier_behind operand scope tier at first tokens =
    behind_by operand scope tier at first tokens >>= λ left.
    chain (joined_right scope at (tier_by operand scope tier)) (tier + 1) (length left.1) 0 left.0 left.1

-- a value of a kind between brackets
abbrev pub bracketed_by : Scope → (List Token → Read Valued) → Kind → List Token → Read Valued
bracketed_by scope value wanted tokens =
    expect_symbol symbol.LeftParenthesis tokens >>= λ inner.
    value inner >>= λ x.
    want scope wanted x.0.kind (place inner) >>= λ u.
    expect_symbol symbol.RightParenthesis x.1 >>= λ rest. Ok (x.0, rest)

abbrev pub uses_behind : (List Valued → List Token → Read (List Valued)) → List Valued → List Token → Option (List Token) → Read (List Valued)
uses_behind more values tokens (Some rest) = more values rest
uses_behind more values tokens None = expect_symbol symbol.RightParenthesis tokens >>= λ rest. Ok (values, rest)

-- values behind these, at most so many
unfoldable pub uses_from : Scope → (List Token → Read Valued) → ℕ → List Valued → List Token → Read (List Valued)
uses_from scope value zero values tokens = Err (unexpected tokens)
uses_from scope value (suc more) values tokens =
    value tokens >>= λ x.
    with_argument_added scope values tokens x.0 x.1 >>= λ all. uses_behind (uses_from scope value more) all x.1 (after_symbol symbol.Comma x.1)

abbrev pub uses_by : Scope → (List Token → Read Valued) → Uses
uses_by scope value tokens = expect_symbol symbol.LeftParenthesis tokens >>= λ inner. uses_from scope value (length inner) [] inner

abbrev pub value_by : ℕ → Bracketed → Uses → Scope → List Token → Read Valued
value_by levels bracketed uses scope = tier_by (operand_within levels bracketed uses scope MOST_BRACKETS) scope 3

-- a value, and values, in brackets, of which so many may still be opened
unfoldable mutual
  pub bracketed_at : ℕ → Scope → Bracketed
  bracketed_at zero scope wanted tokens = Err (unexpected tokens)
  bracketed_at (suc levels) scope wanted tokens = bracketed_by scope (value_by levels (bracketed_at levels scope) (uses_at levels scope) scope) wanted tokens

  pub uses_at : ℕ → Scope → Uses
  uses_at zero scope tokens = Err (unexpected tokens)
  uses_at (suc levels) scope tokens = uses_by scope (value_by levels (bracketed_at levels scope) (uses_at levels scope) scope) tokens

abbrev pub operand_at : ℕ → Scope → List Token → Read Valued
operand_at levels scope = operand_within levels (bracketed_at levels scope) (uses_at levels scope) scope MOST_BRACKETS

abbrev pub tier_at : ℕ → Scope → ℕ → List Token → Read Valued
tier_at levels scope tier = tier_by (operand_at levels scope) scope tier

-- a value: all three tiers
abbrev pub value_at : ℕ → Scope → List Token → Read Valued
value_at levels scope tokens = tier_at levels scope 3 tokens

-- a value of a kind
abbrev pub value_of : ℕ → Scope → Kind → List Token → Read Valued
value_of levels scope wanted tokens = value_at levels scope tokens >>= λ x. want scope wanted x.0.kind (place tokens) >>= λ u. Ok x

-- the rest of a value behind its first operand, which begins at a byte
abbrev pub value_behind : ℕ → Scope → ℕ → Valued → List Token → Read Valued
value_behind levels scope at first tokens = behind_by (operand_at levels scope) scope 3 at first tokens
