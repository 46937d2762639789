-- What loops go over: how far one counts, and the items of one over items.
use Rattle.std.specs.Prelude.{ℕ, pos, negsuc, List, length, Bool, true, not, ◌||◌, ◌&&◌, Option, Some, None, is_some, Ok, Err}
use Rattle.std.specs.Prelude.{nat_eq, nat_le, if◌then◌else◌, codes}
use Rattle.stm_tokens.specs.declared.token.Token.{Token}
use Rattle.stm_tokens.specs.declared.token.Symbol.TheVariants as symbol
use Rattle.stm_program.specs.declared.operator.Operator.TheVariants.{Sub}
use Rattle.stm_program.specs.declared.limits.TheConstants.{MAX_TURNS}
use Rattle.stm_program.specs.Syntax.{Expression, Number}
use Rattle.stm_terms.specs.declared.arguments.Argument.{Argument}
use Rattle.stm_terms.specs.declared.arguments.Argument.TheVariants.{Either}
use Rattle.stm_terms.specs.declared.constants.Item.{Item}
use Rattle.stm_terms.specs.declared.faults.SourceCause.TheVariants as cause
use Rattle.stm_terms.specs.declared.kinds.Kind.TheVariants as value_kind
use Rattle.stm_terms.specs.declared.scope.Scope.{Scope}
use Rattle.stm_terms.specs.Arguments.{argument_number}
use Rattle.stm_terms.specs.Cursor.{place, unexpected, after_symbol, after_name, next_name, next_number, next_text}
use Rattle.stm_terms.specs.Items.{item_as, items_at}
use Rattle.stm_terms.specs.Literals.{number_given}
use Rattle.stm_terms.specs.Outcome.{Outcome, Read, bad}
use Rattle.stm_terms.specs.Scope.{argument_named, blame, numbered_variable, variable_of, with_name, next_of, may_give}

-- ---- a count

abbrev pub counted_by_number : Scope → ℕ → Option ℕ → Outcome (ℕ × Scope)
counted_by_number scope at None = bad at cause.Name
counted_by_number scope at (Some v) = Ok (v, scope)

abbrev pub counted_anew : Scope → List ℕ → ℕ → Option ℕ → Outcome (ℕ × Scope)
counted_anew scope name at None = bad at cause.TooMany
counted_anew scope name at (Some v) = Ok (v, with_name scope name (if scope.looks_at_kinds then value_kind.Number else value_kind.Either))

abbrev pub counted_by_name : Scope → List ℕ → ℕ → Outcome (ℕ × Scope)
counted_by_name scope name at = if may_give scope name then counted_anew scope name at (next_of scope) else bad at cause.Name

-- the variable that is counted, and the names in its block
abbrev pub counted_in : Scope → List ℕ → ℕ → Outcome (ℕ × Scope)
counted_in scope name at = if scope.numbered then counted_by_number scope at (numbered_variable name) else counted_by_name scope name at

-- a count that is a number is its own limit
abbrev pub own_limit : Expression → ℕ → List Token → Read ℕ
own_limit (Number (pos n)) at rest = if nat_le n MAX_TURNS then Ok (n, rest) else bad at cause.Range
own_limit (Number (negsuc n)) at rest = bad at cause.Range
own_limit _ at rest = Err (unexpected rest)

abbrev pub sole_by : Scope → List Token → Option (List ℕ × List Token) → Option (List ℕ)
sole_by scope rest None = None
sole_by scope rest (Some p) = if not (nat_eq (length p.1) (length rest)) || is_some (variable_of scope p.0) then None else Some p.0

-- the name that a count is alone, behind which the rest comes, and that is no variable's
abbrev pub sole_name : Scope → List Token → List Token → Option (List ℕ)
sole_name scope tokens rest = sole_by scope rest (next_name tokens)

abbrev pub argument_limit : Expression → ℕ → ℕ → List Token → Option Argument → Read ℕ
argument_limit count at blamed rest (Some a) = argument_number MAX_TURNS blamed a rest
argument_limit count at blamed rest None = own_limit count at rest

abbrev pub count_limit : Scope → Expression → ℕ → List Token → Option (List ℕ) → Read ℕ
count_limit scope count at rest (Some name) = argument_limit count at (blame scope name at) rest (argument_named scope name)
count_limit scope count at rest None = own_limit count at rest

abbrev pub limit_by : Scope → Expression → List Token → List Token → Option (List Token) → Read ℕ
limit_by scope count tokens rest None = count_limit scope count (place tokens) rest (sole_name scope tokens rest)
limit_by scope count tokens rest (Some behind) = number_given MAX_TURNS scope behind

abbrev pub limit_at : Scope → Expression → List Token → List Token → Read ℕ
limit_at scope count tokens rest = limit_by scope count tokens rest (after_name (codes "max") rest)

abbrev pub dots_behind : Option (ℕ × List Token) → Option (List Token)
dots_behind None = None
dots_behind (Some p) = if nat_eq p.0 0 then after_symbol symbol.Dots p.1 else None

-- behind `0 ..`
abbrev pub after_zero : List Token → Option (List Token)
after_zero tokens = dots_behind (next_number tokens)

-- ---- items

abbrev pub begins_item : List Token → Bool
begins_item tokens =
    is_some (next_name tokens) || is_some (next_text tokens) || is_some (next_number tokens) || is_some (after_symbol (symbol.Arithmetic Sub) tokens)

-- the items of a loop, by the name that begins at a byte: that of a variable names none
abbrev pub items_of : Scope → ℕ → List ℕ → List Token → Read (List Item)
items_of scope at name tokens =
    if is_some (numbered_variable name) && begins_item tokens then bad at cause.Name else items_at scope true tokens

-- one that is not known
abbrev pub unknown_item : Item
unknown_item = item_as Either None
