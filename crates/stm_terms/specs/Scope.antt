-- The names of a program. A variable's number is its place among the names in sight, or it is called by its number.
use Rattle.std.specs.Prelude.{ℕ, zero, suc, List, [], ◌∷◌, ◌++◌, length, Bool, true, false, not, ◌&&◌, ◌||◌, nat_eq, nat_le, nat_lt, Option, Some, None}
use Rattle.std.specs.Prelude.{is_some, unwrap_or, if◌then◌else◌, bytes_eq}
use Rattle.std.specs.List.{list_any}
use Rattle.stm_json.specs.Parts.{same}
use Rattle.stm_tokens.specs.declared.token.Token.{Token}
use Rattle.stm_tokens.specs.declared.token.TokenKind.{TokenKind}
use Rattle.stm_tokens.specs.declared.token.TokenKind.TheVariants as kind
use Rattle.stm_tokens.specs.declared.token.Word.TheVariants as word
use Rattle.stm_tokens.specs.declared.token.Symbol.TheVariants as symbol
use Rattle.stm_tokens.specs.Numbers.{number_length, value_from}
use Rattle.stm_tokens.specs.Same.{is_symbol, is_word}
use Rattle.stm_program.specs.declared.limits.TheConstants.{MAX_VARIABLE}
use Rattle.stm_terms.specs.declared.kinds.Kind.{Kind}
use Rattle.stm_terms.specs.declared.scope.Scope.{Scope}
use Rattle.stm_terms.specs.declared.scope.NamedItem.{NamedItem}
use Rattle.stm_terms.specs.declared.arguments.Argument.{Argument}
use Rattle.stm_terms.specs.declared.arguments.Given.{Given}
use Rattle.stm_terms.specs.declared.constants.Item.{Item}
use Rattle.stm_terms.specs.Arguments.{given_named, list_named}
use Rattle.stm_terms.specs.Constants.{constant_named, alone, listed}

-- the place of a name among names, of which so many stand before these
abbrev pub index_from : ℕ → List ℕ → List (List ℕ) → Option ℕ
index_from before name [] = None
index_from before name (n ∷ ns) = if same n name then Some before else index_from (suc before) name ns

abbrev pub index_of : List ℕ → List (List ℕ) → Option ℕ
index_of name names = index_from 0 name names

-- ---- the names that are the variables themselves: `v` and a number

abbrev pub numbered_digits : List ℕ → Option ℕ
numbered_digits digits =
    if nat_lt 0 (length digits) && nat_eq (number_length digits) (length digits) && nat_le (value_from 0 digits) MAX_VARIABLE
    then Some (value_from 0 digits) else None

unfoldable pub numbered_variable : List ℕ → Option ℕ
numbered_variable [] = None
numbered_variable (b ∷ digits) = if nat_eq b 118 then numbered_digits digits else None

-- ---- the variable of a name

abbrev pub bounded : Option ℕ → Option ℕ
bounded None = None
bounded (Some n) = if nat_le n MAX_VARIABLE then Some n else None

unfoldable pub variable_of : Scope → List ℕ → Option ℕ
variable_of scope name = bounded (if scope.numbered then numbered_variable name else index_of name scope.names)

-- ---- new names

abbrev pub with_name : Scope → List ℕ → Kind → Scope
with_name scope name k = record scope { names = scope.names ++ name ∷ []; kinds = scope.kinds ++ k ∷ [] }

-- the first variable that has no name
abbrev pub next_of : Scope → Option ℕ
next_of scope = if nat_lt MAX_VARIABLE (length scope.names) then None else Some (length scope.names)

-- ---- what else is in sight: items of the loops around, parameters, and what is defined above

abbrev pub item_named : List ℕ → List NamedItem → Option Item
item_named name [] = None
item_named name (n ∷ ns) = if same n.name name then Some n.item else item_named name ns

abbrev pub argument_by : Option Item → Option Given → Option Argument → Option Argument
argument_by (Some item) given constant = Some item.argument
argument_by None (Some given) constant = Some given.argument
argument_by None None constant = constant

-- the text or the number that a name stands for
abbrev pub argument_named : Scope → List ℕ → Option Argument
argument_named scope name =
    argument_by (item_named name scope.items) (given_named scope.arguments name) (alone (constant_named scope.constants name))

abbrev pub list_by : Option (List Item) → Option (List Item) → Option (List Item)
list_by (Some items) constant = Some items
list_by None constant = constant

-- the list that a name stands for
abbrev pub list_in_sight : Scope → List ℕ → Option (List Item)
list_in_sight scope name = list_by (list_named scope.arguments name) (listed (constant_named scope.constants name))

abbrev pub blamed_by : Option Item → Option Given → Option ℕ
blamed_by (Some item) given = item.at
blamed_by None (Some given) = Some given.at
blamed_by None None = None

-- where what a name stands for is blamed, if not at the name: an argument of a start where that stands
abbrev pub blamed : Scope → List ℕ → Option ℕ
blamed scope name = blamed_by (item_named name scope.items) (given_named scope.arguments name)

-- the same of a name that begins at a byte
abbrev pub blame : Scope → List ℕ → ℕ → ℕ
blame scope name at = unwrap_or (blamed scope name) at

abbrev pub with_item : Scope → List ℕ → Item → Scope
with_item scope name item = record scope { items = scope.items ++ record { name = name; item = item } ∷ [] }

-- behind `&&` and `||` no look-up has an `else`, since the condition there is not always evaluated
abbrev pub without_else : Scope → Scope
without_else scope = record scope { takes_else = false }

abbrev pub knows : Scope → List ℕ → Bool
knows scope name =
    is_some (index_of name scope.names) || is_some (item_named name scope.items) || list_any (bytes_eq name) scope.arguments.names
    || list_any (bytes_eq name) scope.constants.names

-- a name that is in sight is not given again, and a variable's own name never
abbrev pub may_give : Scope → List ℕ → Bool
may_give scope name = not scope.numbered && not (is_some (numbered_variable name)) && not (knows scope name)

-- ---- a program has names of one of the two kinds: which, its first variable says

-- the name after a `for` is counted
abbrev pub is_zero : TokenKind → Bool
is_zero (kind.Number n) = nat_eq n 0
is_zero (kind.Name n) = false
is_zero (kind.Word w) = false
is_zero (kind.Text t) = false
is_zero (kind.Symbol s) = false
is_zero kind.Wrong = false
is_zero kind.End = false

abbrev pub counts : List Token → Bool
counts (a ∷ (b ∷ (c ∷ (d ∷ ts)))) = is_word word.In b.kind && is_zero c.kind && is_symbol symbol.Dots d.kind
counts [] = false
counts (a ∷ []) = false
counts (a ∷ (b ∷ [])) = false
counts (a ∷ (b ∷ (c ∷ []))) = false

abbrev pub is_numbered : TokenKind → Bool
is_numbered (kind.Name n) = is_some (numbered_variable n)
is_numbered (kind.Number n) = false
is_numbered (kind.Word w) = false
is_numbered (kind.Text t) = false
is_numbered (kind.Symbol s) = false
is_numbered kind.Wrong = false
is_numbered kind.End = false

abbrev pub not_numbered : List Token → Bool
not_numbered [] = false
not_numbered (a ∷ rest) = not (is_numbered a.kind)

-- behind a bracket: an `else` of a look-up, for which variables are taken
abbrev pub begins_else : List Token → Bool
begins_else [] = false
begins_else (a ∷ rest) = is_word word.Else a.kind

-- what a token says of the program: that its variables have names, that they are numbered, or nothing
abbrev pub says : Token → List Token → Option Bool
says t ts =
    if is_numbered t.kind then Some true
    else (if is_word word.Let t.kind || (is_word word.For t.kind && counts ts && not_numbered ts) || (is_symbol symbol.RightParenthesis t.kind && begins_else ts)
    then Some false else None)

-- how many braces are open behind a token, besides the body's own; none, where that is closed
abbrev pub one_less : ℕ → Option ℕ
one_less zero = None
one_less (suc n) = Some n

abbrev pub braces_behind : TokenKind → ℕ → Option ℕ
braces_behind k depth =
    if is_symbol symbol.LeftBrace k then Some (suc depth) else (if is_symbol symbol.RightBrace k then one_less depth else Some depth)

abbrev pub numbered_by : (ℕ → Bool) → Option Bool → Option ℕ → Bool
numbered_by more (Some numbered) braces = numbered
numbered_by more None None = false
numbered_by more None (Some braces) = more braces

-- the variables of a body, of which this is left, are numbered
abbrev pub numbered_from : ℕ → List Token → Bool
numbered_from depth [] = false
numbered_from depth (t ∷ ts) = numbered_by (λ braces. numbered_from braces ts) (says t ts) (braces_behind t.kind depth)
