-- Items: what a loop goes over, and what a list is made of.
use Rattle.std.specs.Prelude.{ℕ, zero, suc, List, [], ◌∷◌, ◌++◌, length, take, Bool, Option, Some, None, Ok, Err, unwrap_or, nat_lt, if◌then◌else◌}
use Rattle.stm_tokens.specs.declared.token.Token.{Token}
use Rattle.stm_tokens.specs.declared.token.Symbol.TheVariants.{Comma}
use Rattle.stm_program.specs.declared.limits.TheConstants.{MAX_TEXT}
use Rattle.stm_terms.specs.declared.arguments.Argument.{Argument}
use Rattle.stm_terms.specs.declared.arguments.Argument.TheVariants as argument
use Rattle.stm_terms.specs.declared.constants.Item.{Item}
use Rattle.stm_terms.specs.declared.faults.SourceCause.TheVariants as cause
use Rattle.stm_terms.specs.declared.items.Items.{Items}
use Rattle.stm_terms.specs.declared.limits.TheConstants.{MOST_KEPT}
use Rattle.stm_terms.specs.declared.kinds.Kind.{Kind}
use Rattle.stm_terms.specs.declared.kinds.Kind.TheVariants.{Either, Text, Number}
use Rattle.stm_terms.specs.declared.scope.Scope.{Scope}
use Rattle.stm_terms.specs.Arguments.{kind_of_argument}
use Rattle.stm_terms.specs.Cursor.{place, unexpected, after_symbol, next_name}
use Rattle.stm_terms.specs.Kinds.{agrees}
use Rattle.stm_terms.specs.Literals.{argument_at}
use Rattle.stm_terms.specs.Outcome.{Outcome, Read, bad, ◌>>=◌}
use Rattle.stm_terms.specs.Scope.{argument_named, blamed, list_in_sight}

abbrev pub item_as : Argument → Option ℕ → Item
item_as a at = record { argument = a; at = at }

-- ---- items are all texts or all numbers

abbrev pub kind_with : Kind → Kind → Kind
kind_with Either own = own
kind_with Text own = Text
kind_with Number own = Number

-- what items are, with others of a kind before them
abbrev pub joint_kind : Kind → List Item → Option Kind
joint_kind k [] = Some k
joint_kind k (i ∷ is) = if agrees k (kind_of_argument i.argument) then joint_kind (kind_with k (kind_of_argument i.argument)) is else None

abbrev pub joint_or : Scope → ℕ → Option Kind → Outcome Kind
joint_or scope at None = bad (unwrap_or scope.kinds_at at) cause.Kind
joint_or scope at (Some k) = Ok k

abbrev pub looked_at : Scope → Kind → ℕ → List Item → Outcome Kind
looked_at scope k at items = if scope.looks_at_kinds then joint_or scope at (joint_kind k items) else Ok k

-- ---- one item, or those of a list

-- a text that no program may have
abbrev pub fits : ℕ → Argument → Outcome (Unit {0})
fits at (argument.Text s) = if nat_lt MAX_TEXT (length s) then bad at cause.TooLong else Ok tt
fits at argument.Either = Ok tt
fits at (argument.Number z) = Ok tt

abbrev pub literal_item : Scope → List Token → Read (List Item)
literal_item scope tokens =
    argument_at scope.constants tokens >>= λ g. fits g.0.at g.0.argument >>= λ u. Ok (item_as g.0.argument None ∷ [], g.1)

abbrev pub alone_at : ℕ → Option ℕ → Option Argument → List Token → Read (List Item)
alone_at at blamed None rest = bad at cause.Name
alone_at at blamed (Some a) rest = Ok (item_as a blamed ∷ [], rest)

abbrev pub list_if : Scope → Bool → List ℕ → Option (List Item)
list_if scope lists name = if lists then list_in_sight scope name else None

-- of a list so many that a program has fewer nodes than they have copies of a block
abbrev pub named_by : Scope → ℕ → List ℕ → List Token → Option (List Item) → Read (List Item)
named_by scope at name rest (Some items) = Ok (take MOST_KEPT items, rest)
named_by scope at name rest None = alone_at at (blamed scope name) (argument_named scope name) rest

abbrev pub named_items : Scope → Bool → ℕ → List ℕ → List Token → Read (List Item)
named_items scope lists at name rest = named_by scope at name rest (list_if scope lists name)

abbrev pub item_by : Scope → Bool → List Token → Option (List ℕ × List Token) → Read (List Item)
item_by scope lists tokens (Some p) = named_items scope lists (place tokens) p.0 p.1
item_by scope lists tokens None = literal_item scope tokens

abbrev pub item_at : Scope → Bool → List Token → Read (List Item)
item_at scope lists tokens = item_by scope lists tokens (next_name tokens)

-- ---- items with commas between them

abbrev pub items_as : List Item → Kind → Items
items_as items k = record { items = items; kind = k }

abbrev pub more_items : Scope → Bool → Items → List Token → Read Items
more_items scope lists before tokens =
    item_at scope lists tokens >>= λ x.
    looked_at scope before.kind (place tokens) x.0 >>= λ k. Ok (items_as (before.items ++ x.0) k, x.1)

abbrev pub items_behind : (Items → List Token → Read (List Item)) → Items → List Token → Option (List Token) → Read (List Item)
items_behind more before tokens (Some rest) = more before rest
items_behind more before tokens None = Ok (before.items, tokens)

-- items behind these, at most so many
unfoldable pub items_from : Scope → Bool → ℕ → Items → List Token → Read (List Item)
items_from scope lists zero before tokens = Err (unexpected tokens)
items_from scope lists (suc more) before tokens =
    more_items scope lists before tokens >>= λ x. items_behind (items_from scope lists more) x.0 x.1 (after_symbol Comma x.1)

-- names of lists stand for their items, where lists may be
abbrev pub items_at : Scope → Bool → List Token → Read (List Item)
items_at scope lists tokens = items_from scope lists (length tokens) (items_as [] Either) tokens
