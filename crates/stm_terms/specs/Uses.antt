-- Copying in what is defined outside of programs: a value whose parameters are its variables, in their order.
use Rattle.std.specs.Prelude.{ℕ, zero, suc, ◌+◌, ◌-◌, List, [], ◌∷◌, ◌++◌, length, take, drop, Bool, true, false, ◌&&◌, not, Option, Some, None, is_some, Ok, Err, is_ok, slice_get, unwrap_or, nat_eq, nat_lt, if◌then◌else◌}
use Rattle.stm_tokens.specs.declared.token.Token.{Token}
use Rattle.stm_program.specs.declared.limits.TheConstants.{MAX_NODES}
use Rattle.stm_program.specs.Size.{expression_nodes}
use Rattle.stm_program.specs.Syntax.{Expression, Text, Number, Variable, Get, Rev, Arithmetic, Cat, TextOf, NumOf}
use Rattle.stm_terms.specs.declared.faults.SourceCause.TheVariants as cause
use Rattle.stm_terms.specs.declared.kinds.Kind.{Kind}
use Rattle.stm_terms.specs.declared.kinds.Kind.TheVariants as kind
use Rattle.stm_terms.specs.declared.kinds.Valued.{Valued}
use Rattle.stm_terms.specs.declared.look_ups.LookUp.{LookUp}
use Rattle.stm_terms.specs.declared.look_ups.Other.{Other}
use Rattle.stm_terms.specs.declared.scope.Scope.{Scope}
use Rattle.stm_terms.specs.declared.limits.TheConstants.{MOST_ARGUMENTS, MOST_PLANS}
use Rattle.stm_terms.specs.Kinds.{agrees, valued}
use Rattle.stm_terms.specs.LookUps.{with_look_up, with_else, own_in, has_else}
use Rattle.stm_terms.specs.Outcome.{Outcome, bad, ◌>>=◌}
use Rattle.stm_terms.specs.Room.{Room, value_room, values_room}

-- ---- the value, with arguments in the places of its parameters

abbrev pub in_place : ℕ → Option Valued → Expression
in_place v None = Variable v
in_place v (Some x) = x.expression

abbrev pub placed : List Valued → Expression → Expression
placed arguments (Text t) = Text t
placed arguments (Number z) = Number z
placed arguments (Variable v) = in_place v (slice_get arguments v)
placed arguments (Get e) = Get (placed arguments e)
placed arguments (Rev e) = Rev (placed arguments e)
placed arguments (Arithmetic o l r) = Arithmetic o (placed arguments l) (placed arguments r)
placed arguments (Cat l r) = Cat (placed arguments l) (placed arguments r)
placed arguments (TextOf e) = TextOf (placed arguments e)
placed arguments (NumOf e) = NumOf (placed arguments e)

-- ---- its look-ups, in the order in which they are evaluated: its own stand where its name does

-- behind these, those of what a parameter stands for
abbrev pub with_argument : Option Valued → List LookUp → List LookUp
with_argument None ls = ls
with_argument (Some x) ls = ls ++ x.look_ups

-- how the look-ups of a value are copied that has these itself
abbrev pub Copies : Type 0
Copies = List LookUp → Expression → List LookUp

abbrev pub text_of : Expression → List LookUp → Valued
text_of e ls = record { expression = e; kind = kind.Text; look_ups = ls }

-- behind others a look-up, and those of the value that its `else` gives, which had these itself
abbrev pub with_copy : Copies → ℕ → List Valued → Option Other → List LookUp → List LookUp → List LookUp
with_copy copies at arguments None own ls = with_look_up ls at
with_copy copies at arguments (Some o) own ls = with_else ls at at (text_of (placed arguments o.value) (copies own o.value))

-- look-ups, and those of the definition that were not copied yet
abbrev pub Copied : Type 0
Copied = List LookUp × List LookUp

-- the next one: where none is left, one that has no `else`
abbrev pub with_next : Copies → ℕ → List Valued → List LookUp → List LookUp → Copied
with_next copies at arguments ls [] = (with_look_up ls at, [])
with_next copies at arguments ls (l ∷ rest) = (with_copy copies at arguments l.other (take (own_in l.other) rest) ls, drop (own_in l.other) rest)

abbrev pub next_of : Copies → ℕ → List Valued → Copied → Copied
next_of copies at arguments c = with_next copies at arguments c.0 c.1

abbrev pub walked : Copies → ℕ → List Valued → Expression → Copied → Copied
walked copies at arguments (Text t) c = c
walked copies at arguments (Number z) c = c
walked copies at arguments (Variable v) c = (with_argument (slice_get arguments v) c.0, c.1)
walked copies at arguments (Get e) c = next_of copies at arguments (walked copies at arguments e c)
walked copies at arguments (Rev e) c = next_of copies at arguments (walked copies at arguments e c)
walked copies at arguments (Arithmetic o l r) c = walked copies at arguments r (walked copies at arguments l c)
walked copies at arguments (Cat l r) c = walked copies at arguments r (walked copies at arguments l c)
walked copies at arguments (TextOf e) c = walked copies at arguments e c
walked copies at arguments (NumOf e) c = walked copies at arguments e c

-- those of a value that has these itself, within so many `else`s
unfoldable pub look_ups_in : ℕ → ℕ → List Valued → List LookUp → Expression → List LookUp
look_ups_in zero at arguments own e = []
look_ups_in (suc most) at arguments own e = (walked (look_ups_in most at arguments) at arguments e ([], own)).0

-- within more than are planned there are too many, whatever they are
abbrev pub look_ups_of : ℕ → List Valued → Valued → List LookUp
look_ups_of at arguments d = look_ups_in MOST_PLANS at arguments d.look_ups d.expression

-- how many nodes stand behind `else`s
abbrev pub other_nodes : Option Other → ℕ
other_nodes None = 0
other_nodes (Some o) = expression_nodes o.value

abbrev pub others_nodes : List LookUp → ℕ
others_nodes [] = 0
others_nodes (l ∷ ls) = other_nodes l.other + others_nodes ls

-- ---- where a definition with an `else` may be named, by a name that begins at a byte

abbrev pub may_stand : Scope → ℕ → Valued → Outcome (Unit {0})
may_stand scope at d = if not scope.takes_else && has_else d.look_ups then bad at cause.Syntax else Ok tt

-- ---- its kind, with these arguments: none, where one is of another kind than is wanted there

abbrev pub of_kind : Kind → Kind → Option Kind → Option Kind
of_kind wanted gives None = None
of_kind wanted gives (Some k) = if agrees wanted k then Some gives else None

abbrev pub kind_of_argument : Option Valued → Option Kind
kind_of_argument None = Some kind.Either
kind_of_argument (Some x) = Some x.kind

abbrev pub and_then : Option Kind → Option Kind → Option Kind
and_then None more = None
and_then (Some k) more = more

abbrev pub kind_in : List Valued → Expression → Option Kind
kind_in arguments (Text t) = Some kind.Text
kind_in arguments (Number z) = Some kind.Number
kind_in arguments (Variable v) = kind_of_argument (slice_get arguments v)
kind_in arguments (Get e) = of_kind kind.Text kind.Text (kind_in arguments e)
kind_in arguments (Rev e) = of_kind kind.Text kind.Number (kind_in arguments e)
kind_in arguments (Arithmetic o l r) =
    and_then (of_kind kind.Number kind.Number (kind_in arguments l)) (of_kind kind.Number kind.Number (kind_in arguments r))
kind_in arguments (Cat l r) = and_then (of_kind kind.Text kind.Text (kind_in arguments l)) (of_kind kind.Text kind.Text (kind_in arguments r))
kind_in arguments (TextOf e) = of_kind kind.Number kind.Text (kind_in arguments e)
kind_in arguments (NumOf e) = of_kind kind.Text kind.Number (kind_in arguments e)

abbrev pub other_is_text : List Valued → Option Other → Bool
other_is_text arguments None = true
other_is_text arguments (Some o) = is_some (of_kind kind.Text kind.Text (kind_in arguments o.value))

abbrev pub others_are_texts : List Valued → List LookUp → Bool
others_are_texts arguments [] = true
others_are_texts arguments (l ∷ ls) = if other_is_text arguments l.other then others_are_texts arguments ls else false

abbrev pub kind_of_use : Scope → List Valued → Valued → Option Kind
kind_of_use scope arguments d =
    if scope.looks_at_kinds then (if others_are_texts arguments d.look_ups then kind_in arguments d.expression else None) else Some kind.Either

-- ---- how much is copied

-- a program may have so many nodes
abbrev pub fits : Valued → Bool
fits x = is_ok (value_room (MAX_NODES + 1) MAX_NODES x)

-- a value of more nodes than a program has is refused where that begins
abbrev pub has_room : Scope → Valued → Outcome (Unit {0})
has_room scope x = if not (fits x) then bad scope.program cause.TooManyNodes else Ok tt

-- of these tokens up to the rest a value was read that has more nodes than they are: definitions are copied in there
abbrev pub is_copied : List Token → List Token → Valued → Bool
is_copied tokens rest x = not (is_ok (value_room (length tokens + 1) (length tokens - length rest) x))

-- what is copied in is refused at once, where it is not kept and where there are more nodes than a program has
abbrev pub may_join : Scope → Bool → Bool → Valued → Outcome (Unit {0})
may_join scope kept copied x = if copied && not (kept && fits x) then bad scope.program cause.TooManyNodes else Ok tt

abbrev pub room_for : Valued → Room → Bool
room_for x (Ok left) = is_ok (value_room (MAX_NODES + 1) left x)
room_for x (Err c) = false

abbrev pub may_follow : List Valued → Valued → Bool
may_follow xs x = if not (nat_lt (length xs) MOST_ARGUMENTS) then false else room_for x (values_room (MAX_NODES + 1) MAX_NODES xs)

-- a definition has fewer parameters than arguments are kept
abbrev pub kept_argument : List Valued → Valued → List Valued
kept_argument xs x = if nat_lt (length xs) MOST_ARGUMENTS then xs ++ x ∷ [] else xs

-- behind these arguments one more, that was read of these tokens up to the rest
abbrev pub with_argument_added : Scope → List Valued → List Token → Valued → List Token → Outcome (List Valued)
with_argument_added scope xs tokens x rest =
    if is_copied tokens rest x && not (may_follow xs x) then bad scope.program cause.TooManyNodes else Ok (kept_argument xs x)

-- ---- the copy

abbrev pub within : Scope → Valued → Outcome Valued
within scope x = has_room scope x >>= λ u. Ok x

abbrev pub copied_by : Scope → ℕ → Valued → List Valued → Option Kind → Outcome Valued
copied_by scope at d arguments None = bad (unwrap_or scope.kinds_at at) cause.Kind
copied_by scope at d arguments (Some k) = within scope (valued scope (placed arguments d.expression) k (look_ups_of at arguments d))

-- by its name, which begins at a byte, with these arguments; none where the program has too many nodes already
abbrev pub copied_in : Scope → ℕ → Valued → List Valued → Outcome Valued
copied_in scope at d arguments =
    if nat_eq scope.room 0 then bad scope.program cause.TooManyNodes else copied_by scope at d arguments (kind_of_use scope arguments d)
