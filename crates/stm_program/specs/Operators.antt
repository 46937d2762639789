-- The operators, and how they are written: the one table of them.
use Rattle.std.specs.Prelude.{◌≡◌, refl, ℕ, List, [], ◌∷◌, Option, Some, None, nat_eq, bytes_eq, if◌then◌else◌, codes}
use Rattle.std.specs.List.{starts_with}
use Rattle.stm_program.specs.declared.operator.Operator.{Operator}
use Rattle.stm_program.specs.declared.operator.Operator.TheVariants.{Add, Sub, Mul, Div, Rem}
use Rattle.stm_program.specs.declared.operator.TheConstants.{OPERATORS}

-- their places in the list of all
abbrev pub operator_place : Operator → ℕ
operator_place Add = 0
operator_place Sub = 1
operator_place Mul = 2
operator_place Div = 3
operator_place Rem = 4

-- the words of JSON
abbrev pub operator_word : Operator → List ℕ
operator_word Add = codes "add"
operator_word Sub = codes "sub"
operator_word Mul = codes "mul"
operator_word Div = codes "div"
operator_word Rem = codes "rem"

-- the signs of a source
abbrev pub operator_sign : Operator → List ℕ
operator_sign Add = codes "+"
operator_sign Sub = codes "-"
operator_sign Mul = codes "*"
operator_sign Div = codes "/"
operator_sign Rem = codes "%"

-- how tightly each binds in a source
abbrev pub operator_rank : Operator → ℕ
operator_rank Add = 2
operator_rank Sub = 2
operator_rank Mul = 3
operator_rank Div = 3
operator_rank Rem = 3

-- ---- the table from its ends

-- the first of these with a word
abbrev pub named_in : List Operator → List ℕ → Option Operator
named_in [] word = None
named_in (o ∷ os) word = if bytes_eq word (operator_word o) then Some o else named_in os word

abbrev pub operator_named : List ℕ → Option Operator
operator_named word = named_in OPERATORS word

-- the first of these with whose sign bytes begin
abbrev pub signed_in : List Operator → List ℕ → Option Operator
signed_in [] bytes = None
signed_in (o ∷ os) bytes = if starts_with nat_eq bytes (operator_sign o) then Some o else signed_in os bytes

abbrev pub operator_signed : List ℕ → Option Operator
operator_signed bytes = signed_in OPERATORS bytes

-- each is found by its word
pub each_is_named : (o : Operator) → operator_named (operator_word o) ≡ Some o
each_is_named Add = refl
each_is_named Sub = refl
each_is_named Mul = refl
each_is_named Div = refl
each_is_named Rem = refl
