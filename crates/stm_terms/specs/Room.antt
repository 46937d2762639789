-- What is wrong with a program that is too deep or has too many nodes, and how many nodes are left where it is neither. Each node is looked at
-- before its parts, and these in order.
use Rattle.std.specs.Prelude.{ℕ, ◌-◌, List, [], ◌∷◌, length, Option, Some, None, Result, Ok, Err, nat_eq, nat_le, if◌then◌else◌}
use Rattle.stm_program.specs.declared.limits.TheConstants.{MAX_TEXT, MAX_TURNS, MAX_LEASE}
use Rattle.stm_program.specs.Syntax.{Expression, Text, Number, Variable, Get, Rev, Arithmetic, Cat, TextOf, NumOf, Condition, Equal, Less, Not, And, Or}
use Rattle.stm_program.specs.Syntax.{Statement, Set, Put, Del, If, For, Emit, Abort, Block, End, Then}
use Rattle.stm_terms.specs.declared.kinds.Valued.{Valued}
use Rattle.stm_terms.specs.declared.look_ups.LookUp.{LookUp}
use Rattle.stm_terms.specs.declared.look_ups.Other.{Other}
use Rattle.stm_terms.specs.declared.faults.SourceCause.{SourceCause}
use Rattle.stm_terms.specs.declared.faults.SourceCause.TheVariants.{TooDeep, TooManyNodes, TooLong, Range}

abbrev pub Room : Type 0
Room = Result ℕ SourceCause

infixl 10 ◌>>=◌
abbrev pub ◌>>=◌ : Room → (ℕ → Room) → Room
(Ok left) >>= f = f left
(Err cause) >>= f = Err cause

-- a node at a level, and what is left for its parts
abbrev pub node : ℕ → ℕ → (ℕ → ℕ → Room) → Room
node levels room parts =
    if nat_eq levels 0 then Err TooDeep
    else (if nat_eq room 0 then Err TooManyNodes
    else parts (levels - 1) (room - 1))

-- a text, a limit and a lease are in range where they are read, too
abbrev pub expression_room : ℕ → ℕ → Expression → Room
expression_room levels room (Text s) = node levels room (λ l r. if nat_le (length s) MAX_TEXT then Ok r else Err TooLong)
expression_room levels room (Number z) = node levels room (λ l r. Ok r)
expression_room levels room (Variable v) = node levels room (λ l r. Ok r)
expression_room levels room (Get e) = node levels room (λ l r. expression_room l r e)
expression_room levels room (Rev e) = node levels room (λ l r. expression_room l r e)
expression_room levels room (TextOf e) = node levels room (λ l r. expression_room l r e)
expression_room levels room (NumOf e) = node levels room (λ l r. expression_room l r e)
expression_room levels room (Arithmetic o a b) = node levels room (λ l r. expression_room l r a >>= λ left. expression_room l left b)
expression_room levels room (Cat a b) = node levels room (λ l r. expression_room l r a >>= λ left. expression_room l left b)

-- what stands behind an `else` is a part of the program, too
abbrev pub other_room : ℕ → ℕ → Option Other → Room
other_room levels room None = Ok room
other_room levels room (Some o) = expression_room levels room o.value

abbrev pub others_room : ℕ → ℕ → List LookUp → Room
others_room levels room [] = Ok room
others_room levels room (l ∷ ls) = other_room levels room l.other >>= λ left. others_room levels left ls

abbrev pub value_room : ℕ → ℕ → Valued → Room
value_room levels room x = expression_room levels room x.expression >>= λ left. others_room levels left x.look_ups

abbrev pub values_room : ℕ → ℕ → List Valued → Room
values_room levels room [] = Ok room
values_room levels room (x ∷ xs) = value_room levels room x >>= λ left. values_room levels left xs

abbrev pub condition_room : ℕ → ℕ → Condition → Room
condition_room levels room (Equal a b) = node levels room (λ l r. expression_room l r a >>= λ left. expression_room l left b)
condition_room levels room (Less a b) = node levels room (λ l r. expression_room l r a >>= λ left. expression_room l left b)
condition_room levels room (Not c) = node levels room (λ l r. condition_room l r c)
condition_room levels room (And c d) = node levels room (λ l r. condition_room l r c >>= λ left. condition_room l left d)
condition_room levels room (Or c d) = node levels room (λ l r. condition_room l r c >>= λ left. condition_room l left d)

abbrev mutual
  pub statement_room : ℕ → ℕ → Statement → Room
  statement_room levels room (Set v e) = node levels room (λ l r. expression_room l r e)
  statement_room levels room (Put k e lease) =
      node levels room (λ l r. if nat_le lease MAX_LEASE then (expression_room l r k >>= λ left. expression_room l left e) else Err Range)
  statement_room levels room (Del e) = node levels room (λ l r. expression_room l r e)
  statement_room levels room (Emit e) = node levels room (λ l r. expression_room l r e)
  statement_room levels room (Abort e) = node levels room (λ l r. expression_room l r e)
  statement_room levels room (If c t e) =
      node levels room (λ l r. condition_room l r c >>= λ left. block_room l left t >>= λ less. block_room l less e)
  statement_room levels room (For v e n body) =
      node levels room (λ l r. if nat_le n MAX_TURNS then (expression_room l r e >>= λ left. block_room l left body) else Err Range)

  pub block_room : ℕ → ℕ → Block → Room
  block_room levels room End = Ok room
  block_room levels room (Then s b) = statement_room levels room s >>= λ left. block_room levels left b
