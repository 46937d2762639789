-- How much of a scenario a program takes: its nodes, and the bytes of its texts and of the keys of its list; and an event of the store: its compares and
-- operations, and the bytes of its texts. Its JSON has no fewer bytes. A value that is defined takes its nodes and the bytes of its texts.
use Rattle.std.specs.Prelude.{ℕ, ◌+◌, ◌-◌, List, [], ◌∷◌, length, Option, Some, None}
use Rattle.stm_program.specs.Syntax.{Expression, Text, Number, Variable, Get, Rev, Arithmetic, Cat, TextOf, NumOf, Condition, Equal, Less, Not, And, Or}
use Rattle.stm_program.specs.Syntax.{Statement, Set, Put, Del, If, For, Emit, Abort, Block, End, Then, ProgramTree}
use Rattle.stm_outcome.specs.declared.txn.Compare.{Compare}
use Rattle.stm_outcome.specs.declared.txn.Op.{Op}
use Rattle.stm_outcome.specs.declared.txn.Op.TheVariants as op
use Rattle.stm_outcome.specs.declared.txn.Target.{Target}
use Rattle.stm_outcome.specs.declared.txn.Target.TheVariants as target
use Rattle.stm_outcome.specs.declared.txn.Txn.{Txn}
use Rattle.stm_terms.specs.declared.constants.Constant.{Constant}
use Rattle.stm_terms.specs.declared.constants.Constant.TheVariants as constant
use Rattle.stm_terms.specs.declared.kinds.Valued.{Valued}
use Rattle.stm_terms.specs.declared.look_ups.LookUp.{LookUp}
use Rattle.stm_terms.specs.declared.look_ups.Other.{Other}
use Rattle.stm_events.specs.declared.event.WorldEvent.{WorldEvent}
use Rattle.stm_events.specs.declared.event.WorldEvent.TheVariants as event

abbrev pub expression_bulk : Expression → ℕ
expression_bulk (Text s) = 1 + length s
expression_bulk (Number z) = 1
expression_bulk (Variable v) = 1
expression_bulk (Get e) = 1 + expression_bulk e
expression_bulk (Rev e) = 1 + expression_bulk e
expression_bulk (Arithmetic o l r) = 1 + expression_bulk l + expression_bulk r
expression_bulk (Cat l r) = 1 + expression_bulk l + expression_bulk r
expression_bulk (TextOf e) = 1 + expression_bulk e
expression_bulk (NumOf e) = 1 + expression_bulk e

abbrev pub condition_bulk : Condition → ℕ
condition_bulk (Equal l r) = 1 + expression_bulk l + expression_bulk r
condition_bulk (Less l r) = 1 + expression_bulk l + expression_bulk r
condition_bulk (Not c) = 1 + condition_bulk c
condition_bulk (And c d) = 1 + condition_bulk c + condition_bulk d
condition_bulk (Or c d) = 1 + condition_bulk c + condition_bulk d

abbrev mutual
  pub statement_bulk : Statement → ℕ
  statement_bulk (Set v e) = 1 + expression_bulk e
  statement_bulk (Put k e l) = 1 + expression_bulk k + expression_bulk e
  statement_bulk (Del k) = 1 + expression_bulk k
  statement_bulk (If c t e) = 1 + condition_bulk c + block_bulk t + block_bulk e
  statement_bulk (For v e n b) = 1 + expression_bulk e + block_bulk b
  statement_bulk (Emit e) = 1 + expression_bulk e
  statement_bulk (Abort e) = 1 + expression_bulk e

  pub block_bulk : Block → ℕ
  block_bulk End = 0
  block_bulk (Then s b) = statement_bulk s + block_bulk b

abbrev pub keys_bulk : List (List ℕ) → ℕ
keys_bulk [] = 0
keys_bulk (key ∷ keys) = 1 + length key + keys_bulk keys

abbrev pub program_bulk : ProgramTree → ℕ
program_bulk p = keys_bulk p.prefetch + block_bulk p.statements

-- ---- how much of so much room is left behind what a name is defined as: a text or a number alone stands in the source

abbrev pub other_bulk : Option Other → ℕ
other_bulk None = 0
other_bulk (Some o) = expression_bulk o.value

abbrev pub others_left : ℕ → List LookUp → ℕ
others_left room [] = room
others_left room (l ∷ ls) = others_left (room - other_bulk l.other) ls

abbrev pub value_left : ℕ → Valued → ℕ
value_left room x = others_left (room - expression_bulk x.expression) x.look_ups

abbrev pub constant_left : ℕ → Constant → ℕ
constant_left room (constant.Alone a) = room
constant_left room (constant.List items) = room
constant_left room (constant.Value d) = value_left room d.value

-- ---- how much of so much room is left behind an event

abbrev pub target_bulk : Target → ℕ
target_bulk (target.Value s) = length s
target_bulk _ = 0

abbrev pub compares_left : ℕ → List Compare → ℕ
compares_left room [] = room
compares_left room (c ∷ cs) = compares_left (room - (1 + length c.key + target_bulk c.target)) cs

abbrev pub op_bulk : Op → ℕ
op_bulk (op.Get key rev) = 1 + length key
op_bulk (op.Put key value lease) = 1 + length key + length value
op_bulk (op.Del key) = 1 + length key

abbrev pub ops_left : ℕ → List Op → ℕ
ops_left room [] = room
ops_left room (o ∷ os) = ops_left (room - op_bulk o) os

abbrev pub txn_left : ℕ → Txn → ℕ
txn_left room txn = ops_left (ops_left (compares_left room txn.compares) txn.success) txn.failure

abbrev pub event_left : ℕ → WorldEvent → ℕ
event_left room (event.Txn txn) = txn_left room txn
event_left room (event.WatchKey key from) = room - length key
event_left room (event.WatchRange first end from) = room - (length first + length end)
event_left room _ = room
