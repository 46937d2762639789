-- The limits of a program: how many nodes it has, how deep they are nested, and what its numbers and texts may be.
use Rattle.std.specs.Prelude.{ℕ, ◌+◌, ◌≤◌, max, Bool, false, ◌||◌, ◌&&◌, not, nat_eq, nat_lt, bytes_eq, List, [], ◌∷◌, length, IsTrue, FitsSigned}
use Rattle.std.specs.List.{list_any}
use Rattle.std.specs.Int.{w64}
use Rattle.stm_program.specs.Syntax.{Expression, Text, Number, Variable, Get, Rev, Arithmetic, Cat, TextOf, NumOf, Condition, Equal, Less, Not, And, Or}
use Rattle.stm_program.specs.Syntax.{Statement, Set, Put, Del, If, For, Emit, Abort, Block, End, Then, ProgramTree}
use Rattle.stm_program.specs.declared.limits.TheConstants.{MAX_DEPTH, MAX_NODES, MAX_PREFETCH, MAX_TEXT, MAX_TURNS, MAX_VARIABLE, MAX_LEASE}
use Rattle.stm_program.specs.Size.{expression_nodes, condition_nodes, statement_nodes, block_nodes}

-- ---- depth: a node stands one deeper than the node that it is a part of

abbrev pub expression_depth : Expression → ℕ
expression_depth (Text s) = 1
expression_depth (Number z) = 1
expression_depth (Variable v) = 1
expression_depth (Get e) = 1 + expression_depth e
expression_depth (Rev e) = 1 + expression_depth e
expression_depth (Arithmetic o l r) = 1 + max (expression_depth l) (expression_depth r)
expression_depth (Cat l r) = 1 + max (expression_depth l) (expression_depth r)
expression_depth (TextOf e) = 1 + expression_depth e
expression_depth (NumOf e) = 1 + expression_depth e

abbrev pub condition_depth : Condition → ℕ
condition_depth (Equal l r) = 1 + max (expression_depth l) (expression_depth r)
condition_depth (Less l r) = 1 + max (expression_depth l) (expression_depth r)
condition_depth (Not c) = 1 + condition_depth c
condition_depth (And c d) = 1 + max (condition_depth c) (condition_depth d)
condition_depth (Or c d) = 1 + max (condition_depth c) (condition_depth d)

-- a block is no node: its statements stand one deeper than the statement that has it, and those of a program at 1
abbrev mutual
  pub statement_depth : Statement → ℕ
  statement_depth (Set v e) = 1 + expression_depth e
  statement_depth (Put k e l) = 1 + max (expression_depth k) (expression_depth e)
  statement_depth (Del k) = 1 + expression_depth k
  statement_depth (If c t e) = 1 + max (condition_depth c) (max (block_depth t) (block_depth e))
  statement_depth (For v e n b) = 1 + max (expression_depth e) (block_depth b)
  statement_depth (Emit e) = 1 + expression_depth e
  statement_depth (Abort e) = 1 + expression_depth e

  pub block_depth : Block → ℕ
  block_depth End = 0
  block_depth (Then s b) = max (statement_depth s) (block_depth b)

-- ---- ranges: a number has 64 bits, and a variable is one of sixteen

abbrev pub ExpressionInRange : Expression → Type 0
ExpressionInRange (Text s) = length s ≤ MAX_TEXT
ExpressionInRange (Number z) = FitsSigned w64 z
ExpressionInRange (Variable v) = v ≤ MAX_VARIABLE
ExpressionInRange (Get e) = ExpressionInRange e
ExpressionInRange (Rev e) = ExpressionInRange e
ExpressionInRange (Arithmetic o l r) = ExpressionInRange l × ExpressionInRange r
ExpressionInRange (Cat l r) = ExpressionInRange l × ExpressionInRange r
ExpressionInRange (TextOf e) = ExpressionInRange e
ExpressionInRange (NumOf e) = ExpressionInRange e

abbrev pub ConditionInRange : Condition → Type 0
ConditionInRange (Equal l r) = ExpressionInRange l × ExpressionInRange r
ConditionInRange (Less l r) = ExpressionInRange l × ExpressionInRange r
ConditionInRange (Not c) = ConditionInRange c
ConditionInRange (And c d) = ConditionInRange c × ConditionInRange d
ConditionInRange (Or c d) = ConditionInRange c × ConditionInRange d

abbrev mutual
  pub StatementInRange : Statement → Type 0
  StatementInRange (Set v e) = (v ≤ MAX_VARIABLE) × ExpressionInRange e
  StatementInRange (Put k e l) = ExpressionInRange k × ExpressionInRange e × (l ≤ MAX_LEASE)
  StatementInRange (Del k) = ExpressionInRange k
  StatementInRange (If c t e) = ConditionInRange c × BlockInRange t × BlockInRange e
  StatementInRange (For v e n b) = (v ≤ MAX_VARIABLE) × ExpressionInRange e × (n ≤ MAX_TURNS) × BlockInRange b
  StatementInRange (Emit e) = ExpressionInRange e
  StatementInRange (Abort e) = ExpressionInRange e

  pub BlockInRange : Block → Type 0
  BlockInRange End = Unit {0}
  BlockInRange (Then s b) = StatementInRange s × BlockInRange b

-- ---- the limits, with at most `levels` levels and `room` nodes

pub record ExpressionFits (levels room : ℕ) (e : Expression) : Type 0 where
  pub depth : expression_depth e ≤ levels
  pub nodes : expression_nodes e ≤ room
  pub ranges : ExpressionInRange e

pub record ConditionFits (levels room : ℕ) (c : Condition) : Type 0 where
  pub depth : condition_depth c ≤ levels
  pub nodes : condition_nodes c ≤ room
  pub ranges : ConditionInRange c

pub record StatementFits (levels room : ℕ) (s : Statement) : Type 0 where
  pub depth : statement_depth s ≤ levels
  pub nodes : statement_nodes s ≤ room
  pub ranges : StatementInRange s

pub record BlockFits (levels room : ℕ) (b : Block) : Type 0 where
  pub depth : block_depth b ≤ levels
  pub nodes : block_nodes b ≤ room
  pub ranges : BlockInRange b

-- ---- the list of keys that a program may begin with: it is no node

-- a text that is no key of a list: the empty one, and one with too many bytes
abbrev pub is_no_key : List ℕ → Bool
is_no_key key = nat_eq (length key) 0 || nat_lt MAX_TEXT (length key)

-- the list has a key twice
abbrev pub has_repeat : List (List ℕ) → Bool
has_repeat [] = false
has_repeat (key ∷ later) = list_any (bytes_eq key) later || has_repeat later

abbrev pub list_fits : List (List ℕ) → Bool
list_fits keys = not (nat_lt MAX_PREFETCH (length keys)) && not (list_any is_no_key keys) && not (has_repeat keys)

abbrev pub ListFits : List (List ℕ) → Type 0
ListFits keys = IsTrue (list_fits keys)

-- where there is no list, nothing of it has to be checked
abbrev pub fits_with : List (List ℕ) → Type 0 → Type 0
fits_with [] rest = rest
fits_with (key ∷ keys) rest = ListFits (key ∷ keys) × rest

-- a program has at most MAX_NODES nodes, at most MAX_DEPTH deep, and its list is within its own limits
abbrev pub Fits : ProgramTree → Type 0
Fits p = fits_with p.prefetch (BlockFits MAX_DEPTH MAX_NODES p.statements)
