-- The values that a program compares with texts, by the spelling of the keys and of the texts.
use Rattle.std.specs.Prelude.{List, [], ◌∷◌, ◌++◌}
use Rattle.stm_program.specs.Syntax.{Expression, Text, Get, Condition, Equal, Less, Not, And, Or}
use Rattle.stm_program.specs.Syntax.{Statement, Set, Put, Del, If, For, Emit, Abort, Block, End, Then, ProgramTree}
use Rattle.stm_named_keys.specs.Named.{named}
use Rattle.stm_named_keys.specs.declared.compared.Compared.{Compared}

-- the value of a key on one side, a text on the other
abbrev pub sided : Expression → Expression → List Compared
sided (Get k) (Text s) = record { key = named k; text = s } ∷ []
sided _ _ = []

abbrev pub compared_in_condition : Condition → List Compared
compared_in_condition (Equal l r) = sided l r ++ sided r l
compared_in_condition (Less l r) = []
compared_in_condition (Not c) = compared_in_condition c
compared_in_condition (And c d) = compared_in_condition c ++ compared_in_condition d
compared_in_condition (Or c d) = compared_in_condition c ++ compared_in_condition d

abbrev mutual
  pub compared_in_statement : Statement → List Compared
  compared_in_statement (Set v e) = []
  compared_in_statement (Put k e l) = []
  compared_in_statement (Del k) = []
  compared_in_statement (If c t e) = compared_in_condition c ++ compared_in_block t ++ compared_in_block e
  compared_in_statement (For v e n b) = compared_in_block b
  compared_in_statement (Emit e) = []
  compared_in_statement (Abort e) = []

  pub compared_in_block : Block → List Compared
  compared_in_block End = []
  compared_in_block (Then s b) = compared_in_statement s ++ compared_in_block b

-- those of a program, in the order in which they are written
abbrev pub compared : ProgramTree → List Compared
compared p = compared_in_block p.statements
