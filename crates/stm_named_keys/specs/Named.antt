-- The keys that a program names: those that it looks up and those that it puts, as far as its spelling says them, whatever keys and variables have.
use Rattle.std.specs.Prelude.{List, [], ◌∷◌, ◌++◌, map, ℕ, true, false, if◌then◌else◌}
use Rattle.std.specs.Fmt.{signed_decimal}
use Rattle.stm_program.specs.Syntax.{Expression, Text, Number, Variable, Get, Rev, Arithmetic, Cat, TextOf, NumOf, Condition, Equal, Less, Not, And, Or}
use Rattle.stm_program.specs.Syntax.{Statement, Set, Put, Del, If, For, Emit, Abort, Block, End, Then, ProgramTree}
use Rattle.stm_named_keys.specs.declared.names.Name.{Name}

-- this text and no other
abbrev pub whole : List ℕ → Name
whole text = record { text = text; is_whole = true }

-- any text
abbrev pub any_text : Name
any_text = record { text = []; is_whole = false }

-- what one name and then another say of two texts in a row
abbrev pub followed : Name → Name → Name
followed left right = if left.is_whole then record { text = left.text ++ right.text; is_whole = right.is_whole } else left

-- what is said of the text of a number
abbrev pub number_named : Expression → Name
number_named (Number z) = whole (signed_decimal z)
number_named (Text s) = any_text
number_named (Variable v) = any_text
number_named (Get e) = any_text
number_named (Rev e) = any_text
number_named (Arithmetic o l r) = any_text
number_named (Cat l r) = any_text
number_named (TextOf e) = any_text
number_named (NumOf e) = any_text

-- what the spelling of an expression says of the text that it gives
abbrev pub named : Expression → Name
named (Text s) = whole s
named (Cat l r) = followed (named l) (named r)
named (TextOf e) = number_named e
named (Number z) = any_text
named (Variable v) = any_text
named (Get e) = any_text
named (Rev e) = any_text
named (Arithmetic o l r) = any_text
named (NumOf e) = any_text

-- the keys that an expression looks up, in the order in which it does
abbrev pub in_expression : Expression → List Name
in_expression (Text s) = []
in_expression (Number z) = []
in_expression (Variable v) = []
in_expression (Get k) = in_expression k ++ named k ∷ []
in_expression (Rev k) = in_expression k ++ named k ∷ []
in_expression (Arithmetic o l r) = in_expression l ++ in_expression r
in_expression (Cat l r) = in_expression l ++ in_expression r
in_expression (TextOf e) = in_expression e
in_expression (NumOf e) = in_expression e

abbrev pub in_condition : Condition → List Name
in_condition (Equal l r) = in_expression l ++ in_expression r
in_condition (Less l r) = in_expression l ++ in_expression r
in_condition (Not c) = in_condition c
in_condition (And c d) = in_condition c ++ in_condition d
in_condition (Or c d) = in_condition c ++ in_condition d

-- the keys that statements look up, in the order in which they are written
abbrev mutual
  pub in_statement : Statement → List Name
  in_statement (Set v e) = in_expression e
  in_statement (Put k e l) = in_expression k ++ in_expression e
  in_statement (Del k) = in_expression k
  in_statement (If c t e) = in_condition c ++ in_block t ++ in_block e
  in_statement (For v e n b) = in_expression e ++ in_block b
  in_statement (Emit e) = in_expression e
  in_statement (Abort e) = in_expression e

  pub in_block : Block → List Name
  in_block End = []
  in_block (Then s b) = in_statement s ++ in_block b

-- the keys that statements put, in the order in which they are written
abbrev mutual
  pub put_in_statement : Statement → List Name
  put_in_statement (Set v e) = []
  put_in_statement (Put k e l) = named k ∷ []
  put_in_statement (Del k) = []
  put_in_statement (If c t e) = put_in_block t ++ put_in_block e
  put_in_statement (For v e n b) = put_in_block b
  put_in_statement (Emit e) = []
  put_in_statement (Abort e) = []

  pub put_in_block : Block → List Name
  put_in_block End = []
  put_in_block (Then s b) = put_in_statement s ++ put_in_block b

-- the keys that a program looks up: first those of its list
abbrev pub looked_up : ProgramTree → List Name
looked_up p = map whole p.prefetch ++ in_block p.statements

-- the keys that a program puts
abbrev pub put : ProgramTree → List Name
put p = put_in_block p.statements
