-- The one spelling of a program.
use Rattle.std.specs.Prelude.{ℕ, List, [], ◌∷◌, codes}
use Rattle.serde_json.specs.Data.{Data, number, unsigned, string, array, Items, no_items, item}
use Rattle.serde_json.specs.Find.{of_integer}
use Rattle.stm_program.specs.Syntax.{Expression, Text, Number, Variable, Get, Rev, Arithmetic, Cat, TextOf, NumOf, Condition, Equal, Less, Not, And, Or}
use Rattle.stm_program.specs.Syntax.{Statement, Set, Put, Del, If, For, Emit, Abort, Block, End, Then, ProgramTree}
use Rattle.stm_json.specs.Parts.{spelled}
use Rattle.stm_program.specs.Operators.{operator_word}

abbrev pub written_number : ℕ → Data
written_number n = number (unsigned n)

abbrev pub written_expression : Expression → Data
written_expression (Text s) = string s
written_expression (Number z) = number (of_integer z)
written_expression (Variable v) = spelled (codes "var") (written_number v ∷ [])
written_expression (Get e) = spelled (codes "get") (written_expression e ∷ [])
written_expression (Rev e) = spelled (codes "rev") (written_expression e ∷ [])
written_expression (Arithmetic o l r) = spelled (operator_word o) (written_expression l ∷ written_expression r ∷ [])
written_expression (Cat l r) = spelled (codes "cat") (written_expression l ∷ written_expression r ∷ [])
written_expression (TextOf e) = spelled (codes "text_of") (written_expression e ∷ [])
written_expression (NumOf e) = spelled (codes "num_of") (written_expression e ∷ [])

abbrev pub written_condition : Condition → Data
written_condition (Equal l r) = spelled (codes "eq") (written_expression l ∷ written_expression r ∷ [])
written_condition (Less l r) = spelled (codes "less") (written_expression l ∷ written_expression r ∷ [])
written_condition (Not c) = spelled (codes "not") (written_condition c ∷ [])
written_condition (And c d) = spelled (codes "and") (written_condition c ∷ written_condition d ∷ [])
written_condition (Or c d) = spelled (codes "or") (written_condition c ∷ written_condition d ∷ [])

abbrev mutual
  pub written_statement : Statement → Data
  written_statement (Set v e) = spelled (codes "set") (written_number v ∷ written_expression e ∷ [])
  written_statement (Put k e l) = spelled (codes "put") (written_expression k ∷ written_expression e ∷ written_number l ∷ [])
  written_statement (Del k) = spelled (codes "del") (written_expression k ∷ [])
  written_statement (If c t e) = spelled (codes "if") (written_condition c ∷ array (written_statements t) ∷ array (written_statements e) ∷ [])
  written_statement (For v e n b) = spelled (codes "for") (written_number v ∷ written_expression e ∷ written_number n ∷ array (written_statements b) ∷ [])
  written_statement (Emit e) = spelled (codes "emit") (written_expression e ∷ [])
  written_statement (Abort e) = spelled (codes "abort") (written_expression e ∷ [])

  pub written_statements : Block → Items
  written_statements End = no_items
  written_statements (Then s b) = item (written_statement s) (written_statements b)

-- elements after others
abbrev pub items_after : List Data → Items → Items
items_after [] es = es
items_after (d ∷ ds) es = item d (items_after ds es)

abbrev pub written_block : Block → Data
written_block b = array (written_statements b)

abbrev pub written_keys : List (List ℕ) → Items
written_keys [] = no_items
written_keys (key ∷ keys) = item (string key) (written_keys keys)

-- a list is written where it has keys
abbrev pub after_list : List (List ℕ) → Items → Items
after_list [] ds = ds
after_list (key ∷ keys) ds = item (spelled (codes "prefetch") (array (written_keys (key ∷ keys)) ∷ [])) ds

-- a program is the array of its statements, after its list
abbrev pub written_program : ProgramTree → Data
written_program p = array (after_list p.prefetch (written_statements p.statements))
