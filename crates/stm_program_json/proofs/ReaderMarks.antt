-- The marks of data, spelled out for each word and number of elements, as the reader takes them: a step between the first
-- fault's definition and the reader.
use Rattle.std.proofs.Common.{ℕ, suc, List, [], ◌∷◌, ◌++◌, length, Option, Some, None}
use Rattle.std.specs.Prelude.{nat_le, if◌then◌else◌}
use Rattle.serde_json.specs.Data.{Data, number, string, array, Items, no_items, item}
use Rattle.serde_json.specs.Find.{as_integer}
use Rattle.stm_json.specs.declared.cause.Cause.TheVariants.{Shape, TooLong}
use Rattle.stm_program_json.specs.declared.words.ExprWord.{ExprWord}
use Rattle.stm_program_json.specs.declared.words.ExprWord.TheVariants as expression
use Rattle.stm_program_json.specs.declared.words.CondWord.{CondWord}
use Rattle.stm_program_json.specs.declared.words.CondWord.TheVariants as condition
use Rattle.stm_program_json.specs.declared.words.StmtWord.{StmtWord}
use Rattle.stm_program_json.specs.declared.words.StmtWord.TheVariants as statement
use Rattle.stm_program_json.specs.Words.{expression_word, condition_word, statement_word}
use Rattle.stm_json.specs.Faults.{at}
use Rattle.stm_program_json.specs.FirstFault.{Mark, Node, wrong, number_marks, whole_marks}
use Rattle.stm_program.specs.declared.limits.TheConstants.{MAX_TEXT, MAX_TURNS, MAX_VARIABLE, MAX_LEASE}

-- ---- expressions

-- an array of a word and one element, of which the marks are given for the case that it is an expression
abbrev pub expression_of_one : List ℕ → Option ExprWord → Data → List Mark → List Mark
expression_of_one p None a ms = wrong p Shape
expression_of_one p (Some expression.Var) a ms = number_marks (at p 1) MAX_VARIABLE a
expression_of_one p (Some (expression.Unary u)) a ms = ms
expression_of_one p (Some (expression.Binary b)) a ms = wrong p Shape

abbrev pub expression_of_two : List ℕ → Option ExprWord → List Mark → List Mark
expression_of_two p None ms = wrong p Shape
expression_of_two p (Some expression.Var) ms = wrong p Shape
expression_of_two p (Some (expression.Unary u)) ms = wrong p Shape
expression_of_two p (Some (expression.Binary b)) ms = ms

-- what is marked in a node, after the node itself
abbrev pub expression_inner : ℕ → List ℕ → Data → List Mark
expression_inner k p (string s) = if nat_le (length s) MAX_TEXT then [] else wrong p TooLong
expression_inner k p (number n) = whole_marks p (as_integer n)
expression_inner k p (array (item (string w) (item a no_items))) =
    expression_of_one p (expression_word w) a (Node (suc k) (at p 1) ∷ expression_inner (suc k) (at p 1) a)
expression_inner k p (array (item (string w) (item a (item b no_items)))) =
    expression_of_two p (expression_word w) ((Node (suc k) (at p 1) ∷ expression_inner (suc k) (at p 1) a) ++
    (Node (suc k) (at p 2) ∷ expression_inner (suc k) (at p 2) b))
expression_inner k p _ = wrong p Shape

abbrev pub expression_marks : ℕ → List ℕ → Data → List Mark
expression_marks k p d = Node k p ∷ expression_inner k p d

-- ---- conditions

abbrev pub condition_of_one : List ℕ → Option CondWord → List Mark → List Mark
condition_of_one p None ms = wrong p Shape
condition_of_one p (Some (condition.Comparison c)) ms = wrong p Shape
condition_of_one p (Some condition.Not) ms = ms
condition_of_one p (Some (condition.Connective c)) ms = wrong p Shape

-- the marks of the two elements are given for the case that they are expressions, and conditions
abbrev pub condition_of_two : List ℕ → Option CondWord → List Mark → List Mark → List Mark
condition_of_two p None es cs = wrong p Shape
condition_of_two p (Some (condition.Comparison c)) es cs = es
condition_of_two p (Some condition.Not) es cs = wrong p Shape
condition_of_two p (Some (condition.Connective c)) es cs = cs

abbrev pub condition_inner : ℕ → List ℕ → Data → List Mark
condition_inner k p (array (item (string w) (item a no_items))) =
    condition_of_one p (condition_word w) (Node (suc k) (at p 1) ∷ condition_inner (suc k) (at p 1) a)
condition_inner k p (array (item (string w) (item a (item b no_items)))) =
    condition_of_two p (condition_word w) (expression_marks (suc k) (at p 1) a ++ expression_marks (suc k) (at p 2) b)
    ((Node (suc k) (at p 1) ∷ condition_inner (suc k) (at p 1) a) ++ (Node (suc k) (at p 2) ∷ condition_inner (suc k) (at p 2) b))
condition_inner k p _ = wrong p Shape

abbrev pub condition_marks : ℕ → List ℕ → Data → List Mark
condition_marks k p d = Node k p ∷ condition_inner k p d

-- ---- statements and blocks

abbrev pub statement_of_one : List ℕ → Option StmtWord → List Mark → List Mark
statement_of_one p None ms = wrong p Shape
statement_of_one p (Some statement.Set) ms = wrong p Shape
statement_of_one p (Some statement.Put) ms = wrong p Shape
statement_of_one p (Some statement.If) ms = wrong p Shape
statement_of_one p (Some statement.For) ms = wrong p Shape
statement_of_one p (Some (statement.Simple s)) ms = ms

abbrev pub statement_of_two : List ℕ → Option StmtWord → List Mark → List Mark
statement_of_two p None ms = wrong p Shape
statement_of_two p (Some statement.Set) ms = ms
statement_of_two p (Some statement.Put) ms = wrong p Shape
statement_of_two p (Some statement.If) ms = wrong p Shape
statement_of_two p (Some statement.For) ms = wrong p Shape
statement_of_two p (Some (statement.Simple s)) ms = wrong p Shape

-- the marks of the three elements are given for the case that they are those of a put, and of an if
abbrev pub statement_of_three : List ℕ → Option StmtWord → List Mark → List Mark → List Mark
statement_of_three p None ps is = wrong p Shape
statement_of_three p (Some statement.Set) ps is = wrong p Shape
statement_of_three p (Some statement.Put) ps is = ps
statement_of_three p (Some statement.If) ps is = is
statement_of_three p (Some statement.For) ps is = wrong p Shape
statement_of_three p (Some (statement.Simple s)) ps is = wrong p Shape

abbrev pub statement_of_four : List ℕ → Option StmtWord → List Mark → List Mark
statement_of_four p None ms = wrong p Shape
statement_of_four p (Some statement.Set) ms = wrong p Shape
statement_of_four p (Some statement.Put) ms = wrong p Shape
statement_of_four p (Some statement.If) ms = wrong p Shape
statement_of_four p (Some statement.For) ms = ms
statement_of_four p (Some (statement.Simple s)) ms = wrong p Shape

abbrev mutual
  pub statement_inner : ℕ → List ℕ → Data → List Mark
  statement_inner k p (array (item (string w) (item a no_items))) =
      statement_of_one p (statement_word w) (expression_marks (suc k) (at p 1) a)
  statement_inner k p (array (item (string w) (item a (item b no_items)))) =
      statement_of_two p (statement_word w) (number_marks (at p 1) MAX_VARIABLE a ++ expression_marks (suc k) (at p 2) b)
  statement_inner k p (array (item (string w) (item a (item b (item c no_items))))) =
      statement_of_three p (statement_word w)
      (expression_marks (suc k) (at p 1) a ++ (expression_marks (suc k) (at p 2) b ++ number_marks (at p 3) MAX_LEASE c))
      (condition_marks (suc k) (at p 1) a ++ (block_marks (suc k) (at p 2) b ++ block_marks (suc k) (at p 3) c))
  statement_inner k p (array (item (string w) (item a (item b (item c (item e no_items)))))) =
      statement_of_four p (statement_word w)
      (number_marks (at p 1) MAX_VARIABLE a ++ (expression_marks (suc k) (at p 2) b ++ (number_marks (at p 3) MAX_TURNS c ++ block_marks (suc k) (at p 4) e)))
  statement_inner k p _ = wrong p Shape

  -- the statements of an array, at the given depth
  pub block_marks : ℕ → List ℕ → Data → List Mark
  block_marks k p (array ds) = statements_marks k p 0 ds
  block_marks k p _ = wrong p Shape

  -- those from an index on
  pub statements_marks : ℕ → List ℕ → ℕ → Items → List Mark
  statements_marks k p index no_items = []
  statements_marks k p index (item d ds) = (Node k (at p index) ∷ statement_inner k (at p index) d) ++ statements_marks k p (suc index) ds

abbrev pub statement_marks : ℕ → List ℕ → Data → List Mark
statement_marks k p d = Node k p ∷ statement_inner k p d
