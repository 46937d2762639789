-- The tree of an expression, whose parts are seen as their trees already.
use Rattle.stm_program.specs.Syntax as tree
use Rattle.stm_program.specs.Syntax.{Expression}
use Rattle.stm_program.specs.declared.expression.ExprNode.{ExprNode}
use Rattle.stm_program.specs.declared.expression.ExprNode.TheVariants.{Text, Number, Variable, Get, Rev, Arithmetic, Cat, TextOf, NumOf}

abbrev pub expression_of : ExprNode → Expression
expression_of (Text s) = tree.Text s
expression_of (Number z) = tree.Number z
expression_of (Variable v) = tree.Variable v
expression_of (Get e) = tree.Get e.value
expression_of (Rev e) = tree.Rev e.value
expression_of (Arithmetic o l r) = tree.Arithmetic o l.value r.value
expression_of (Cat l r) = tree.Cat l.value r.value
expression_of (TextOf e) = tree.TextOf e.value
expression_of (NumOf e) = tree.NumOf e.value
