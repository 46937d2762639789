-- The tree of a statement, whose parts are seen as their trees already.
use Rattle.stm_program.specs.Syntax as tree
use Rattle.stm_program.specs.Syntax.{Statement}
use Rattle.stm_program.specs.declared.statement.StmtNode.{StmtNode}
use Rattle.stm_program.specs.declared.statement.StmtNode.TheVariants.{Set, Put, Del, If, For, Emit, Abort}

abbrev pub statement_of : StmtNode → Statement
statement_of (Set v e) = tree.Set v e.value
statement_of (Put k e l) = tree.Put k.value e.value l
statement_of (Del k) = tree.Del k.value
statement_of (If c t e) = tree.If c.value t e
statement_of (For v e n b) = tree.For v e.value n b
statement_of (Emit e) = tree.Emit e.value
statement_of (Abort e) = tree.Abort e.value
