-- The statements of a program, wherever they are stored.
use Rattle.stm_program.specs.Syntax.{Block}
use Rattle.stm_program.specs.BlockView.{block_of}
use Rattle.stm_program.specs.declared.held.Held.{Held}
use Rattle.stm_program.specs.declared.held.Held.TheVariants.{Own, Shared}

abbrev pub statements_held : Held → Block
statements_held (Own statements) = block_of statements.items
statements_held (Shared block) = block
