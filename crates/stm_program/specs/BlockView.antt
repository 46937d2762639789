-- A block is its statements, in order.
use Rattle.std.specs.Prelude.{List, [], ◌∷◌}
use Rattle.stm_program.specs.Syntax.{Statement, Block, End, Then}

abbrev pub block_of : List Statement → Block
block_of [] = End
block_of (s ∷ ss) = Then s (block_of ss)
